use Rattle.heap_banks.proofs.Piling.{made_as, pile_holds}
use Rattle.heap_banks.proofs.pile.pile.Goals as goal

pub returns : goal.returns
returns g c =
    let first = c.in_ok-first.ensures in
    pile_holds c.args.x _ _ c.split.result c.split.ensures first.board first.size first.numbers (made_as c.args.x _ c.in_ok-second.ensures)
