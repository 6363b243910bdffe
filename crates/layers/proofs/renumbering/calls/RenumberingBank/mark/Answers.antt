use Rattle.layers.proofs.Renumberings.{mark_through}
use Rattle.layers.proofs.renumbering.calls.RenumberingBank.mark.Goals as goal

pub returns : goal.returns
returns g c =
    let s = c.args.self.now in
    mark_through s.map (g.B.Bank.meaning s.below) c.args.writer c.args.reader _ c.cell_below-w.ensures c.deepen_answer.ensures c.mark.ensures
