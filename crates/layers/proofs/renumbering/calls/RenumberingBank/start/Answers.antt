use Rattle.layers.proofs.Renumberings.{start_through}
use Rattle.layers.proofs.renumbering.calls.RenumberingBank.start.Goals as goal

pub returns : goal.returns
returns g c =
    let s = c.args.self.now in
    start_through s.map (g.B.Bank.meaning s.below) c.args.writer c.args.reader c.args.x c.cell_below-w.ensures c.deepen_answer.ensures c.start.ensures
