use Rattle.layers.proofs.Renumberings.{read_through}
use Rattle.layers.proofs.renumbering.calls.RenumberingBank.read.Goals as goal

pub returns : goal.returns
returns g c =
    let s = c.args.self.now in
    read_through s.map (g.B.Bank.meaning s.below) (g.B.Bank.chooses s.below) c.args.writer c.args.reader c.cell_below-w.ensures c.deepen_answer.ensures c.read.ensures
