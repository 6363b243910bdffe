use Rattle.std.proofs.Common.{sym, ◌∙◌}
use Rattle.layers.proofs.Splits.{finish_first, in_the_first}
use Rattle.layers.proofs.split.calls.SplitBank.finish.Goals as goal

pub returns-then-lies_first : goal.returns-then-lies_first
returns-then-lies_first g c =
    let s = c.args.self.now in
    let m = g.B.Bank.meaning s.first in
    let n = g.C.Bank.meaning s.second in
    in_the_first s.point m n c.deepen_answer.ensures c.finish.ensures ∙ finish_first s.point m n c.args.writer (sym c.lies_first.ensures ∙ c.if-lies_first.true)
