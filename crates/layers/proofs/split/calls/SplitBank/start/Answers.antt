use Rattle.std.proofs.Common.{sym, ◌∙◌}
use Rattle.layers.proofs.Splits.{start_first, start_second, in_the_first, in_the_second}
use Rattle.layers.proofs.split.calls.SplitBank.start.Goals as goal

pub returns-then-lies_first : goal.returns-then-lies_first
returns-then-lies_first g c =
    let s = c.args.self.now in
    let m = g.B.Bank.meaning s.first in
    let n = g.C.Bank.meaning s.second in
    in_the_first s.point m n c.deepen_answer.ensures c.start.ensures ∙ start_first s.point m n c.args.writer c.args.reader c.args.x (sym c.lies_first.ensures ∙ c.if-lies_first.true)

pub returns-else-lies_first : goal.returns-else-lies_first
returns-else-lies_first g c =
    let s = c.args.self.now in
    let m = g.B.Bank.meaning s.first in
    let n = g.C.Bank.meaning s.second in
    in_the_second s.point m n c.deepen_answer-else-lies_first.ensures c.start-else-lies_first.ensures ∙ start_second s.point m n c.args.writer c.args.reader c.args.x (sym c.lies_first.ensures ∙ c.if-lies_first.false)
