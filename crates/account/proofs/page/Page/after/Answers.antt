use Rattle.std.proofs.Common.{arith}
use Rattle.std.proofs.lemmas.Fmt.{decimal_digit}
use Rattle.account.proofs.page.Page.after.Goals as goal

pub returns-then-number-lt10 : goal.returns-then-number-lt10
returns-then-number-lt10 c = let d = decimal_digit c.args.number c.if-number-lt10.true in grind (arith, c.word.ensures)
