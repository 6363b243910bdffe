use Rattle.std.proofs.Common.{arith, rules}
use Rattle.std.proofs.lemmas.Fmt.{decimal_digit, length-decimal-le}
use Rattle.account.proofs.page.Page.decimal.Goals as goal

pub write_digits-start-requires : goal.write_digits-start-requires
write_digits-start-requires c = search (rules, length-decimal-le 20)

pub returns-then-number-lt10 : goal.returns-then-number-lt10
returns-then-number-lt10 c = let d = decimal_digit c.args.number c.if-number-lt10.true in grind (arith, c.push.ensures.items, c.push.ensures.len)
