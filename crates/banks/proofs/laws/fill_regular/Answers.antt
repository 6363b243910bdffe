use Rattle.banks.proofs.Histories.{regular, undisturbed}
use Rattle.banks.proofs.laws.fill_regular.Goals as goal

pub returns-clause-regular : goal.returns-clause-regular
returns-clause-regular g c = regular (g.B.Bank.meaning c.args.bank.now) c.args.x

pub returns-clause-undisturbed : goal.returns-clause-undisturbed
returns-clause-undisturbed g c m = undisturbed m
