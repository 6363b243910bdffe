use Rattle.std.proofs.Common.{sym, ap, rules}
use Rattle.machine.specs.Machines.{row_of}
use Rattle.machine.specs.Runs.{step_call}
use Rattle.register.specs.Seen.{seen}
use Rattle.register.specs.Stages.{choice_at}
use Rattle.register.proofs.Reaching.{reaching}
use Rattle.register.proofs.Singles.{single_as}
use Rattle.register.proofs.register.Register.step.Goals as goal

pub returns-clause-call : goal.returns-clause-call
returns-clause-call g c = search rules

pub returns-clause-reached : goal.returns-clause-reached
returns-clause-reached g c =
    let s = c.args.station in
    let choice = choice_at (g.B.Bank.chooses c.args.bank.now) s (row_of c.args.self.now.table.rows s) in
    reaching g.S.Stamp.make _ _ (step_call s choice) (sym (ap (λ p. p.1) (returns-clause-call g c)))

pub returns-clause-single : goal.returns-clause-single
returns-clause-single g c =
    let s = c.args.station in
    let choice = choice_at (g.B.Bank.chooses c.args.bank.now) s (row_of c.args.self.now.table.rows s) in
    single_as g.S.Stamp.make (seen c.args.self.now (g.B.Bank.meaning c.args.bank.now) c.args.journal.now.lines.now) choice s _ (returns-clause-call g c)
