use Rattle.std.proofs.Common.{sym, ap}
use Rattle.banks.specs.Marks.{is_up}
use Rattle.machine.specs.Machines.{with_bank}
use Rattle.machine.specs.Runs.{mark_call}
use Rattle.register.specs.Seen.{seen}
use Rattle.register.proofs.Reaching.{reaching}
use Rattle.register.proofs.marks.mark.Goals as goal

pub returns-clause-reached : goal.returns-clause-reached
returns-clause-reached g c =
    let before = g.B.Bank.meaning c.args.bank.now in
    λ r lines.
    reaching g.S.Stamp.make _ _ (mark_call c.args.writer c.args.reader (is_up c.args.mark))
    (ap (with_bank (seen r before lines)) (sym (ap (λ p. p.1) c.mark.ensures)))
