-- The runs are in Witnesses.
use Rattle.machine.proofs.Witnesses.{quiet_breaks, early_breaks, tied_breaks}
use Rattle.machine.proofs.law.witnesses.Goals as goal

pub returns : goal.returns
returns c = (quiet_breaks, early_breaks, tied_breaks)
