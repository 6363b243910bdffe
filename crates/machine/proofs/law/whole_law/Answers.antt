-- The law is proved in Whole, what refusals leave in Leaving, the order of spreading in Finishing.
use Rattle.machine.proofs.Finishing.{spreads_once}
use Rattle.machine.proofs.Leaving.{refusals_leave}
use Rattle.machine.proofs.Whole.{law_of_runs}
use Rattle.machine.proofs.law.whole_law.Goals as goal

pub returns : goal.returns
returns g c = record { law = λ m laws. law_of_runs m laws; refusals = λ m. refusals_leave m; spreads = spreads_once }
