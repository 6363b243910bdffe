use Rattle.account.specs.Players.{left}
use Rattle.replay.proofs.main.Given as goal

abbrev pub decreases-loop-player : goal.decreases-loop-player
decreases-loop-player l = left l.player
