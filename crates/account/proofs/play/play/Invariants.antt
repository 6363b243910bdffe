use Rattle.std.proofs.Common.{◌≡◌, ◌++◌, vec_items}
use Rattle.account.specs.Players.{rest, left}
use Rattle.account.specs.Texts.{account}
use Rattle.account.proofs.play.play.Given as goal

-- what is written and what is still to come make the whole
abbrev pub invariant-loop-player : goal.invariant-loop-player
invariant-loop-player l = vec_items l.out ++ rest l.player ≡ account l.input

abbrev pub decreases-loop-player : goal.decreases-loop-player
decreases-loop-player l = left l.player
