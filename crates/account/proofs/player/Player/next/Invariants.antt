use Rattle.std.proofs.Common.{◌≡◌, ◌<◌, ◌≤◌, ◌++◌}
use Rattle.account.specs.Pages.{shown, filled}
use Rattle.account.specs.Players.{rest, left}
use Rattle.account.proofs.player.Player.next.Given as goal

-- what the page holds and what is still to come make the whole
abbrev pub invariant-loop-heap : goal.invariant-loop-heap
invariant-loop-heap l =
    record {
      whole : shown l.page ++ rest l.self ≡ rest l.initial.self;
      few : left l.self ≤ left l.initial.self;
      goes : 0 < filled l.page → left l.self < left l.initial.self;
    }

abbrev pub decreases-loop-heap : goal.decreases-loop-heap
decreases-loop-heap l = left l.self
