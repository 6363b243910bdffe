use Rattle.std.proofs.Common.{◌≡◌, ◌+◌, ◌*◌, ◌<◌, ◌≤◌}
use Rattle.stepping.proofs.rounds.step_all.Given as goal

abbrev pub invariant-loop-station : goal.invariant-loop-station
invariant-loop-station l = (l.counter < 48) × (l.station ≤ 17) × (l.accepted + 1 ≡ 16 * l.counter + l.station)

-- 16 steps are accepted for each turn
abbrev pub invariant-loop : goal.invariant-loop
invariant-loop l = (l.counter ≤ 48) × (l.accepted ≡ 16 * l.counter)
