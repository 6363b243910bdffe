use Rattle.std.proofs.Common.{◌≡◌, ℕ, ◌+◌, ◌<◌, length, get_or}
use Rattle.layers.specs.Permutations.{Stands}
use Rattle.layers.proofs.permutation.calls.positions.Given as goal

abbrev pub invariant-loop-v : goal.invariant-loop-v
invariant-loop-v l = (length l.places ≡ length l.list) × ((v : ℕ) → v < l.v → Stands (length l.list) l.list (v + 1) (get_or l.places v 0))
