-- What a permutation of stations says. Assumes nothing.
--     number_at p x       the number at position x
--     position_at p x     the position of number x
--     numbering o         of a permutation that was made, the size and the numbers
use Rattle.std.specs.Prelude.{ℕ, Some, None, Option}
use Rattle.layers.specs.Permutations.{look}
use Rattle.layers.specs.declared.permutation.Permutation.{Permutation}

abbrev pub number_at : Permutation → ℕ → ℕ
number_at p = look p.size p.numbers

abbrev pub position_at : Permutation → ℕ → ℕ
position_at p = look p.size p.positions

abbrev pub numbering : Option Permutation → Option (ℕ × (ℕ → ℕ))
numbering None = None
numbering (Some p) = Some (p.size, number_at p)
