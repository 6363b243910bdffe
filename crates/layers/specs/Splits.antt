-- What a split layer means, and what making one answers. Assumes nothing.
--     split_of f g s          over banks that mean what f and g say: the meaning of the layer s
--     first_of f g s w        writer w lies in its first bank
--     split_made n m b c k    over banks b and c of n and m stations, at the split point k: refused by 5, then 7
use Rattle.std.specs.Prelude.{ℕ, Bool, cond, Ok, Err, Result, ◌==◌, nat_le}
use Rattle.policy.specs.declared.refusal.Refusal.{Refusal}
use Rattle.policy.specs.declared.refusal.Refusal.TheVariants.{CountsDiffer, SplitPoint}
use Rattle.banks.specs.Meanings.{Meaning}
use Rattle.layers.specs.Layers.{in_first, split_meaning}
use Rattle.layers.specs.declared.split.Split.{Split}

module _ {B C : Type 0} where
  abbrev pub split_of : {R : Type 0} → (B → Meaning R) → (C → Meaning R) → Split B C → Meaning R
  split_of f g s = split_meaning s.point (f s.first) (g s.second)

  abbrev pub first_of : {R : Type 0} → (B → Meaning R) → (C → Meaning R) → Split B C → ℕ → Bool
  first_of f g s = in_first s.point (f s.first) (g s.second)

abbrev pub split_made : {B C : Type 0} → ℕ → ℕ → B → C → ℕ → Result (Split B C) (Refusal × B × C)
split_made n m b c k =
    cond (n == m)
    (cond (nat_le k n) (Ok (record { first = b; second = c; point = k })) (Err (SplitPoint, b, c)))
    (Err (CountsDiffer, b, c))
