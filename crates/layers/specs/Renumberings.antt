-- What a renumbering layer means, and what making one answers. Assumes nothing.
--     fitting k n p                   the numbers p of k stations, for a bank of n: its own numbers, should k be above n
--     number_below, position_above    the number below of a station above, and back
--     station_below f s x             the number below of station x, over a bank that means what f says
--     renumbering_meaning f s         the meaning of the layer s over a bank that means what f says
--     renumbering_seen a              what making a layer answered: the bank, the size and the numbers
--     renumbering_made n b xs         over a bank b of n stations, by the list xs: refused by 6
use Rattle.std.specs.Prelude.{ℕ, cond, List, Ok, Err, Result, nat_le}
use Rattle.policy.specs.declared.refusal.Refusal.{Refusal}
use Rattle.policy.specs.declared.refusal.Refusal.TheVariants.{NotRenumbering}
use Rattle.banks.specs.Meanings.{Meaning}
use Rattle.layers.specs.Layers.{renumbered}
use Rattle.layers.specs.Permutations.{look, listed}
use Rattle.layers.specs.Numberings.{number_at, position_at}
use Rattle.layers.specs.declared.renumbering.Renumbering.{Renumbering}

-- folded, so that a search takes it as one term
unfoldable pub fitting : ℕ → ℕ → (ℕ → ℕ) → ℕ → ℕ
fitting k n p x = cond (nat_le k n) (p x) x

module _ {B : Type 0} where
  abbrev pub number_below : Renumbering B → ℕ → ℕ → ℕ
  number_below s n = fitting s.map.size n (number_at s.map)

  abbrev pub position_above : Renumbering B → ℕ → ℕ → ℕ
  position_above s n = fitting s.map.size n (position_at s.map)

  abbrev pub station_below : {R : Type 0} → (B → Meaning R) → Renumbering B → ℕ → ℕ
  station_below f s = number_below s (f s.below).stations

  abbrev pub renumbering_meaning : {R : Type 0} → (B → Meaning R) → Renumbering B → Meaning R
  renumbering_meaning f s = renumbered (number_below s (f s.below).stations) (position_above s (f s.below).stations) (f s.below)

  abbrev pub renumbering_seen : Result (Renumbering B) (Refusal × B) → Result (B × ℕ × (ℕ → ℕ)) (Refusal × B)
  renumbering_seen (Ok s) = Ok (s.below, s.map.size, number_at s.map)
  renumbering_seen (Err e) = Err e

  abbrev pub renumbering_made : ℕ → B → List ℕ → Result (B × ℕ × (ℕ → ℕ)) (Refusal × B)
  renumbering_made n b xs = cond (listed n xs) (Ok (b, n, look n xs)) (Err (NotRenumbering, b))
