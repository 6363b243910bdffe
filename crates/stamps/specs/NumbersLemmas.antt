-- The laws of number stamps. The key is the number.
use Rattle.std.specs.Prelude.{◌≡◌, ℕ, ◌+◌, ◌*◌, ◌/◌, ◌%◌, ◌≤◌, Some, refl}
use Rattle.std.proofs.Common.{◌∙◌, arith}
use mathlib.Core.HLevel.{is_prop→PathP}
use Rattle.std.proofs.Math.Bridge.{le_prop}
use Rattle.std.proofs.lemmas.Bool.{cond-true, cond-false, and_from, and_left, le-leb, lt-leb}
use Rattle.stamps.specs.declared.number.NumberStamp.{NumberStamp}
use Rattle.stamps.specs.Numbers.{number_at, number_pair, number_make}
use Rattle.stamps.specs.Within.{within}
use Rattle.stamps.specs.Keyed.{Keyed}

-- two stamps with equal numbers are one
pub same_number : (s t : NumberStamp) → s.number ≡ t.number → s ≡ t
same_number s t e =
    λ i. number_at (e i) (is_prop→PathP (λ k. e k % 32 ≤ 16) (λ k. le_prop) s.bounded t.bounded i)

found : (k w : ℕ) → k ≤ 134217727 → w ≤ 16 → (s : NumberStamp) × (number_pair k w ≡ Some s) × (s.number / 32 ≡ k) × (s.number % 32 ≡ w)
found k w hk hw =
    let h : (k * 32 + w) % 32 ≤ 16 = omega arith in (
      number_at (k * 32 + w) h,
      cond-true _ _ _ (and_from _ _ (le-leb k 134217727 hk) (le-leb w 16 hw)) ∙ within ((k * 32 + w) % 32) 16 (number_at (k * 32 + w)) h,
      omega arith,
      omega arith,
    )

pub number_keyed : Keyed number_make
number_keyed =
    record {
      key = λ s. s.number;
      apart = same_number;
      by_key = λ s t. refl;
      by_count = λ s t h. omega arith;
      at = number_pair;
      found = found;
      none = λ k w h. cond-false _ _ _ (and_left _ _ (lt-leb k 134217727 h));
      first = λ k. refl;
      next = λ s w. refl;
    }
