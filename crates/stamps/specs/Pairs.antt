-- What the contracts on pair stamps cite. Assumes nothing.
--     pair_at k w h       the pair stamp with count k and owner w, which h bounds
--     pair k w            the same; none for a count above the greatest, or an owner above 16
--     pair_make           the make of pair stamps
use Rattle.std.specs.Prelude.{ℕ, ◌+◌, ◌≤◌, Bool, cond, ◌&&◌, ◌||◌, None, Option, ◌==◌, nat_le, nat_lt}
use Rattle.stamps.specs.Bounds.{when_at_most}
use Rattle.stamps.specs.Makes.{Make}
use Rattle.stamps.specs.declared.pair.PairStamp.{PairStamp}

abbrev pub pair_at : (k w : ℕ) → w ≤ 16 → PairStamp
pair_at k w h = record { count = k; owner = w; bounded = h }

abbrev pub pair : ℕ → ℕ → Option PairStamp
pair k w = cond (nat_le k 4294967295) (when_at_most w 16 (pair_at k w)) None

-- by count, and then by owner
abbrev pair_smaller : PairStamp → PairStamp → Bool
pair_smaller s t = nat_lt s.count t.count || (s.count == t.count && nat_lt s.owner t.owner)

abbrev pub pair_make : Make PairStamp
pair_make =
    record {
      count = λ s. s.count;
      owner = λ s. s.owner;
      smaller = pair_smaller;
      greatest = 4294967295;
      first = λ k. pair k 0;
      next = λ s w. pair (s.count + 1) w;
    }
