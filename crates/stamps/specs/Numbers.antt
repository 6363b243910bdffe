-- What the contracts on number stamps cite. Assumes nothing.
--     number_at x h       the number stamp with the number x, whose owner h bounds
--     numbered x          the same; none if the owner in x is above 16
--     number_pair k w     the number stamp with count k and owner w; none for a count above the greatest, or an owner above 16
--     number_make         the make of number stamps
use Rattle.std.specs.Prelude.{ℕ, ◌+◌, ◌*◌, ◌/◌, ◌%◌, ◌≤◌, cond, ◌&&◌, None, Option, nat_le, nat_lt}
use Rattle.stamps.specs.Bounds.{when_at_most}
use Rattle.stamps.specs.Makes.{Make}
use Rattle.stamps.specs.declared.number.NumberStamp.{NumberStamp}

abbrev pub number_at : (x : ℕ) → x % 32 ≤ 16 → NumberStamp
number_at x h = record { number = x; bounded = h }

abbrev pub numbered : ℕ → Option NumberStamp
numbered x = when_at_most (x % 32) 16 (number_at x)

abbrev pub number_pair : ℕ → ℕ → Option NumberStamp
number_pair k w = cond (nat_le k 134217727 && nat_le w 16) (numbered (k * 32 + w)) None

abbrev pub number_make : Make NumberStamp
number_make =
    record {
      count = λ s. s.number / 32;
      owner = λ s. s.number % 32;
      smaller = λ s t. nat_lt s.number t.number;
      greatest = 134217727;
      first = λ k. number_pair k 0;
      next = λ s w. number_pair (s.number / 32 + 1) w;
    }
