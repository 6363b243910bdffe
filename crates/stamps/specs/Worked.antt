-- The worked values, in a single list. Assumes nothing.
--     Worked              each value, shown of the definitions
use Rattle.std.specs.Prelude.{◌≡◌, ℕ, ◌%◌, true, T, Some, nat_le}
use Rattle.std.proofs.Common.{leb→le}
use Rattle.stamps.specs.Makes.{first_of, next_of, Spent}
use Rattle.stamps.specs.Numbers.{number_at, number_make}
use Rattle.stamps.specs.Pairs.{pair_at, pair_make}
use Rattle.stamps.specs.declared.number.NumberStamp.{NumberStamp}
use Rattle.stamps.specs.declared.pair.PairStamp.{PairStamp}

-- the pair stamp k.w
abbrev pair_of : (k w : ℕ) → T (nat_le w 16) → PairStamp
pair_of k w t = pair_at k w (leb→le w 16 t)

-- the number stamp x
abbrev number_of : (x : ℕ) → T (nat_le (x % 32) 16) → NumberStamp
number_of x t = number_at x (leb→le (x % 32) 16 t)

-- A longer list has this record as its first entry.
pub record Worked : Type 0 where
  pub pair_next : next_of pair_make (pair_of 0 0 tt) 3 ≡ Some (pair_of 1 3 tt)
  pub pair_smaller : pair_make.smaller (pair_of 1 16 tt) (pair_of 2 1 tt) ≡ true
  pub number_first : first_of number_make 5 ≡ Some (number_of 160 tt)
  pub number_next : next_of number_make (number_of 160 tt) 3 ≡ Some (number_of 195 tt)
  pub number_last : next_of number_make (number_of 4294967248 tt) 16 ≡ Some (number_of 4294967280 tt)
  pub number_spent : Spent number_make (number_of 4294967280 tt)
