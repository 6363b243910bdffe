-- Values that exist only within a bound. Assumes nothing.
--     when_so b f             what f makes of a passed test; none if it fails
--     when_at_most a b f      what f makes of a ≤ b; none if a is above b
use Rattle.std.specs.Prelude.{ℕ, ◌≤◌, Bool, true, false, T, Some, None, Option, nat_le}
use Rattle.std.proofs.Common.{leb→le}

module _ {X : Type 0} where
  abbrev pub when_so : (b : Bool) → (T b → X) → Option X
  when_so true f = Some (f tt)
  when_so false f = None

  abbrev pub when_at_most : (a b : ℕ) → (a ≤ b → X) → Option X
  when_at_most a b f = when_so (nat_le a b) (λ t. f (leb→le a b t))
