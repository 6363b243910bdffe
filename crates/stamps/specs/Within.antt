-- What `when_at_most` gives within its bound.
use Rattle.std.specs.Prelude.{◌≡◌, ℕ, ◌≤◌, Bool, true, false, T, Some, nat_le}
use Rattle.std.proofs.Common.{ap, leb→le, arith, le-leb}
use Rattle.std.proofs.Math.Bridge.{le_prop}
use Rattle.stamps.specs.Bounds.{when_so, when_at_most}

module _ {X : Type 0} where
  passed : (b : Bool) (f : T b → X) (x : X) → ((t : T b) → f t ≡ x) → b ≡ true → when_so b f ≡ Some x
  passed true f x same e = ap Some (same tt)
  passed false f x same e = let z : ◌≡◌ {A = ℕ} 0 1 = cc in absurd (omega arith)

  pub within : (a b : ℕ) (f : a ≤ b → X) (h : a ≤ b) → when_at_most a b f ≡ Some (f h)
  within a b f h = passed (nat_le a b) _ (f h) (λ t. ap f (le_prop (leb→le a b t) h)) (le-leb a b h)
