-- The order of stamps, from the laws of a make. Assumes nothing.
use Rattle.std.proofs.Common.{◌≡◌, ℕ, ◌≤◌, true, ◌≢◌, ◌⊎◌, Some, inl, inr, arith}
use Rattle.std.proofs.lemmas.Bool.{cases_lt}
use Rattle.stamps.specs.Makes.{Make, Laws, below, same, above}
use Rattle.machine.proofs.Entries.{AtMost}

module _ {S : Type 0} (m : Make S) (laws : Laws m) where
  pub at_most_refl : (s : S) → AtMost m s s
  at_most_refl s = elim (laws.compared s s) [ below p q r ↦ q | same p q r ↦ q | above p q r ↦ p ]

  pub smaller_at_most : (s t : S) → m.smaller s t ≡ true → AtMost m s t
  smaller_at_most s t h = elim (laws.compared s t) [ below p q r ↦ q | same p q r ↦ q | above p q r ↦ cc ]

  -- s at most t: smaller, or the same
  pub at_most_cases : (s t : S) → AtMost m s t → (m.smaller s t ≡ true) ⊎ (s ≡ t)
  at_most_cases s t h = elim (laws.compared s t) [ below p q r ↦ inl p | same p q r ↦ inr r | above p q r ↦ cc ]

  pub at_most_smaller : (s t u : S) → AtMost m s t → m.smaller t u ≡ true → m.smaller s u ≡ true
  at_most_smaller s t u h k = elim (at_most_cases s t h) [ inl p ↦ laws.transitive s t u p k | inr p ↦ cc ]

  pub at_most_trans : (s t u : S) → AtMost m s t → AtMost m t u → AtMost m s u
  at_most_trans s t u h k = elim (at_most_cases t u k) [ inl p ↦ smaller_at_most s u (at_most_smaller s t u h p) | inr p ↦ cc ]

  pub smaller_not_same : (s t : S) → m.smaller s t ≡ true → s ≢ t
  smaller_not_same s t h e = cc (at_most_refl t)

  -- a next stamp is greater, and its owner is the station that took it
  pub next_stamps : (s t : S) (w : ℕ) → 1 ≤ w → w ≤ 16 → m.next s w ≡ Some t → (m.smaller s t ≡ true) × (m.owner t ≡ w)
  next_stamps s t w some le e =
      elim (cases_lt (m.count s) m.greatest) [
        | inl lt ↦ let f = laws.next_stamp s w some le lt in (cc (f.1, laws.by_count s f.0 (omega (arith, f.2))), cc (f.1, f.3))
        | inr ge ↦ cc (laws.spent s w some le ge)
      ]
