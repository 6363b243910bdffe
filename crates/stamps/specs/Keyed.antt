-- The laws of a make whose stamps are compared by a number, their key.
use Rattle.std.specs.Prelude.{◌≡◌, ℕ, ◌+◌, ◌<◌, ◌≤◌, true, false, Some, None, Option, nat_lt}
use Rattle.std.proofs.Common.{sym, ap, ◌∙◌, ⊎_elim, arith, ltb-true, lt-ltb, le-ltb}
use Rattle.std.proofs.lemmas.Bool.{cases_order}
use Rattle.stamps.specs.Makes.{Make, Compared, below, same, above, Laws}

-- key tells the stamps apart and gives their order. at k w is the stamp with count k and owner w, none above the greatest
-- count.
pub record Keyed {S : Type 0} (m : Make S) : Type 0 where
  pub key : S → ℕ
  pub apart : (s t : S) → key s ≡ key t → s ≡ t
  pub by_key : (s t : S) → m.smaller s t ≡ nat_lt (key s) (key t)
  pub by_count : (s t : S) → m.count s < m.count t → key s < key t
  pub at : ℕ → ℕ → Option S
  pub found : (k w : ℕ) → k ≤ m.greatest → w ≤ 16 → (s : S) × (at k w ≡ Some s) × (m.count s ≡ k) × (m.owner s ≡ w)
  pub none : (k w : ℕ) → m.greatest < k → at k w ≡ None
  pub first : (k : ℕ) → m.first k ≡ at k 0
  pub next : (s : S) (w : ℕ) → m.next s w ≡ at (m.count s + 1) w

module _ {S : Type 0} {m : Make S} (k : Keyed m) where
  smaller : (s t : S) → k.key s < k.key t → m.smaller s t ≡ true
  smaller s t h = k.by_key s t ∙ lt-ltb (k.key s) (k.key t) h

  not_smaller : (s t : S) → k.key t ≤ k.key s → m.smaller s t ≡ false
  not_smaller s t h = k.by_key s t ∙ le-ltb (k.key s) (k.key t) h

  lower : (s t : S) → m.smaller s t ≡ true → k.key s < k.key t
  lower s t e = ltb-true (k.key s) (k.key t) (sym (k.by_key s t) ∙ e)

  compared : (s t : S) → Compared m s t
  compared s t =
      ⊎_elim
      (λ e. same (not_smaller s t (omega arith)) (not_smaller t s (omega arith)) (k.apart s t e))
      (⊎_elim
      (λ h. below (smaller s t h) (not_smaller t s (omega arith)) (λ e. let q : k.key s ≡ k.key t = ap k.key e in omega arith))
      (λ h. above (not_smaller s t (omega arith)) (smaller t s h) (λ e. let q : k.key s ≡ k.key t = ap k.key e in omega arith)))
      (cases_order (k.key s) (k.key t))

  transitive : (s t u : S) → m.smaller s t ≡ true → m.smaller t u ≡ true → m.smaller s u ≡ true
  transitive s t u p q = let x = lower s t p in let y = lower t u q in smaller s u (omega arith)

  pub keyed_laws : Laws m
  keyed_laws =
      record {
        compared = compared;
        transitive = transitive;
        by_count = λ s t h. smaller s t (k.by_count s t h);
        first_stamp = λ n h. let f = k.found n 0 h (omega arith) in (f.0, k.first n ∙ f.1, f.2, f.3);
        next_stamp =
            λ s w some hw h.
            let f = k.found (m.count s + 1) w (omega arith) hw in (f.0, k.next s w ∙ f.1, f.2, f.3);
        spent = λ s w some hw h. k.next s w ∙ k.none (m.count s + 1) w (omega arith);
        owners_differ = λ s t n e. n (ap m.owner e);
      }
