-- Small facts on options, updates, lists and kinds. Assumes nothing.
use Rattle.std.proofs.Common.{◌≡◌, ℕ, ◌+◌, ◌<◌, ◌≤◌, eqb, ◌≢◌, ◌⊎◌, List, length, set, Some, None, Option, unwrap_or, sym, refl, ap, subst, inl, inr, le_refl, arith}
use Rattle.std.specs.List.{slice_get}
use Rattle.std.proofs.lemmas.Bool.Decides.{nat_tests}
use Rattle.std.proofs.lemmas.Grind.{common_steps}
use Rattle.std.proofs.lemmas.Option.{gets, same_Some}
use Rattle.std.proofs.lemmas.Bool.{cond_both, eqb-true, eqb-false}
use Rattle.banks.specs.Meanings.{at_row}
use Rattle.machine.specs.declared.line.Kind.{Kind}
use Rattle.machine.specs.declared.line.Kind.TheVariants.{Write, Read}

pub some_pair : {X Y : Type 0} (a b : X) (c d : Y) → ◌≡◌ {A = Option (X × Y)} (Some (a, c)) (Some (b, d)) → (a ≡ b) × (c ≡ d)
some_pair a b c d e = let p = same_Some (a, c) (b, d) e in (ap (λ z. z.0) p, ap (λ z. z.1) p)

-- a later time: the stamping's own, or the present
pub valueOr_on : (o : Option ℕ) (t : ℕ) → unwrap_or o (t + 1) ≤ unwrap_or o (t + 1 + 1)
valueOr_on None t = omega arith
valueOr_on (Some u) t = le_refl u

pub kinds : (k : Kind) → (k ≡ Write) ⊎ (k ≡ Read)
kinds Write = inl refl
kinds Read = inr refl

-- an update at i: what is to show at i, and elsewhere
pub split : {Y : Type 0} (f : ℕ → Y) (i : ℕ) (y : Y) (P : ℕ → Y → Type 0) (k : ℕ) → P i y → (k ≢ i → P k (f k)) → P k (at_row f i y k)
split f i y P k here there =
    cond_both (eqb k i) y (f k) (P k) (λ h. subst (λ j. P j y) (sym (eqb-true k i h)) here) (λ h. there (eqb-false k i h))

pub at_other : {Y : Type 0} (f : ℕ → Y) (i : ℕ) (y : Y) (k : ℕ) → k ≢ i → at_row f i y k ≡ f k
at_other f i y k h = grind (arith, nat_tests)

pub at_same : {Y : Type 0} (f : ℕ → Y) (i : ℕ) (y : Y) → at_row f i y i ≡ y
at_same f i y = grind (arith, nat_tests)

pub nth_set_same : {X : Type 0} (l : List X) (i : ℕ) (x : X) → i < length l → slice_get (set l i x) i ≡ Some x
nth_set_same l i x lt = grind (arith, common_steps, gets)

pub nth_set_other : {X : Type 0} (l : List X) (i j : ℕ) (x : X) → j ≢ i → slice_get (set l i x) j ≡ slice_get l j
nth_set_other l i j x ne = grind (arith, common_steps, gets)
