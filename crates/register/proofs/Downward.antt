-- The numbers that `(1..=n).rev()` gives. Assumes nothing.
use Rattle.std.proofs.Common.{◌≡◌, ℕ, zero, suc, ◌+◌, ◌-◌, Bool, true, false, List, [], ◌∷◌, length, Option, sym, refl, ap, ◌∙◌, subst, arith}
use Rattle.std.specs.Iterator.Adapters.{rev_source, rev_steps}
use Rattle.std.specs.Range.{range_inclusive_start, range_inclusive_end, range_inclusive_exhausted, range_inclusive_left, range_inclusive_len, range_inclusive_steps_back}
use Rattle.std.specs.declared.iter.Rev.{Rev}
use Rattle.std.specs.declared.ops.RangeInclusive.{RangeInclusive}
use Rattle.std.proofs.lemmas.Iterator.{YieldsList}
use Rattle.std.proofs.lemmas.Iterator.Consumers.{YieldsList-from_shown}

-- n numbers, from e down
abbrev pub down : ℕ → ℕ → List ℕ
down zero e = []
down (suc n) e = e ∷ down n (e - 1)

abbrev gap : ℕ → ℕ → ℕ
gap a b = b - a

abbrev follows : ℕ → ℕ → Type 0
follows a b = b ≡ a + 1

abbrev steps_down : Rev (RangeInclusive ℕ) → Option ℕ → Rev (RangeInclusive ℕ) → Type 0
steps_down = rev_steps (range_inclusive_steps_back gap follows)

abbrev left_of : Rev (RangeInclusive ℕ) → ℕ
left_of s = range_inclusive_left gap (rev_source s)

same_rest : (a e b : ℕ) (done : Bool) → (done ≡ false → e ≡ b + 1)
    → down (range_inclusive_len gap a b done) (e - 1) ≡ down (range_inclusive_len gap a b done) b
same_rest a e b true next = refl
same_rest a e b false next = let is : e - 1 ≡ b = omega (arith, next refl) in cc

yields : (s : Rev (RangeInclusive ℕ)) → YieldsList steps_down (λ x. x) s (down (left_of s) (range_inclusive_end (rev_source s)))
yields s =
    YieldsList-from_shown steps_down (λ x. x) (λ t. down (left_of t) (range_inclusive_end (rev_source t)))
    (λ u t p. ap (λ n. length (down n (range_inclusive_end (rev_source u)))) p.1.0)
    (λ u x t p.
    let more : left_of u ≡ suc (left_of t) = omega (arith, p.1.1) in
    let e = range_inclusive_end (rev_source u) in
    ap (λ n. down n e) more
    ∙ ap (λ n. n ∷ down (left_of t) (e - 1)) (sym p.1.0)
    ∙ ap (λ k. x ∷ k) (same_rest (range_inclusive_start (rev_source t)) e (range_inclusive_end (rev_source t)) (range_inclusive_exhausted (rev_source t)) p.1.2))
    s

all_left : (a b n : ℕ) (done : Bool) → a ≡ 1 → b ≡ n → done ≡ false → range_inclusive_len gap a b done ≡ n
all_left a b n done start end new = grind arith

-- r is `1..=n`, and s goes over it from the end
pub yields_down : (s : Rev (RangeInclusive ℕ)) (r : RangeInclusive ℕ) (n : ℕ) → rev_source s ≡ r
    → range_inclusive_start r ≡ 1 → range_inclusive_end r ≡ n → range_inclusive_exhausted r ≡ false
    → YieldsList steps_down (λ x. x) s (down n n)
yields_down s r n is start end new =
    let a = ap range_inclusive_start is ∙ start in
    let b = ap range_inclusive_end is ∙ end in
    let d = ap range_inclusive_exhausted is ∙ new in
    let left = all_left _ _ n _ a b d in
    subst (YieldsList steps_down (λ x. x) s) (ap (λ k. down k (range_inclusive_end (rev_source s))) left ∙ ap (down n) b) (yields s)
