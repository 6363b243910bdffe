-- Words without a line's end, and how many lines a text has. Assumes nothing.
use Rattle.std.proofs.Common.{◌≡◌, ℕ, ◌^◌, ◌<◌, true, List, [], ◌∷◌, ◌++◌, decimal, refl, arith}
use Rattle.std.proofs.lemmas.Bool.Decides.{nat_tests}
use Rattle.text.proofs.Pieces.{lacks, decimal_lacks}
use Rattle.explain.specs.Texts.{newlines}

pub plain_decimal : (n : ℕ) → n < 2 ^ 64 → lacks 10 (decimal n) ≡ true
plain_decimal n fits = decimal_lacks 10 n refl fits

pub newlines_plain : (xs ys : List ℕ) → lacks 10 xs ≡ true → newlines (xs ++ ys) ≡ newlines ys
newlines_plain [] ys p = refl
newlines_plain (b ∷ xs) ys p = grind (arith, nat_tests, newlines_plain xs ys)

-- a text is cut at its first line's end in one way
pub first_line : (us vs xs ys : List ℕ) → lacks 10 us ≡ true → lacks 10 vs ≡ true → us ++ (10 ∷ xs) ≡ vs ++ (10 ∷ ys) → (us ≡ vs) × (xs ≡ ys)
first_line [] [] xs ys p q e = grind arith
first_line [] (v ∷ vs) xs ys p q e = grind (arith, nat_tests)
first_line (u ∷ us) [] xs ys p q e = grind (arith, nat_tests)
first_line (u ∷ us) (v ∷ vs) xs ys p q e = grind (arith, nat_tests, first_line us vs xs ys)
