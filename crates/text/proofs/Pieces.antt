-- Pieces and decimal numbers of a text that is put together. Assumes nothing.
use Rattle.std.proofs.Common.{◌≡◌, ℕ, ◌^◌, ◌<◌, Bool, true, false, not, ◌&&◌, eqb, List, [], ◌∷◌, ◌++◌, decimal, refl, arith}
use Rattle.std.specs.Char.{is_ascii_digit}
use Rattle.std.specs.Str.{all_ascii_digits}
use Rattle.std.proofs.lemmas.Fmt.{digits_decimal, digits_value-decimal}
use Rattle.std.proofs.lemmas.Str.Parse.{IsNumeralModel, numerals_by_fold, tells_all_ascii_digits}
use Rattle.std.proofs.lemmas.Bool.Decides.{nat_tests}
use Rattle.text.specs.Pieces.{pieces, number_after, number}

-- no byte of xs is `at`
abbrev pub lacks : ℕ → List ℕ → Bool
lacks at [] = true
lacks at (b ∷ bs) = not (eqb b at) && lacks at bs

pub lacks_append : (at : ℕ) (xs ys : List ℕ) → lacks at xs ≡ true → lacks at ys ≡ true → lacks at (xs ++ ys) ≡ true
lacks_append at [] ys p q = q
lacks_append at (b ∷ xs) ys p q = grind (arith, nat_tests, lacks_append at xs ys)

-- a first piece
pub pieces_more : (at : ℕ) (xs ys : List ℕ) → lacks at xs ≡ true → pieces at (xs ++ (at ∷ ys)) ≡ xs ∷ pieces at ys
pieces_more at [] ys p = grind (arith, nat_tests)
pieces_more at (b ∷ xs) ys p = grind (arith, nat_tests, pieces_more at xs ys)

-- the last piece
pub pieces_last : (at : ℕ) (xs : List ℕ) → lacks at xs ≡ true → pieces at xs ≡ xs ∷ []
pieces_last at [] p = refl
pieces_last at (b ∷ xs) p = grind (arith, nat_tests, pieces_last at xs)

pub own : IsNumeralModel (λ ds. all_ascii_digits ds ≡ true) number
own = numerals_by_fold (λ ds. all_ascii_digits ds ≡ true) tells_all_ascii_digits number_after (record { empty = λ n. refl; more = λ n c cs digit. refl })

pub number_decimal : (n : ℕ) → n < 2 ^ 64 → number (decimal n) ≡ n
number_decimal n fits = digits_value-decimal own n fits

-- digits lack a byte that is no digit
digits_lack : (at : ℕ) (ds : List ℕ) → is_ascii_digit at ≡ false → all_ascii_digits ds ≡ true → lacks at ds ≡ true
digits_lack at [] other all = refl
digits_lack at (c ∷ cs) other all = grind (arith, nat_tests, digits_lack at cs)

pub decimal_lacks : (at n : ℕ) → is_ascii_digit at ≡ false → n < 2 ^ 64 → lacks at (decimal n) ≡ true
decimal_lacks at n other fits = digits_lack at (decimal n) other (digits_decimal own n fits)
