-- A command can be read back from its words. Assumes nothing.
use Rattle.std.proofs.Common.{◌≡◌, ℕ, ◌+◌, ◌-◌, ◌*◌, ◌^◌, ◌<◌, true, cond, eqb, List, [], ◌∷◌, ◌++◌, length, get_or, Some, None, codes, decimal, Option, sym, refl, ap, ◌∙◌, subst, ⊎_elim, append-nil, arith}
use Rattle.std.specs.Char.{is_ascii_digit}
use Rattle.std.specs.Str.{all_ascii_digits}
use Rattle.std.proofs.lemmas.Fmt.{decimal_nonempty, digits_decimal, digits_value-decimal}
use Rattle.std.proofs.lemmas.Bool.{cases_eq, cond-false, ne_eqb}
use Rattle.std.proofs.lemmas.Bool.Decides.{nat_tests}
use Rattle.text.specs.Pieces.{number_after}
use Rattle.text.proofs.Pieces.{own}
use Rattle.commands.specs.Commands.{policy}
use Rattle.commands.specs.declared.command.Command.{Command}
use Rattle.commands.specs.declared.command.Command.TheVariants.{Make, Write, Read, Step, Down, Up, List as Lines}
use Rattle.commands.proofs.ReadingLaws.{Small}
use Rattle.commands.specs.Words.{said, bank_said}

-- the numbers in a text, from left to right; before the text stood the digits of a number, if any
abbrev numbers : Option ℕ → List ℕ → List ℕ
numbers None [] = []
numbers (Some n) [] = n ∷ []
numbers None (b ∷ bs) = cond (is_ascii_digit b) (numbers (Some (b - 48)) bs) (numbers None bs)
numbers (Some n) (b ∷ bs) = cond (is_ascii_digit b) (numbers (Some (n * 10 + (b - 48))) bs) (n ∷ numbers None bs)

digits_read : (n : ℕ) (ds rest : List ℕ) → all_ascii_digits ds ≡ true → numbers (Some n) (ds ++ rest) ≡ numbers (Some (number_after n ds)) rest
digits_read n [] rest all = refl
digits_read n (d ∷ ds) rest all = grind (arith, nat_tests, digits_read (n * 10 + (d - 48)) ds rest)

first_digit : (ds rest : List ℕ) → 0 < length ds → all_ascii_digits ds ≡ true → numbers None (ds ++ rest) ≡ numbers (Some (number_after 0 ds)) rest
first_digit [] rest some all = grind arith
first_digit (d ∷ ds) rest some all = grind (arith, nat_tests, digits_read (d - 48) ds rest)

number_read : (n : ℕ) (rest : List ℕ) → n < 2 ^ 64 → numbers None (decimal n ++ rest) ≡ numbers (Some n) rest
number_read n rest fits =
    first_digit (decimal n) rest (decimal_nonempty n fits) (digits_decimal own n fits) ∙ ap (λ m. numbers (Some m) rest) (digits_value-decimal own n fits)

-- a make, by the first letters of its bank kind and the numbers
abbrev unsaid_make : List ℕ → List ℕ → Command
unsaid_make text ns =
    cond (eqb (get_or text 5 0) 112) (Make 1 (get_or ns 0 0) (get_or ns 1 0) (policy (get_or ns 2 0)))
    (cond (eqb (get_or text 6 0) 111) (Make 0 (get_or ns 0 0) (get_or ns 1 0) (policy (get_or ns 2 0)))
    (Make (get_or ns 0 0) (get_or ns 1 0) (get_or ns 2 0) (policy (get_or ns 3 0))))

-- the command, by the first letter of its words and the numbers in them
abbrev unsaid_by : ℕ → List ℕ → List ℕ → Command
unsaid_by letter text ns =
    cond (eqb letter 109) (unsaid_make text ns)
    (cond (eqb letter 119) (Write (get_or ns 0 0) (policy (get_or ns 1 0)))
    (cond (eqb letter 114) (Read (get_or ns 0 0))
    (cond (eqb letter 115) (Step (get_or ns 0 0))
    (cond (eqb letter 100) (Down (get_or ns 0 0) (get_or ns 1 0))
    (cond (eqb letter 117) (Up (get_or ns 0 0) (get_or ns 1 0)) Lines)))))

abbrev unsaid : List ℕ → Command
unsaid text = unsaid_by (get_or text 0 0) text (numbers None text)

last_number : (n : ℕ) → n < 2 ^ 64 → numbers None (decimal n) ≡ n ∷ []
last_number n fits = ap (numbers None) (sym (append-nil (decimal n))) ∙ number_read n [] fits

-- what follows the bank kind of a make
abbrev make_rest : ℕ → ℕ → ℕ → List ℕ
make_rest s n v = (codes " stations " ++ decimal s) ++ ((codes " count " ++ decimal n) ++ (codes " value " ++ decimal v))

three_numbers : (s n v : ℕ) → s < 2 ^ 64 → n < 2 ^ 64 → v < 2 ^ 64 → numbers None (make_rest s n v) ≡ s ∷ n ∷ v ∷ []
three_numbers s n v s_fits n_fits v_fits =
    number_read s _ s_fits ∙ ap (λ ns. s ∷ ns) (number_read n _ n_fits ∙ ap (λ ns. n ∷ ns) (last_number v v_fits))

unsaid_other : (b s n v : ℕ) → Small (Make b s n (policy v)) → unsaid ((codes "make bank " ++ decimal b) ++ make_rest s n v) ≡ Make b s n (policy v)
unsaid_other b s n v small =
    ap (λ ns. Make (get_or ns 0 0) (get_or ns 1 0) (get_or ns 2 0) (policy (get_or ns 3 0)))
    (number_read b (make_rest s n v) small.0 ∙ ap (λ ns. b ∷ ns) (three_numbers s n v small.1 small.2 small.3))

unsaid_kind : (b s n v : ℕ) → Small (Make b s n (policy v)) → unsaid (bank_said b ++ make_rest s n v) ≡ Make b s n (policy v)
unsaid_kind b s n v small =
    let three = three_numbers s n v small.1 small.2 small.3 in
    let Back : ℕ → Type 0 = λ k. unsaid (bank_said k ++ make_rest s n v) ≡ Make k s n (policy v) in
    ⊎_elim (λ e. subst Back (sym e) (ap (λ ns. Make 0 (get_or ns 0 0) (get_or ns 1 0) (policy (get_or ns 2 0))) three))
    (λ n₀. ⊎_elim (λ e. subst Back (sym e) (ap (λ ns. Make 1 (get_or ns 0 0) (get_or ns 1 0) (policy (get_or ns 2 0))) three))
    (λ n₁.
    let other = cond-false (eqb b 0) (codes "make board") _ (ne_eqb b 0 n₀) ∙ cond-false (eqb b 1) (codes "make post") (codes "make bank " ++ decimal b) (ne_eqb b 1 n₁) in
    ap (λ xs. unsaid (xs ++ make_rest s n v)) other ∙ unsaid_other b s n v small)
    (cases_eq b 1)) (cases_eq b 0)

pub unsaid_said : (c : Command) → Small c → unsaid (said c) ≡ c
unsaid_said (Make bank stations count value) small = unsaid_kind bank stations count value.0 small
unsaid_said (Write station value) small = ap (λ ns. Write (get_or ns 0 0) (policy (get_or ns 1 0))) (number_read station _ small.0 ∙ ap (λ ns. station ∷ ns) (last_number value.0 small.1))
unsaid_said (Read station) small = ap (λ ns. Read (get_or ns 0 0)) (last_number station small)
unsaid_said (Step station) small = ap (λ ns. Step (get_or ns 0 0)) (last_number station small)
unsaid_said (Down writer reader) small = ap (λ ns. Down (get_or ns 0 0) (get_or ns 1 0)) (number_read writer _ small.0 ∙ ap (λ ns. writer ∷ ns) (last_number reader small.1))
unsaid_said (Up writer reader) small = ap (λ ns. Up (get_or ns 0 0) (get_or ns 1 0)) (number_read writer _ small.0 ∙ ap (λ ns. writer ∷ ns) (last_number reader small.1))
unsaid_said Lines small = refl

-- commands with the same words are the same
pub same_said : (c d : Command) → Small c → Small d → said c ≡ said d → c ≡ d
same_said c d c_small d_small e = sym (unsaid_said c c_small) ∙ ap unsaid e ∙ unsaid_said d d_small
