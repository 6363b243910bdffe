-- Decoding and encoding undo each other. Assumes nothing.
use Rattle.std.proofs.Common.{◌≡◌, ℕ, suc, ◌+◌, ◌^◌, ◌<◌, ◌≤◌, List, [], ◌∷◌, ◌++◌, map, length, get_or, take, drop, Some, None, Ok, sym, refl, ap, ◌∙◌, subst, ⊎_elim, arith, w8, Fits}
use mir.Facts.{Fits-lt-pow}
use Rattle.std.specs.List.{range_with_len}
use Rattle.std.proofs.lemmas.List.FromFn.{fill_by_all}
use Rattle.std.proofs.lemmas.List.{length-take-le, get_or-take, take-append-drop}
use Rattle.std.proofs.lemmas.Bool.{cases_eq}
use Rattle.std.proofs.lemmas.Bool.Decides.{nat_tests}
use Rattle.std.proofs.lemmas.Grind.{common_steps}
use Rattle.commands.specs.declared.command.Command.{Command}
use Rattle.commands.specs.declared.command.Command.TheVariants.{Make}
use Rattle.commands.specs.Commands.{Reencoded, Redecoded, policy, decoded_at, encoded, bytes_of, word, command, width}

-- what holds of each command byte, and of every other byte, holds of all bytes
width_none : (b : ℕ) → (b ≡ 1 → ⊥) → (b ≡ 2 → ⊥) → (b ≡ 3 → ⊥) → (b ≡ 4 → ⊥) → (b ≡ 5 → ⊥) → (b ≡ 6 → ⊥) → (b ≡ 7 → ⊥) → width b ≡ None
width_none b n₁ n₂ n₃ n₄ n₅ n₆ n₇ = grind (arith, nat_tests)

pub by_byte : (P : ℕ → Type 0) → P 1 → P 2 → P 3 → P 4 → P 5 → P 6 → P 7 → ((b : ℕ) → width b ≡ None → P b) → (b : ℕ) → P b
by_byte P p₁ p₂ p₃ p₄ p₅ p₆ p₇ other b =
    ⊎_elim (λ e. subst P (sym e) p₁)
    (λ n₁. ⊎_elim (λ e. subst P (sym e) p₂)
    (λ n₂. ⊎_elim (λ e. subst P (sym e) p₃)
    (λ n₃. ⊎_elim (λ e. subst P (sym e) p₄)
    (λ n₄. ⊎_elim (λ e. subst P (sym e) p₅)
    (λ n₅. ⊎_elim (λ e. subst P (sym e) p₆)
    (λ n₆. ⊎_elim (λ e. subst P (sym e) p₇)
    (λ n₇. other b (width_none b n₁ n₂ n₃ n₄ n₅ n₆ n₇))
    (cases_eq b 7)) (cases_eq b 6)) (cases_eq b 5)) (cases_eq b 4)) (cases_eq b 3)) (cases_eq b 2)) (cases_eq b 1)

-- the first k elements, one by one
fronted : (k : ℕ) (xs : List ℕ) → k ≤ length xs → xs ≡ map (λ i. get_or xs i 0) (range_with_len 0 k) ++ drop k xs
fronted k xs enough =
    let each = fill_by_all (λ i. get_or xs i 0) (take k xs) k 0 (length-take-le k xs enough) (λ i h. get_or-take k xs i 0 h) in
    sym (take-append-drop k xs) ∙ ap (λ ys. ys ++ drop k xs) each

bytes_of_word : (xs : List ℕ) (i : ℕ) → ((j : ℕ) → get_or xs j 0 < 256) → bytes_of (word xs i) ≡ get_or xs i 0 ∷ get_or xs (i + 1) 0 ∷ get_or xs (i + 2) 0 ∷ get_or xs (i + 3) 0 ∷ []
bytes_of_word xs i small = grind (arith, small i, small (i + 1), small (i + 2), small (i + 3))

-- what is decoded behind the byte b, whose operands are k bytes long
pub taken : (b k : ℕ) (xs : List ℕ) (c : Command) (rest : List ℕ) → decoded_at (Some k) b xs ≡ Ok (Some (c, rest)) → (k ≤ length xs) × (command b xs ≡ c) × (drop k xs ≡ rest)
taken b k xs c rest e = grind (arith, nat_tests)

-- the bytes of the command decoded behind the byte b, where its operands stand at the front of xs
rejoined : (b k : ℕ) (xs : List ℕ) (c : Command) (rest : List ℕ) → decoded_at (Some k) b xs ≡ Ok (Some (c, rest)) → b ∷ map (λ i. get_or xs i 0) (range_with_len 0 k) ≡ encoded (command b xs) → b ∷ xs ≡ encoded c ++ rest
rejoined b k xs c rest e same =
    let t = taken b k xs c rest e in
    let front = fronted k xs t.0 in
    ap (λ ys. b ∷ ys) front ∙ ap (λ ys. ys ++ drop k xs) same ∙ cc (t.1, t.2)

pub reencoded : (xs : List ℕ) → ((i : ℕ) → get_or xs i 0 < 256) → Reencoded xs
reencoded [] small = λ c rest e. cc
reencoded (b ∷ xs) small =
    let word_at = λ (i : ℕ). bytes_of_word xs i (λ j. small (suc j)) in
    by_byte (λ b. Reencoded (b ∷ xs))
    (λ c rest e. rejoined 1 10 xs c rest e (cc (word_at 2, word_at 6)))
    (λ c rest e. rejoined 2 5 xs c rest e (cc (word_at 1)))
    (λ c rest e. rejoined 3 1 xs c rest e refl)
    (λ c rest e. rejoined 4 1 xs c rest e refl)
    (λ c rest e. rejoined 5 2 xs c rest e refl)
    (λ c rest e. rejoined 6 2 xs c rest e refl)
    (λ c rest e. rejoined 7 0 xs c rest e refl)
    (λ b none c rest e. cc)
    b

-- the same of the bytes of a slice
pub reencoded_typed : (xs : List ℕ) → ((i : ℕ) → Fits w8 (get_or xs i 0)) → Reencoded xs
reencoded_typed xs typed = reencoded xs (λ i. Fits-lt-pow (typed i))

pub make_redecoded : (bank stations n v : ℕ) → n < 2 ^ 32 → v < 2 ^ 32 → Redecoded (Make bank stations n (policy v))
make_redecoded bank stations n v n_fits v_fits rest = grind (arith, nat_tests, common_steps)
