-- What a player reads, and whether anything was told. Assumes nothing.
use Rattle.std.proofs.Common.{◌≡◌, ℕ, ◌+◌, ◌<◌, true, not, eqb, List, [], ◌∷◌, ◌++◌, length, map, Some, None, Ok, Option, Result, sym, refl, ap, ◌∙◌, append_assoc, append-nil, add-one, arith}
use Rattle.std.proofs.lemmas.Bool.{ne_eqb}
use Rattle.policy.specs.declared.refusal.Refusal.{Refusal}
use Rattle.commands.specs.Files.{outcomes, stopped}
use Rattle.commands.specs.Readings.{reading}
use Rattle.commands.specs.declared.command.Command.{Command}
use Rattle.account.specs.Founded.{reply}
use Rattle.account.specs.Players.{some}
use Rattle.account.specs.Texts.{Game, text, text_of, answer}
use Rattle.account.specs.Words.{line, refusal_said}

-- the text of what an iterator over the commands of a file has still to give
abbrev told : List (Result Command Refusal) → Option Game → ℕ → List ℕ
told [] g k = []
told (r ∷ rs) g k = let a = reply g r in line k a.0 ++ told rs a.1 (k + 1)

told_text : (cs : List Command) (stop : Option Refusal) (g : Option Game) (k : ℕ) → told (map Ok cs ++ stopped stop) g k ≡ text cs g k stop
told_text [] None g k = refl
told_text [] (Some e) g k = append-nil (line k (refusal_said e))
told_text (c ∷ cs) stop g k =
    let a = answer g c in
    ap (λ zs. line k a.0 ++ zs) (told_text cs stop a.1 (k + 1) ∙ ap (λ j. text cs a.1 j stop) (add-one k))

outcomes_text : (xs : List ℕ) (g : Option Game) (k : ℕ) → told (outcomes xs) g k ≡ text_of xs g k
outcomes_text xs g k = told_text (reading xs).commands (reading xs).stop g k

-- bytes that are read as the same commands have the same text
pub same_text : (xs ys : List ℕ) (g : Option Game) (k : ℕ) → outcomes xs ≡ outcomes ys → text_of xs g k ≡ text_of ys g k
same_text xs ys g k e = sym (outcomes_text xs g k) ∙ ap (λ rs. told rs g k) e ∙ outcomes_text ys g k

-- the line of what was read, and what is still to come
pub taken_more : (k : ℕ) (g h : Option Game) (xs ys out now whole words : List ℕ) (r : Result Command Refusal) → outcomes xs ≡ r ∷ outcomes ys → ◌≡◌ {A = List ℕ × Option Game} (words, h) (reply g r) → now ≡ out ++ line k words → out ++ text_of xs g k ≡ whole → now ++ text_of ys h (k + 1) ≡ whole
taken_more k g h xs ys out now whole words r e is put all =
    let before = sym (outcomes_text xs g k) ∙ ap (λ rs. told rs g k) e in
    let behind = outcomes_text ys h (k + 1) in
    grind (arith, append_assoc)

left_some : (xs : List ℕ) → 0 < length xs → not (eqb (length xs) 0) ≡ true
left_some xs more = grind (arith, ne_eqb)

some_told : (xs : List ℕ) → not (eqb (length xs) 0) ≡ some xs
some_told [] = refl
some_told (x ∷ xs) = left_some (x ∷ xs) (omega arith)

-- anything was to come exactly where anything is told, if nothing is left to give
pub end_more : (xs out whole : List ℕ) (g : Option Game) (k : ℕ) → outcomes xs ≡ [] → out ++ text_of xs g k ≡ whole → not (eqb (length out) 0) ≡ some whole
end_more xs out whole g k e all =
    let none = sym (outcomes_text xs g k) ∙ ap (λ rs. told rs g k) e in
    let same : out ≡ whole = grind (arith, append-nil) in
    some_told out ∙ ap some same

-- or if something is told
pub full_more : (out xs whole : List ℕ) → out ++ xs ≡ whole → 0 < length out → not (eqb (length out) 0) ≡ some whole
full_more [] xs whole all p = absurd (omega arith)
full_more (x ∷ out) xs whole all p = left_some (x ∷ out) p ∙ ap some all
