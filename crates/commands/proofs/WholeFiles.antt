-- What a whole file that is read tells of its bytes. Assumes nothing.
use Rattle.std.proofs.Common.{◌≡◌, ℕ, zero, suc, ◌<◌, ◌≤◌, List, [], ◌++◌, length, Some, None, Ok, Err, sym, refl, ap, ◌∙◌, subst, arith}
use Rattle.std.proofs.lemmas.Bool.Decides.{nat_tests}
use Rattle.commands.specs.Commands.{Decoded, decoded, encoded}
use Rattle.commands.specs.Readings.{Reading, Bytes, Complete, reading, bytes_of_all}
use Rattle.commands.proofs.ReadingLaws.{AllSmall, good, shorter, reading_end, reading_stop, reading_more}
use Rattle.commands.proofs.RoundTrips.{reencoded}

-- only the empty input is the end
pub empty : (xs : List ℕ) → decoded xs ≡ Ok None → xs ≡ []
empty xs e = grind (arith, nat_tests)

-- what is told of the bytes xs by the way in which they are read
abbrev Told : List ℕ → Reading → Type 0
Told xs r = AllSmall r.commands × (r.stop ≡ None → xs ≡ bytes_of_all r.commands) × (length r.commands ≤ length xs)

told_at : (xs : List ℕ) → Bytes xs → ((ys : List ℕ) → length ys < length xs → Bytes ys → Told ys (reading ys)) → (d : Decoded) → decoded xs ≡ d → Told xs (reading xs)
told_at xs bytes shorter_told (Ok None) e = subst (Told xs) (sym (reading_end xs e)) (tt, λ _. empty xs e, omega arith)
told_at xs bytes shorter_told (Ok (Some p)) e =
    let g = good xs bytes p.0 p.1 e in
    let less = shorter xs p.0 p.1 e in
    let more = shorter_told p.1 less g.bytes in
    subst (Told xs) (sym (reading_more xs p.0 p.1 e))
    ((g.small, more.0), λ end. reencoded xs bytes p.0 p.1 e ∙ ap (λ ys. encoded p.0 ++ ys) (more.1 end), omega arith)
told_at xs bytes shorter_told (Err x) e =
    subst (Told xs) (sym (reading_stop xs x e)) (tt, (λ end. cc), omega arith)

told_within : (k : ℕ) (xs : List ℕ) → length xs < k → Bytes xs → Told xs (reading xs)
told_within zero xs few bytes = absurd (omega arith)
told_within (suc k) xs few bytes = told_at xs bytes (λ ys less. told_within k ys (omega arith)) (decoded xs) refl

pub all_small : (xs : List ℕ) → Bytes xs → AllSmall (reading xs).commands
all_small xs bytes = (told_within (suc (length xs)) xs (omega arith) bytes).0

-- each command has at least one byte
pub few_commands : (xs : List ℕ) → Bytes xs → length (reading xs).commands ≤ length xs
few_commands xs bytes = (told_within (suc (length xs)) xs (omega arith) bytes).2

-- a file that is read to its end is the bytes of its commands
pub complete_bytes : (xs : List ℕ) → Bytes xs → Complete xs → xs ≡ bytes_of_all (reading xs).commands
complete_bytes xs bytes end = (told_within (suc (length xs)) xs (omega arith) bytes).1 end
