-- How a file is read, one command after another. Assumes nothing.
use Rattle.std.proofs.Common.{◌≡◌, ℕ, zero, suc, ◌+◌, ◌^◌, ◌<◌, List, [], ◌∷◌, length, get_or, Some, None, Ok, Err, refl, ap, ◌∙◌, subst, arith}
use Rattle.std.proofs.lemmas.List.{get_or-drop}
use Rattle.std.proofs.lemmas.Bool.Decides.{nat_tests}
use Rattle.std.proofs.lemmas.Grind.{common_steps}
use Rattle.policy.specs.declared.refusal.Refusal.{Refusal}
use Rattle.commands.specs.declared.command.Command.{Command}
use Rattle.commands.specs.declared.command.Command.TheVariants.{Make, Write, Read, Step, Down, Up, List as Lines}
use Rattle.commands.specs.Commands.{Decoded, decoded, decoded_at, command, word}
use Rattle.commands.specs.Readings.{Reading, Bytes, reading, reading_at, reading_within}
use Rattle.commands.proofs.RoundTrips.{taken, by_byte}

-- a command has at least one byte
pub shorter : (xs : List ℕ) (c : Command) (rest : List ℕ) → decoded xs ≡ Ok (Some (c, rest)) → length rest < length xs
shorter xs c rest e = grind (arith, nat_tests, common_steps)

same_at : (f g : List ℕ → Reading) (xs : List ℕ) → ((ys : List ℕ) → length ys < length xs → f ys ≡ g ys) → (d : Decoded) → decoded xs ≡ d → reading_at d f ≡ reading_at d g
same_at f g xs alike (Ok None) e = refl
same_at f g xs alike (Ok (Some p)) e = ap (λ (r : Reading). record { commands = p.0 ∷ r.commands; stop = r.stop }) (alike p.1 (shorter xs p.0 p.1 e))
same_at f g xs alike (Err x) e = refl

-- any number that the bytes stay below will do
same_within : (m k : ℕ) (xs : List ℕ) → length xs < m → length xs < k → reading_within m xs ≡ reading_within k xs
unfolding reading_within
same_within zero k xs p q = absurd (omega arith)
same_within (suc m) zero xs p q = absurd (omega arith)
same_within (suc m) (suc k) xs p q =
    same_at (reading_within m) (reading_within k) xs (λ ys h. same_within m k ys (omega arith) (omega arith)) (decoded xs) refl

pub reading_end : (xs : List ℕ) → decoded xs ≡ Ok None → reading xs ≡ record { commands = []; stop = None }
unfolding reading_within
reading_end xs e = ap (λ d. reading_at d (reading_within (length xs))) e

pub reading_stop : (xs : List ℕ) (x : Refusal) → decoded xs ≡ Err x → reading xs ≡ record { commands = []; stop = Some x }
unfolding reading_within
reading_stop xs x e = ap (λ d. reading_at d (reading_within (length xs))) e

pub reading_more : (xs : List ℕ) (c : Command) (rest : List ℕ) → decoded xs ≡ Ok (Some (c, rest)) → reading xs ≡ record { commands = c ∷ (reading rest).commands; stop = (reading rest).stop }
unfolding reading_within
reading_more xs c rest e =
    let less = shorter xs c rest e in
    ap (λ d. reading_at d (reading_within (length xs))) e
    ∙ ap (λ (r : Reading). record { commands = c ∷ r.commands; stop = r.stop }) (same_within (length xs) (suc (length rest)) rest less (omega arith))

-- the operands of a command fit in 64 bits
abbrev pub Small : Command → Type 0
Small (Make bank stations count value) = (bank < 2 ^ 64) × (stations < 2 ^ 64) × (count < 2 ^ 64) × (value.0 < 2 ^ 64)
Small (Write station value) = (station < 2 ^ 64) × (value.0 < 2 ^ 64)
Small (Read station) = station < 2 ^ 64
Small (Step station) = station < 2 ^ 64
Small (Down writer reader) = (writer < 2 ^ 64) × (reader < 2 ^ 64)
Small (Up writer reader) = (writer < 2 ^ 64) × (reader < 2 ^ 64)
Small Lines = Unit {0}

abbrev pub AllSmall : List Command → Type 0
AllSmall [] = Unit {0}
AllSmall (c ∷ cs) = Small c × AllSmall cs

small_word : (xs : List ℕ) (i : ℕ) → Bytes xs → word xs i < 2 ^ 64
small_word xs i bytes = omega (arith, bytes i, bytes (i + 1), bytes (i + 2), bytes (i + 3))

small_byte : (xs : List ℕ) (i : ℕ) → Bytes xs → get_or xs i 0 < 2 ^ 64
small_byte xs i bytes = omega (arith, bytes i)

-- what one decoding gives, and leaves to be read
pub record Good (c : Command) (rest : List ℕ) : Type 0 where
  pub small : Small c
  pub bytes : Bytes rest

good_at : (b k : ℕ) (xs : List ℕ) → Bytes xs → Small (command b xs) → (c : Command) (rest : List ℕ) → decoded_at (Some k) b xs ≡ Ok (Some (c, rest)) → Good c rest
good_at b k xs bytes small c rest e =
    let t = taken b k xs c rest e in
    record {
      small = subst Small t.1 small;
      bytes = λ i. rw (← t.2) (rw get_or-drop (bytes (k + i)));
    }

pub good : (xs : List ℕ) → Bytes xs → (c : Command) (rest : List ℕ) → decoded xs ≡ Ok (Some (c, rest)) → Good c rest
good [] all = λ c rest e. cc
good (b ∷ xs) all =
    let bytes : Bytes xs = λ i. all (suc i) in
    let at = λ (i : ℕ). small_byte xs i bytes in
    let wide = λ (i : ℕ). small_word xs i bytes in
    by_byte (λ b. (c : Command) (rest : List ℕ) → decoded (b ∷ xs) ≡ Ok (Some (c, rest)) → Good c rest)
    (good_at 1 10 xs bytes (at 0, at 1, wide 2, wide 6))
    (good_at 2 5 xs bytes (at 0, wide 1))
    (good_at 3 1 xs bytes (at 0))
    (good_at 4 1 xs bytes (at 0))
    (good_at 5 2 xs bytes (at 0, at 1))
    (good_at 6 2 xs bytes (at 0, at 1))
    (good_at 7 0 xs bytes tt)
    (λ b none c rest e. cc)
    b
