-- The text of a file's beginning. Assumes nothing.
use Rattle.std.proofs.Common.{◌≡◌, ℕ, zero, suc, ◌+◌, ◌<◌, ◌≤◌, true, leb, List, [], ◌∷◌, ◌++◌, length, get_or, Some, None, Ok, Err, Option, sym, refl, ap, ◌∙◌, append_assoc, zero-add, arith}
use Rattle.std.proofs.lemmas.List.{get_or_append_left, drop-append-le, length-append}
use Rattle.std.proofs.lemmas.Bool.{le-leb, cond-true}
use Rattle.policy.specs.declared.refusal.Refusal.{Refusal}
use Rattle.commands.specs.Commands.{Decoded, decoded, decoded_at, command, width}
use Rattle.commands.specs.Readings.{Reading, Complete, reading}
use Rattle.commands.specs.declared.command.Command.{Command}
use Rattle.commands.proofs.ReadingLaws.{shorter, reading_end, reading_stop, reading_more}
use Rattle.commands.proofs.RoundTrips.{taken, by_byte}
use Rattle.commands.proofs.WholeFiles.{empty}
use Rattle.account.specs.Laws.{game_after, Begins}
use Rattle.account.specs.Texts.{Game, text, answer}
use Rattle.account.specs.Words.{line}

-- the operands of a command stand at the front, so what follows them does not change it
same_command : (b k : ℕ) (zs ys : List ℕ) → width b ≡ Some k → k ≤ length zs → command b (zs ++ ys) ≡ command b zs
same_command b k zs ys =
    by_byte (λ b. width b ≡ Some k → k ≤ length zs → command b (zs ++ ys) ≡ command b zs)
    (λ w enough. let is : k ≡ 10 = cc in cc (at 0 (omega arith), at 1 (omega arith), at 2 (omega arith), at 3 (omega arith), at 4 (omega arith), at 5 (omega arith), at 6 (omega arith), at 7 (omega arith), at 8 (omega arith), at 9 (omega arith)))
    (λ w enough. let is : k ≡ 5 = cc in cc (at 0 (omega arith), at 1 (omega arith), at 2 (omega arith), at 3 (omega arith), at 4 (omega arith)))
    (λ w enough. let is : k ≡ 1 = cc in cc (at 0 (omega arith)))
    (λ w enough. let is : k ≡ 1 = cc in cc (at 0 (omega arith)))
    (λ w enough. let is : k ≡ 2 = cc in cc (at 0 (omega arith), at 1 (omega arith)))
    (λ w enough. let is : k ≡ 2 = cc in cc (at 0 (omega arith), at 1 (omega arith)))
    (λ w enough. refl)
    (λ b none w enough. cc)
    b
  where
    at : (i : ℕ) → i < length zs → get_or (zs ++ ys) i 0 ≡ get_or zs i 0
    at i h = get_or_append_left zs ys 0 i h

decoded_more_at : (o : Option ℕ) (b : ℕ) (zs ys : List ℕ) (c : Command) (rest : List ℕ) → width b ≡ o → decoded_at o b zs ≡ Ok (Some (c, rest)) → decoded_at o b (zs ++ ys) ≡ Ok (Some (c, rest ++ ys))
decoded_more_at None b zs ys c rest w e = cc
decoded_more_at (Some k) b zs ys c rest w e =
    let t = taken b k zs c rest e in
    let enough : leb k (length (zs ++ ys)) ≡ true = le-leb k (length (zs ++ ys)) (omega (arith, length-append zs ys, t.0)) in
    let same = same_command b k zs ys w t.0 ∙ t.1 in
    let left = drop-append-le k zs ys t.0 ∙ ap (λ r. r ++ ys) t.2 in
    cond-true (leb k (length (zs ++ ys))) _ _ enough ∙ cc

decoded_more : (xs ys : List ℕ) (c : Command) (rest : List ℕ) → decoded xs ≡ Ok (Some (c, rest)) → decoded (xs ++ ys) ≡ Ok (Some (c, rest ++ ys))
decoded_more [] ys c rest e = cc
decoded_more (b ∷ zs) ys c rest e = decoded_more_at (width b) b zs ys c rest refl e

-- a file that is read to its end, and what follows it
abbrev Joined : List ℕ → List ℕ → Type 0
Joined xs ys = reading (xs ++ ys) ≡ record { commands = (reading xs).commands ++ (reading ys).commands; stop = (reading ys).stop }

abbrev followed : List ℕ → Reading → Reading
followed ys r = record { commands = r.commands ++ (reading ys).commands; stop = (reading ys).stop }

joined_at : (xs ys : List ℕ) → ((zs : List ℕ) → length zs < length xs → Complete zs → Joined zs ys) → (d : Decoded) → decoded xs ≡ d → Complete xs → Joined xs ys
joined_at xs ys shorter_joined (Ok None) e end = ap (λ zs. reading (zs ++ ys)) (empty xs e) ∙ sym (ap (followed ys) (reading_end xs e))
joined_at xs ys shorter_joined (Ok (Some p)) e end =
    let more = reading_more xs p.0 p.1 e in
    let rest_end : Complete p.1 = sym (ap (λ (r : Reading). r.stop) more) ∙ end in
    let joined = shorter_joined p.1 (shorter xs p.0 p.1 e) rest_end in
    reading_more (xs ++ ys) p.0 (p.1 ++ ys) (decoded_more xs ys p.0 p.1 e)
    ∙ ap (λ (r : Reading). record { commands = p.0 ∷ r.commands; stop = r.stop }) joined
    ∙ sym (ap (followed ys) more)
joined_at xs ys shorter_joined (Err x) e end =
    let stopped = ap (λ (r : Reading). r.stop) (reading_stop xs x e) in cc

joined_within : (k : ℕ) (xs ys : List ℕ) → length xs < k → Complete xs → Joined xs ys
joined_within zero xs ys few end = absurd (omega arith)
joined_within (suc k) xs ys few end = joined_at xs ys (λ zs less. joined_within k zs ys (omega arith)) (decoded xs) refl end

-- the text of commands, and of those that follow them
pub text_more : (cs ds : List Command) (g : Option Game) (k : ℕ) (stop : Option Refusal) → text (cs ++ ds) g k stop ≡ text cs g k None ++ text ds (game_after cs g) (length cs + k) stop
text_more [] ds g k stop = ap (λ j. text ds g j stop) (sym (zero-add k))
text_more (c ∷ cs) ds g k stop =
    let a = answer g c in
    let rest = λ (j : ℕ). text ds (game_after cs a.1) j stop in
    let on : length cs + suc k ≡ suc (length cs) + k = omega arith in
    ap (λ xs. line k a.0 ++ xs) (text_more cs ds a.1 (suc k) stop)
    ∙ sym (append_assoc (line k a.0) (text cs a.1 (suc k) None) (rest (length cs + suc k)))
    ∙ ap (λ j. (line k a.0 ++ text cs a.1 (suc k) None) ++ rest j) on

pub begins : (xs : List ℕ) → Begins xs
begins xs end ys =
    let more = text_more (reading xs).commands (reading ys).commands None 1 (reading ys).stop in
    let rest = text (reading ys).commands (game_after (reading xs).commands None) (length (reading xs).commands + 1) (reading ys).stop in
    let joined = joined_within (suc (length xs)) xs ys (omega arith) end in (
      rest,
      ap (λ (r : Reading). text r.commands None 1 r.stop) joined
          ∙ more
          ∙ ap (λ s. text (reading xs).commands None 1 s ++ rest) (sym end),
    )
