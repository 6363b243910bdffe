-- The words of a printed line, and the lines of a printed list. Assumes nothing.
use Rattle.std.proofs.Common.{◌≡◌, ℕ, ◌^◌, ◌<◌, true, false, List, [], ◌∷◌, ◌++◌, map, get_or, codes, decimal, refl, ap, ◌∙◌, append_assoc, append-nil, arith}
use Rattle.std.specs.Char.{is_ascii_digit}
use Rattle.std.specs.List.{AllByRecursion}
use Rattle.text.specs.Pieces.{pieces}
use Rattle.text.proofs.Pieces.{lacks, lacks_append, pieces_more, pieces_last, number_decimal, decimal_lacks}
use Rattle.stamps.specs.Makes.{shown_stamp}
use Rattle.stamps.specs.Pairs.{pair_make}
use Rattle.stamps.specs.declared.pair.PairStamp.{PairStamp}
use Rattle.machine.specs.declared.line.Kind.{Kind}
use Rattle.machine.specs.declared.line.Kind.TheVariants.{Write, Read}
use Rattle.machine.specs.declared.line.LineState.{LineState}
use Rattle.machine.specs.declared.line.LineState.TheVariants.{Collecting, Spreading, Done, Spent}
use Rattle.account.specs.Listings.{Entry, Sized, printed, read_kind, read_state, read_words, read_line}
use Rattle.account.specs.Words.{kind_said, state_said, record_said, line_said, journal_said}

read_kind_said : (k : Kind) → read_kind (kind_said k) ≡ k
read_kind_said Write = refl
read_kind_said Read = refl

read_state_said : (s : LineState) → read_state (state_said s) ≡ s
read_state_said Collecting = refl
read_state_said Spreading = refl
read_state_said Done = refl
read_state_said Spent = refl

kind_lacks : (k : Kind) → (lacks 32 (kind_said k) ≡ true) × (lacks 10 (kind_said k) ≡ true)
kind_lacks Write = (refl, refl)
kind_lacks Read = (refl, refl)

state_lacks : (s : LineState) → (lacks 32 (state_said s) ≡ true) × (lacks 10 (state_said s) ≡ true)
state_lacks Collecting = (refl, refl)
state_lacks Spreading = (refl, refl)
state_lacks Done = (refl, refl)
state_lacks Spent = (refl, refl)

owner_fits : (s : PairStamp) → s.owner < 2 ^ 64
owner_fits s = omega (arith, s.bounded)

stamp_lacks : (at : ℕ) (s : PairStamp) → is_ascii_digit at ≡ false → lacks at (codes ".") ≡ true → s.count < 2 ^ 64 → lacks at (shown_stamp pair_make s) ≡ true
stamp_lacks at s digit dot fits =
    lacks_append at (decimal s.count) _ (decimal_lacks at s.count digit fits)
    (lacks_append at (codes ".") (decimal s.owner) dot (decimal_lacks at s.owner digit (owner_fits s)))

-- a first word, and the others
pub then : (at : ℕ) (w rest : List ℕ) (ws : List (List ℕ)) → lacks at w ≡ true → pieces at rest ≡ ws → pieces at (w ++ (at ∷ rest)) ≡ w ∷ ws
then at w rest ws p e = pieces_more at w rest p ∙ ap (λ vs. w ∷ vs) e

abbrev words_of : Entry → List (List ℕ)
words_of l =
    kind_said l.kind ∷ decimal l.station ∷ state_said l.state ∷ shown_stamp pair_make l.stamp
    ∷ decimal l.value.0 ∷ decimal l.opened ∷ decimal l.ended ∷ []

line_words : (l : Entry) → Sized l → pieces 32 (line_said l) ≡ words_of l
line_words l fits =
    then 32 (kind_said l.kind) _ _ (kind_lacks l.kind).0
    (then 32 (decimal l.station) _ _ (decimal_lacks 32 l.station refl fits.0)
    (then 32 (state_said l.state) _ _ (state_lacks l.state).0
    (ap (pieces 32) (append_assoc (shown_stamp pair_make l.stamp) (32 ∷ decimal l.value.0) _)
    ∙ then 32 (shown_stamp pair_make l.stamp) _ _ (stamp_lacks 32 l.stamp refl refl fits.1)
    (then 32 (decimal l.value.0) _ _ (decimal_lacks 32 l.value.0 refl fits.2)
    (then 32 (decimal l.opened) _ _ (decimal_lacks 32 l.opened refl fits.3)
    (pieces_last 32 (decimal l.ended) (decimal_lacks 32 l.ended refl fits.4)))))))

stamp_parts : (s : PairStamp) → s.count < 2 ^ 64 → pieces 46 (shown_stamp pair_make s) ≡ decimal s.count ∷ decimal s.owner ∷ []
stamp_parts s fits =
    then 46 (decimal s.count) _ _ (decimal_lacks 46 s.count refl fits) (pieces_last 46 (decimal s.owner) (decimal_lacks 46 s.owner refl (owner_fits s)))

pub line_read : (l : Entry) → Sized l → read_line (line_said l) ≡ printed l
line_read l fits =
    let kind = read_kind_said l.kind in
    let station = number_decimal l.station fits.0 in
    let state = read_state_said l.state in
    let count = number_decimal l.stamp.count fits.1 in
    let owner = number_decimal l.stamp.owner (owner_fits l.stamp) in
    let value = number_decimal l.value.0 fits.2 in
    let opened = number_decimal l.opened fits.3 in
    let ended = number_decimal l.ended fits.4 in
    let named : read_words (words_of l) (decimal l.stamp.count ∷ decimal l.stamp.owner ∷ []) ≡ printed l = cc in
    ap (λ ws. read_words ws (pieces 46 (get_or ws 3 []))) (line_words l fits) ∙ ap (read_words (words_of l)) (stamp_parts l.stamp fits.1) ∙ named

line_lacks : (l : Entry) → Sized l → lacks 10 (line_said l) ≡ true
line_lacks l fits =
    let on = λ (w rest : List ℕ) (p : lacks 10 w ≡ true) (q : lacks 10 rest ≡ true). lacks_append 10 w (32 ∷ rest) p q in
    on (kind_said l.kind) _ (kind_lacks l.kind).1
    (on (decimal l.station) _ (decimal_lacks 10 l.station refl fits.0)
    (on (state_said l.state) _ (state_lacks l.state).1
    (on (record_said l.stamp l.value) _
    (on (shown_stamp pair_make l.stamp) _ (stamp_lacks 10 l.stamp refl refl fits.1) (decimal_lacks 10 l.value.0 refl fits.2))
    (on (decimal l.opened) _ (decimal_lacks 10 l.opened refl fits.3) (decimal_lacks 10 l.ended refl fits.4)))))

-- lines in front of which a line's end stands
pub journal_lines : (first : List ℕ) (ls : List Entry) → lacks 10 first ≡ true → AllByRecursion Sized ls → pieces 10 (first ++ journal_said ls) ≡ first ∷ map line_said ls
journal_lines first [] p fits = ap (pieces 10) (append-nil first) ∙ pieces_last 10 first p
journal_lines first (l ∷ ls) p fits = then 10 first _ _ p (journal_lines (line_said l) ls (line_lacks l fits.0) fits.1)

pub lines_read : (ls : List Entry) → AllByRecursion Sized ls → map read_line (map line_said ls) ≡ map printed ls
lines_read [] fits = refl
lines_read (l ∷ ls) fits = let first = line_read l fits.0 in let others = lines_read ls fits.1 in cc
