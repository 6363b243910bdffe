-- What the text of a file tells of it. Assumes nothing.
use Rattle.std.proofs.Common.{◌≡◌, ℕ, suc, ◌+◌, ◌^◌, ◌<◌, true, List, [], ◌∷◌, ◌++◌, length, Some, None, codes, decimal, Option, sym, refl, ap, ◌∙◌, append-nil, suc-add, zero-add, arith, length-append, get_or, w8, Fits}
use mir.Facts.{Fits-lt-pow}
use Rattle.std.proofs.lemmas.List.{append_cancel_left}
use Rattle.std.proofs.lemmas.Bool.Decides.{nat_tests}
use Rattle.std.proofs.lemmas.Grind.{common_steps}
use Rattle.text.proofs.Pieces.{lacks, lacks_append}
use Rattle.policy.specs.Refusals.{number_of}
use Rattle.policy.specs.declared.refusal.Refusal.{Refusal}
use Rattle.policy.proofs.Numbers.{number_below}
use Rattle.commands.specs.Readings.{Bytes, reading, bytes_of_all}
use Rattle.commands.specs.declared.command.Command.{Command}
use Rattle.commands.specs.declared.command.Command.TheVariants.{Make, Write, Read, Step, Down, Up, List as Lines}
use Rattle.commands.proofs.ReadingLaws.{Small, AllSmall}
use Rattle.commands.proofs.WholeFiles.{all_small, few_commands, complete_bytes}
use Rattle.commands.specs.Words.{said, bank_said}
use Rattle.explain.specs.Texts.{refused, line, stop_line, lines_from, newlines, one_for, LineEach, Tells}
use Rattle.explain.proofs.Plain.{plain_decimal, newlines_plain, first_line}
use Rattle.explain.proofs.Unsaid.{same_said}

plain_field : (word : List ℕ) (n : ℕ) → lacks 10 word ≡ true → n < 2 ^ 64 → lacks 10 (word ++ decimal n) ≡ true
plain_field word n p fits = lacks_append 10 word (decimal n) p (plain_decimal n fits)

plain_bank : (b : ℕ) → b < 2 ^ 64 → lacks 10 (bank_said b) ≡ true
plain_bank b fits = grind (arith, nat_tests, plain_field (codes "make bank ") b refl)

plain_said : (c : Command) → Small c → lacks 10 (said c) ≡ true
plain_said (Make bank stations count value) small =
    lacks_append 10 (bank_said bank) _ (plain_bank bank small.0)
    (lacks_append 10 (codes " stations " ++ decimal stations) _ (plain_field (codes " stations ") stations refl small.1)
    (lacks_append 10 (codes " count " ++ decimal count) _ (plain_field (codes " count ") count refl small.2) (plain_field (codes " value ") value.0 refl small.3)))
plain_said (Write station value) small =
    lacks_append 10 (codes "write station " ++ decimal station) _ (plain_field (codes "write station ") station refl small.0) (plain_field (codes " value ") value.0 refl small.1)
plain_said (Read station) small = plain_field (codes "read station ") station refl small
plain_said (Step station) small = plain_field (codes "step station ") station refl small
plain_said (Down writer reader) small =
    lacks_append 10 (codes "down writer " ++ decimal writer) _ (plain_field (codes "down writer ") writer refl small.0) (plain_field (codes " reader ") reader refl small.1)
plain_said (Up writer reader) small =
    lacks_append 10 (codes "up writer " ++ decimal writer) _ (plain_field (codes "up writer ") writer refl small.0) (plain_field (codes " reader ") reader refl small.1)
plain_said Lines small = refl

-- a line and what follows it, with the end of the line between them
parted : (k : ℕ) (words rest : List ℕ) → line k words ++ rest ≡ decimal k ++ (32 ∷ (words ++ (10 ∷ rest)))
parted k words rest = grind (arith, common_steps)

one_line : (k : ℕ) (words rest : List ℕ) → k < 2 ^ 64 → lacks 10 words ≡ true → newlines (line k words ++ rest) ≡ suc (newlines rest)
one_line k words rest fits p =
    ap newlines (parted k words rest) ∙ newlines_plain (decimal k) (32 ∷ (words ++ (10 ∷ rest))) (plain_decimal k fits) ∙ newlines_plain words (10 ∷ rest) p

stop_lines : (k : ℕ) (stop : Option Refusal) → k < 2 ^ 64 → newlines (stop_line k stop) ≡ one_for stop
stop_lines k None fits = refl
stop_lines k (Some e) fits =
    ap newlines (sym (append-nil (line k (refused e)))) ∙ one_line k (refused e) [] fits (plain_field (codes "no ") (number_of e) refl (omega (arith, number_below e)))

all_lines : (k : ℕ) (cs : List Command) (stop : Option Refusal) → k + length cs < 2 ^ 64 → AllSmall cs → newlines (lines_from k cs stop) ≡ length cs + one_for stop
all_lines k [] stop fits small = stop_lines k stop (omega arith) ∙ sym (zero-add (one_for stop))
all_lines k (c ∷ cs) stop fits small =
    one_line k (said c) (lines_from (suc k) cs stop) (omega arith) (plain_said c small.0)
    ∙ ap suc (all_lines (suc k) cs stop (omega arith) small.1)
    ∙ sym (suc-add (length cs) (one_for stop))

nonempty : (k : ℕ) (words rest : List ℕ) → [] ≡ line k words ++ rest → ⊥
nonempty k words rest e = omega (arith, ap length (e ∙ parted k words rest), length-append (decimal k) (32 ∷ (words ++ (10 ∷ rest))))

-- lines that begin with one number are the lines of the same commands
same_commands : (k : ℕ) (cs ds : List Command) → AllSmall cs → AllSmall ds → lines_from k cs None ≡ lines_from k ds None → cs ≡ ds
same_commands k [] [] cs_small ds_small e = refl
same_commands k [] (d ∷ ds) cs_small ds_small e = absurd (nonempty k (said d) (lines_from (suc k) ds None) e)
same_commands k (c ∷ cs) [] cs_small ds_small e = absurd (nonempty k (said c) (lines_from (suc k) cs None) (sym e))
same_commands k (c ∷ cs) (d ∷ ds) cs_small ds_small e =
    let cs_lines = lines_from (suc k) cs None in
    let ds_lines = lines_from (suc k) ds None in
    let behind = append_cancel_left (decimal k) _ _ (sym (parted k (said c) cs_lines) ∙ e ∙ parted k (said d) ds_lines) in
    let words : said c ++ (10 ∷ cs_lines) ≡ said d ++ (10 ∷ ds_lines) = cc in
    let cut = first_line (said c) (said d) cs_lines ds_lines (plain_said c cs_small.0) (plain_said d ds_small.0) words in
    let first = same_said c d cs_small.0 ds_small.0 cut.0 in
    let others = same_commands (suc k) cs ds cs_small.1 ds_small.1 cut.1 in
    cc

pub line_each : (xs : List ℕ) → ((i : ℕ) → Fits w8 (get_or xs i 0)) → length xs + 1 < 2 ^ 64 → LineEach xs
line_each xs typed fits =
    let bytes : Bytes xs = λ i. Fits-lt-pow (typed i) in
    all_lines 1 (reading xs).commands (reading xs).stop (omega (arith, few_commands xs bytes)) (all_small xs bytes)

pub tells : (xs : List ℕ) → ((i : ℕ) → Fits w8 (get_or xs i 0)) → Tells xs
tells xs typed xs_end ys ys_bytes ys_end e =
    let bytes : Bytes xs = λ i. Fits-lt-pow (typed i) in
    let text_xs = ap (lines_from 1 (reading xs).commands) xs_end in
    let text_ys = ap (lines_from 1 (reading ys).commands) ys_end in
    let same = same_commands 1 (reading ys).commands (reading xs).commands (all_small ys ys_bytes) (all_small xs bytes) (sym text_ys ∙ e ∙ text_xs) in
    complete_bytes ys ys_bytes ys_end ∙ ap bytes_of_all same ∙ sym (complete_bytes xs bytes xs_end)
