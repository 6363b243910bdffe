-- What the contracts on the text of a command file cite. Assumes nothing.
--     refused e           a refusal in words
--     line k words        the line with the number k
--     explained xs        the text of a file with the bytes xs
--     newlines text       how many lines a text has
--     LineEach xs        the text of xs has a line for each command, and one for the refusal, if any
--     Tells xs            of files that are read to their end, only xs has its text
use Rattle.std.specs.Prelude.{◌≡◌, ℕ, suc, ◌+◌, cond, List, [], ◌∷◌, ◌++◌, length, Some, None, codes, decimal, Option, ◌==◌}
use Rattle.policy.specs.Refusals.{number_of}
use Rattle.policy.specs.declared.refusal.Refusal.{Refusal}
use Rattle.commands.specs.Readings.{Bytes, Complete, reading}
use Rattle.commands.specs.declared.command.Command.{Command}
use Rattle.commands.specs.Words.{field, said}

-- of the refusals, only 9 and 10 come while a file is read, and they carry no place
abbrev pub refused : Refusal → List ℕ
refused e = field (codes "no ") (number_of e)

abbrev pub line : ℕ → List ℕ → List ℕ
line k words = decimal k ++ (codes " " ++ (words ++ codes "\n"))

abbrev pub stop_line : ℕ → Option Refusal → List ℕ
stop_line k None = []
stop_line k (Some e) = line k (refused e)

abbrev pub lines_from : ℕ → List Command → Option Refusal → List ℕ
lines_from k [] stop = stop_line k stop
lines_from k (c ∷ cs) stop = line k (said c) ++ lines_from (suc k) cs stop

abbrev pub explained : List ℕ → List ℕ
explained xs = lines_from 1 (reading xs).commands (reading xs).stop

abbrev pub newlines : List ℕ → ℕ
newlines [] = 0
newlines (b ∷ bs) = cond (b == 10) (suc (newlines bs)) (newlines bs)

abbrev pub one_for : Option Refusal → ℕ
one_for None = 0
one_for (Some e) = 1

abbrev pub LineEach : List ℕ → Type 0
LineEach xs = newlines (explained xs) ≡ length (reading xs).commands + one_for (reading xs).stop

abbrev pub Tells : List ℕ → Type 0
Tells xs = Complete xs → (ys : List ℕ) → Bytes ys → Complete ys → explained ys ≡ explained xs → ys ≡ xs
