-- The lines of what the file's commands give, one after another. Assumes nothing.
use Rattle.std.proofs.Common.{◌≡◌, ℕ, suc, ◌+◌, ◌≤◌, List, [], ◌∷◌, ◌++◌, map, length, get_or, Some, None, Ok, Err, Option, Result, refl, ap, append-nil, arith, length-append, w8, Fits}
use mir.Facts.{Fits-lt-pow}
use Rattle.std.proofs.lemmas.List.{length-map}
use Rattle.policy.specs.declared.refusal.Refusal.{Refusal}
use Rattle.commands.specs.declared.command.Command.{Command}
use Rattle.commands.specs.Words.{said}
use Rattle.commands.specs.Readings.{reading}
use Rattle.commands.specs.Files.{stopped, outcomes}
use Rattle.commands.proofs.WholeFiles.{few_commands}
use Rattle.explain.specs.Texts.{lines_from, line, refused, explained}

-- a command or a refusal in words
abbrev pub told : Result Command Refusal → List ℕ
told (Ok c) = said c
told (Err e) = refused e

-- their lines, the first with the number k
abbrev pub lines_of : ℕ → List (Result Command Refusal) → List ℕ
lines_of k [] = []
lines_of k (o ∷ os) = line k (told o) ++ lines_of (suc k) os

each_line : (k : ℕ) (cs : List Command) (stop : Option Refusal) → lines_of k (map Ok cs ++ stopped stop) ≡ lines_from k cs stop
each_line k [] None = refl
each_line k [] (Some e) = append-nil (line k (refused e))
each_line k (c ∷ cs) stop = ap (λ ys. line k (said c) ++ ys) (each_line (suc k) cs stop)

pub whole_text : (xs : List ℕ) → lines_of 1 (outcomes xs) ≡ explained xs
whole_text xs = each_line 1 (reading xs).commands (reading xs).stop

one_stop : (stop : Option Refusal) → length (stopped stop) ≤ 1
one_stop None = omega arith
one_stop (Some e) = omega arith

pub few_lines : (xs : List ℕ) → ((i : ℕ) → Fits w8 (get_or xs i 0)) → length (outcomes xs) ≤ length xs + 1
few_lines xs typed =
    let commands = few_commands xs (λ i. Fits-lt-pow (typed i)) in
    omega (arith, commands, one_stop (reading xs).stop, length-append (map {B = Result Command Refusal} Ok (reading xs).commands) (stopped (reading xs).stop), length-map {B = Result Command Refusal} (reading xs).commands Ok)
