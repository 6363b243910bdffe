-- Runs of three stations in which the three wrong machines break the law. Assumes nothing.
use Rattle.std.proofs.Common.{ℕ, zero, suc, true, false, List, [], ◌∷◌, replicate, Some, refl, lit<}
use Rattle.std.proofs.lemmas.Bool.{both_ways}
use Rattle.banks.specs.declared.record.Record.{Record}
use Rattle.banks.specs.Meanings.{filled}
use Rattle.machine.specs.Machines.{Machine}
use Rattle.machine.specs.Runs.{Call, write_call, read_call, step_call}
use Rattle.machine.specs.Rules.{Stamped}
use Rattle.machine.specs.Wrong.{blank, line, quiet_act, early_act, tied_act, Breaks}
use Rattle.machine.specs.declared.line.Kind.{Kind}
use Rattle.machine.specs.declared.line.Kind.TheVariants.{Write, Read}
use Rattle.machine.specs.declared.row.Row.TheVariants.{Idle}

abbrev x : Record (ℕ × ℕ) ℕ
x = record { tag = (0, 0); value = 0 }

abbrev new : Machine (ℕ × ℕ) ℕ
new = record { stations = 3; bank = filled blank x; origin = x; lines = replicate 4 line; used = 0; size = 4; moment = 0; rows = replicate 16 Idle }

-- k steps of station s, and then the calls behind them
abbrev steps : ℕ → ℕ → List (Call ℕ) → List (Call ℕ)
steps s zero calls = calls
steps s (suc k) calls = step_call s false ∷ steps s k calls

abbrev stamped : Kind → ℕ → ℕ → ℕ → ℕ × ℕ → ℕ → Stamped (ℕ × ℕ) ℕ
stamped kind opened at end stamp value = record { kind = kind; opened = opened; stamped_at = at; ended = Some end; stamp = stamp; value = value }

-- the write of station 1 is opened after that of station 2 has ended, and has the smaller stamp
pub early_breaks : Breaks early_act
early_breaks =
    (new, write_call 2 7 ∷ steps 2 9 (write_call 1 8 ∷ steps 1 9 []), refl, λ law. both_ways false refl (law.write_greater 1 2 (stamped Write 1 4 10 (1, 2) 7) (stamped Write 11 14 20 (1, 1) 8) 10 refl refl refl (lit< tt) refl))

-- station 2 reads the new value, and afterwards station 3 the old one
pub quiet_breaks : Breaks quiet_act
quiet_breaks =
    (new, write_call 1 7 ∷ steps 1 7 (read_call 2 ∷ steps 2 9 (read_call 3 ∷ steps 3 9 [])), refl, λ law. both_ways true (law.never_smaller 2 3 (stamped Read 9 12 18 (1, 1) 7) (stamped Read 19 22 28 (0, 0) 0) 18 refl refl refl (lit< tt)) refl)

-- stations 1 and 2 write at the same time; station 3 reads the write of 2, and afterwards that of 1, whose stamp is smaller
pub tied_breaks : Breaks tied_act
tied_breaks =
    (new, write_call 1 7 ∷ steps 1 3 (write_call 2 8 ∷ steps 2 9 (read_call 3 ∷ steps 3 9 (steps 1 6 (read_call 3 ∷ steps 3 9 [])))), refl, λ law. both_ways true (law.never_smaller 3 4 (stamped Read 15 18 24 (1, 2) 8) (stamped Read 31 34 40 (1, 1) 7) 24 refl refl refl (lit< tt)) refl)
