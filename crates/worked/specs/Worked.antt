-- The worked values of stamps and of the register, in a single list. Assumes nothing.
--     Worked              each value, shown of the definitions
--     run n k cs          the notes of the calls cs on a new register of n stations with pair stamps, from count k and value 7, and the last machine
--     notes run           the calls with their answers
--     held run i          the stamp's count and owner, the value and the state in line i
--     told n k cs i       of operation i in the run of the same calls over a journal of 4 lines, if it is stamped: kind, opened, stamped and ended moments, the stamp's count and owner, value
use Rattle.std.specs.Prelude.{◌≡◌, ℕ, zero, suc, ◌-◌, Bool, true, false, List, [], ◌∷◌, replicate, Some, None, Ok, Err, Option, Result}
use Rattle.std.specs.List.{slice_get}
use Rattle.policy.specs.declared.refusal.Refusal.{Refusal}
use Rattle.policy.specs.declared.refusal.Refusal.TheVariants.{Spent, Unreachable}
use Rattle.stamps.specs.Pairs.{pair_at, pair_make}
use Rattle.stamps.specs.Worked.{Worked as StampValues}
use Rattle.stamps.specs.declared.pair.PairStamp.{PairStamp}
use Rattle.banks.specs.Meanings.{Meaning}
use Rattle.banks.specs.declared.record.Record.{Record}
use Rattle.machine.specs.Machines.{Machine, make}
use Rattle.machine.specs.Runs.{Call, write_call, read_call, step_call, mark_call, Note, write_note, read_note, step_note, mark_note, act, play}
use Rattle.machine.specs.Rules.{Stamped, history, stamped}
use Rattle.machine.specs.declared.line.Kind.{Kind}
use Rattle.machine.specs.declared.line.Kind.TheVariants.{Write, Read}
use Rattle.machine.specs.declared.line.Line.{Line}
use Rattle.machine.specs.declared.line.LineState.{LineState}
use Rattle.machine.specs.declared.line.LineState.TheVariants.{Spreading, Done}
use Rattle.std.proofs.Common.{leb→le}

abbrev Run : Type 0
Run = Option (List (Note PairStamp ℕ) × Machine PairStamp ℕ)

-- a bank at the bottom: the make of a register fills it
abbrev bottom : ℕ → Meaning (Record PairStamp ℕ)
bottom n =
    record { stations = n; settled = λ w r. None; opened = λ w. None; reachable = λ w r. false; place = λ w r. (0, w, r) }

-- a journal line that is not in use
abbrev unused : Line PairStamp ℕ
unused =
    record {
      kind = Read;
      station = 0;
      state = Done;
      stamp = pair_at 0 0 (leb→le 0 16 tt);
      value = 0;
      opened = 0;
      ended = 0;
    }

abbrev from : Result (Machine PairStamp ℕ) Refusal → List (Call ℕ) → Run
from (Ok M) calls = Some (play (act pair_make) M calls)
from (Err e) calls = None

abbrev made : ℕ → ℕ → Result (Machine PairStamp ℕ) Refusal
made n k = make pair_make (bottom n) n k 7 (replicate 4 unused) 4

abbrev run : ℕ → ℕ → List (Call ℕ) → Run
run n k calls = from (make pair_make (bottom n) n k 7 (replicate 2 unused) 2) calls

abbrev notes : Run → Option (List (Note PairStamp ℕ))
notes None = None
notes (Some r) = Some r.0

abbrev parts : Option (Line PairStamp ℕ) → Option (ℕ × ℕ × ℕ × LineState)
parts None = None
parts (Some l) = Some (l.stamp.count, l.stamp.owner, l.value, l.state)

abbrev held : Run → ℕ → Option (ℕ × ℕ × ℕ × LineState)
held None i = None
held (Some r) i = parts (slice_get r.1.lines (i - 1))

abbrev stamped_parts : Option (Stamped PairStamp ℕ) → Option (Kind × ℕ × ℕ × Option ℕ × ℕ × ℕ × ℕ)
stamped_parts None = None
stamped_parts (Some x) = Some (x.kind, x.opened, x.stamped_at, x.ended, x.stamp.count, x.stamp.owner, x.value)

abbrev told_from : Result (Machine PairStamp ℕ) Refusal → List (Call ℕ) → ℕ → Option (Kind × ℕ × ℕ × Option ℕ × ℕ × ℕ × ℕ)
told_from (Ok M) calls i = stamped_parts (stamped (history (act pair_make) M calls) i)
told_from (Err e) calls i = None

abbrev told : ℕ → ℕ → List (Call ℕ) → ℕ → Option (Kind × ℕ × ℕ × Option ℕ × ℕ × ℕ × ℕ)
told n k calls i = told_from (made n k) calls i

-- j steps of station s on a board, and then the calls behind them
abbrev steps : ℕ → ℕ → List (Call ℕ) → List (Call ℕ)
steps s zero calls = calls
steps s (suc j) calls = step_call s true ∷ steps s j calls

-- Stations 1 and 2 write and station 3 reads, all three at once: 3 meets the write of 1 in an open cell, and 2 is stamped
-- above it. When all have ended, station 1 reads.
abbrev overlapping : List (Call ℕ)
overlapping =
    write_call 1 9 ∷ write_call 2 11 ∷ read_call 3
    ∷ steps 1 8 (steps 3 1 (steps 2 3 (steps 1 1 (steps 3 2 (steps 2 6 (steps 3 6 (read_call 1 ∷ steps 1 9 [])))))))

-- a write of 9 at the one station, and its first step
abbrev first_step : Bool → List (Call ℕ)
first_step c = write_call 1 9 ∷ step_call 1 c ∷ []

-- station 1 writes 9 and takes five steps, which leave its cell for station 2 open; station 2 opens a read and takes two
abbrev read_of_open : Bool → List (Call ℕ)
read_of_open c =
    write_call 1 9 ∷ step_call 1 c ∷ step_call 1 c ∷ step_call 1 c ∷ step_call 1 c ∷ step_call 1 c
    ∷ read_call 2 ∷ step_call 2 c ∷ step_call 2 c ∷ []

-- cell (1, 2) is down at the first step of a read at 2, and up again at the next
abbrev down_and_up : Bool → List (Call ℕ)
down_and_up c = mark_call 1 2 false ∷ read_call 2 ∷ step_call 2 c ∷ mark_call 1 2 true ∷ step_call 2 c ∷ []

-- A bank's choice is true on a board, which answers the open record, and false on a post.
pub record Worked : Type 0 where
  pub stamps : StampValues
  -- one station: from the greatest count a write is refused as spent
  pub spent : (c : Bool) → notes (run 1 4294967295 (first_step c)) ≡ Some (write_note 1 9 (Ok 1) ∷ step_note 1 (Err Spent) ∷ [])
  -- from the last but one it is stamped
  pub stamped : (c : Bool) → notes (run 1 4294967294 (first_step c)) ≡ Some (write_note 1 9 (Ok 1) ∷ step_note 1 (Ok None) ∷ [])
  pub stamped_line : (c : Bool) → held (run 1 4294967294 (first_step c)) 1 ≡ Some (4294967295, 1, 9, Spreading)
  -- two stations: the read's line on a board, and on a post
  pub board_read : held (run 2 0 (read_of_open true)) 2 ≡ Some (1, 1, 9, Spreading)
  pub post_read : held (run 2 0 (read_of_open false)) 2 ≡ Some (0, 0, 7, Spreading)
  -- a lost link
  pub lost_link : (c : Bool) → notes (run 2 0 (down_and_up c)) ≡ Some (mark_note 1 2 false (Ok tt) ∷ read_note 2 (Ok 1) ∷ step_note 2 (Err (Unreachable (0, 1, 2))) ∷ mark_note 1 2 true (Ok tt) ∷ step_note 2 (Ok None) ∷ [])
  -- three stations that overlap: what the law speaks of in that run
  pub first_write : told 3 0 overlapping 1 ≡ Some (Write, 1, 6, Some 16, 1, 1, 9)
  pub second_write : told 3 0 overlapping 2 ≡ Some (Write, 2, 15, Some 24, 2, 2, 11)
  pub read_of_first : told 3 0 overlapping 3 ≡ Some (Read, 3, 18, Some 30, 1, 1, 9)
  pub read_after_all : told 3 0 overlapping 4 ≡ Some (Read, 31, 34, Some 40, 2, 2, 11)
