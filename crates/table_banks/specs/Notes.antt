-- What a bank at the bottom notes beside its records, and what each call on that answers and leaves. Assumes nothing.
--     Noted                           the station count, every writer's reader, every cell's reachability
--     seen k                          what the notes k say
--     HasCell k w r                   cell (w, r) is one of the bank whose notes are k
--     Homed n w o                     the reader o, where there is one, has a cell of the writer w
--     fresh n                         nothing is open, all cells of n stations are reachable
--     noted_new n, seen_new r         what making notes answers: refused by 1
--     noted_place k w r               where cell (w, r) lies, else 4
--     reached k w r                   ok where cell (w, r) can be reached, else 4 or 15
--     noted_start k w r               what the start of a record answers and leaves
--     noted_finish k w                the same of its finish, which answers the reader
--     noted_mark k w r up             the same of a mark
--     with_reader k w o               the writer w has a record open for the reader o, or nothing
--     with_mark k w r up              cell (w, r) is reachable or not
use Rattle.std.specs.Prelude.{◌≡◌, ℕ, ◌-◌, Bool, true, cond, ◌&&◌, List, Some, None, Ok, Err, Option, Result, slice_index_or}
use Rattle.policy.specs.declared.refusal.Refusal.{Refusal}
use Rattle.policy.specs.declared.refusal.Refusal.TheVariants.{StationCount, UnknownStation, Unreachable, RecordOpen, NothingOpen}
use Rattle.banks.specs.Meanings.{inside, known, at_cell, at_row}
use Rattle.table_banks.specs.Cells.{cell}
use Rattle.banks.specs.Marks.{is_up}
use Rattle.banks.specs.declared.bank.Mark.{Mark}
use Rattle.banks.specs.declared.bank.Mark.TheVariants.{Up}
use Rattle.table_banks.specs.declared.notes.Notes.{Notes}

pub record Noted : Type 0 where
  pub stations : ℕ
  pub reader : ℕ → Option ℕ
  pub up : ℕ → ℕ → Bool

-- n stations, with lists of readers and marks, 16 marks to a writer
abbrev pub noting : ℕ → List (Option ℕ) → List Mark → Noted
noting n readers marks =
    record {
      stations = n;
      reader = λ w. cond (inside n w) (slice_index_or readers (w - 1) None) None;
      up = λ w r. known n w r && is_up (slice_index_or marks (cell 16 w r) Up);
    }

abbrev pub seen : Notes → Noted
seen k = noting k.count k.readers k.marks

abbrev pub HasCell : Noted → ℕ → ℕ → Type 0
HasCell k w r = known k.stations w r ≡ true

abbrev pub Homed : ℕ → ℕ → Option ℕ → Type 0
Homed n w None = Unit {0}
Homed n w (Some r) = known n w r ≡ true

abbrev pub fresh : ℕ → Noted
fresh n = record { stations = n; reader = λ w. None; up = known n }

abbrev pub seen_new : Result Notes Refusal → Result Noted Refusal
seen_new (Ok k) = Ok (seen k)
seen_new (Err e) = Err e

abbrev pub noted_new : ℕ → Result Noted Refusal
noted_new n = cond (inside 16 n) (Ok (fresh n)) (Err StationCount)

abbrev pub noted_place : Noted → ℕ → ℕ → Result (ℕ × ℕ × ℕ) Refusal
noted_place k w r = cond (known k.stations w r) (Ok (0, w, r)) (Err UnknownStation)

abbrev pub reached : Noted → ℕ → ℕ → Result (Unit {0}) Refusal
reached k w r = cond (known k.stations w r) (cond (k.up w r) (Ok tt) (Err (Unreachable (0, w, r)))) (Err UnknownStation)

abbrev pub with_reader : Noted → ℕ → Option ℕ → Noted
with_reader k w o = record { stations = k.stations; reader = at_row k.reader w o; up = k.up }

abbrev pub with_mark : Noted → ℕ → ℕ → Bool → Noted
with_mark k w r b = record { stations = k.stations; reader = k.reader; up = at_cell k.up w r b }

abbrev pub start_free : Option ℕ → Noted → ℕ → ℕ → Result (Unit {0}) Refusal × Noted
start_free None k w r = (Ok tt, with_reader k w (Some r))
start_free (Some q) k w r = (Err RecordOpen, k)

abbrev pub noted_start : Noted → ℕ → ℕ → Result (Unit {0}) Refusal × Noted
noted_start k w r =
    cond (known k.stations w r)
    (cond (k.up w r) (start_free (k.reader w) k w r) (Err (Unreachable (0, w, r)), k))
    (Err UnknownStation, k)

abbrev pub finish_open : Option ℕ → Noted → ℕ → Result ℕ Refusal × Noted
finish_open None k w = (Err NothingOpen, k)
finish_open (Some r) k w = cond (k.up w r) (Ok r, with_reader k w None) (Err (Unreachable (0, w, r)), k)

abbrev pub noted_finish : Noted → ℕ → Result ℕ Refusal × Noted
noted_finish k w = cond (inside k.stations w) (finish_open (k.reader w) k w) (Err UnknownStation, k)

abbrev pub noted_mark : Noted → ℕ → ℕ → Bool → Result (Unit {0}) Refusal × Noted
noted_mark k w r b =
    cond (known k.stations w r) (Ok tt, with_mark k w r b) (Err UnknownStation, k)
