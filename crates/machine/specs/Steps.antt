-- What a step of the machine answers, and what it leaves. Assumes nothing.
--     step m M c s            a step of station s; c: where a cell has two records, its read answers the open one
--     spread_to s j           the reader whose cell station s writes as its j-th, from 0
--     SpreadsOnce n s        the law of that order
--     collected m l x         line l after the read of a cell that holds x
--     in_state, holding, ending   a line in another state, with another stamp and value, at its end
use Rattle.std.specs.Prelude.{◌≡◌, ℕ, ◌+◌, ◌-◌, ◌*◌, ◌/◌, ◌%◌, ◌<◌, Bool, true, cond, length, Some, None, Ok, Err, Option, Result, ◌==◌, nat_le, nat_lt, slice_set}
use Rattle.std.specs.List.{slice_get}
use Rattle.policy.specs.declared.refusal.Refusal.{Refusal}
use Rattle.policy.specs.declared.refusal.Refusal.TheVariants as refusals
use Rattle.banks.specs.declared.record.Record.{Record}
use Rattle.banks.specs.Meanings.{Meaning, inside, read, start, finish}
use Rattle.stamps.specs.Makes.{Make}
use Rattle.machine.specs.Machines.{Machine, row_of, record_of, next_machine, with_bank}
use Rattle.machine.specs.declared.line.Kind.{Kind}
use Rattle.machine.specs.declared.line.Kind.TheVariants.{Write, Read}
use Rattle.machine.specs.declared.line.LineState.{LineState}
use Rattle.machine.specs.declared.line.LineState.TheVariants as states
use Rattle.machine.specs.declared.line.Line.{Line}
use Rattle.machine.specs.declared.row.Row.{Row}
use Rattle.machine.specs.declared.row.Row.TheVariants.{Idle, Busy}

abbrev pub spread_to : ℕ → ℕ → ℕ
spread_to s j = j + 1

-- the law of the order of spreading: of n stations, each comes exactly once as a reader
pub record SpreadsOnce (n s : ℕ) : Type 0 where
  pub known : (j : ℕ) → j < n → inside n (spread_to s j) ≡ true
  pub each : (r : ℕ) → inside n r ≡ true → (j : ℕ) × (j < n) × (spread_to s j ≡ r)
  pub once : (i j : ℕ) → i < n → j < n → spread_to s i ≡ spread_to s j → i ≡ j

-- the value of a line that takes a record with the value met: a write keeps its own
abbrev pub value_of : {V : Type 0} → Kind → V → V → V
value_of Write own met = own
value_of Read own met = met

module _ {S V : Type 0} where
  -- l in another state
  abbrev pub in_state : Line S V → LineState → Line S V
  in_state l state =
      record {
        kind = l.kind;
        station = l.station;
        state = state;
        stamp = l.stamp;
        value = l.value;
        opened = l.opened;
        ended = l.ended;
      }

  -- l with another stamp and value
  abbrev pub holding : Line S V → S → V → Line S V
  holding l s v =
      record {
        kind = l.kind;
        station = l.station;
        state = l.state;
        stamp = s;
        value = v;
        opened = l.opened;
        ended = l.ended;
      }

  -- l at its end
  abbrev pub ending : Line S V → LineState → ℕ → Line S V
  ending l state t =
      record {
        kind = l.kind;
        station = l.station;
        state = state;
        stamp = l.stamp;
        value = l.value;
        opened = l.opened;
        ended = t;
      }

  -- l after a cell that holds x: it takes the greater stamp
  abbrev pub collected : Make S → Line S V → Record S V → Line S V
  collected m l x = cond (m.smaller l.stamp x.tag) (holding l x.tag (value_of l.kind l.value x.value)) l

  -- the operation of s goes on: its line i is l, and it has taken c steps
  abbrev pub going : Machine S V → ℕ → ℕ → Line S V → ℕ → Result (Option (Record S V)) Refusal × Machine S V
  going M s i l c = (Ok None, next_machine M M.bank (slice_set M.lines (i - 1) l) M.used s (Busy i c))

  -- a write at the end of its collecting: it is stamped, or ends as spent
  abbrev pub stamp_write : Machine S V → ℕ → ℕ → Line S V → ℕ → Option S → Result (Option (Record S V)) Refusal × Machine S V
  stamp_write M s i l c None =
      (Err refusals.Spent, next_machine M M.bank (slice_set M.lines (i - 1) (ending l states.Spent (M.moment + 1))) M.used s Idle)
  stamp_write M s i l c (Some t) = going M s i (in_state (holding l t l.value) states.Spreading) c

  -- the end of collecting
  abbrev pub stamp_line : Make S → Machine S V → ℕ → ℕ → Line S V → ℕ → Kind → Result (Option (Record S V)) Refusal × Machine S V
  stamp_line m M s i l c Write = stamp_write M s i l c (m.next l.stamp s)
  stamp_line m M s i l c Read = going M s i (in_state l states.Spreading) c

  -- line i of s, of c steps so far, after the read of its next cell, which answered a and left the bank
  abbrev pub collect : Make S → Machine S V → ℕ → ℕ → ℕ → Line S V → Result (Record S V) Refusal → Meaning (Record S V) → Result (Option (Record S V)) Refusal × Machine S V
  collect m M s i c l (Err e) bank = (Err e, with_bank M bank)
  collect m M s i c l (Ok x) bank =
      cond (c + 1 == M.stations)
      (stamp_line m M s i (collected m l x) (c + 1) l.kind)
      (going M s i (collected m l x) (c + 1))

  -- after the start of a cell
  abbrev pub spread : Machine S V → ℕ → ℕ → ℕ → Result (Unit {0}) Refusal → Meaning (Record S V) → Result (Option (Record S V)) Refusal × Machine S V
  spread M s i c (Err e) bank = (Err e, with_bank M bank)
  spread M s i c (Ok u) bank = (Ok None, next_machine M bank M.lines M.used s (Busy i (c + 1)))

  -- after the finish of a cell: the last one ends the operation
  abbrev pub settle : Machine S V → ℕ → ℕ → ℕ → Line S V → Result (Unit {0}) Refusal → Meaning (Record S V) → Result (Option (Record S V)) Refusal × Machine S V
  settle M s i c l (Err e) bank = (Err e, with_bank M bank)
  settle M s i c l (Ok u) bank =
      cond (c + 1 == 3 * M.stations)
      (Ok (Some (record_of l)), next_machine M bank (slice_set M.lines (i - 1) (ending l states.Done (M.moment + 1))) M.used s Idle)
      (Ok None, next_machine M bank M.lines M.used s (Busy i (c + 1)))

  -- collecting while c is below the number of stations n; then, for each j from 0, a start at c = n + 2 * j and a finish
  abbrev pub step_stage : Make S → Machine S V → Bool → ℕ → ℕ → ℕ → Line S V → Result (Option (Record S V)) Refusal × Machine S V
  step_stage m M choice s i c l =
      cond (nat_lt c M.stations)
      (collect m M s i c l (read M.bank choice (c + 1) s).0 (read M.bank choice (c + 1) s).1)
      (cond ((c - M.stations) % 2 == 0)
      (spread M s i c (start M.bank s (spread_to s ((c - M.stations) / 2)) (record_of l)).0 (start M.bank s (spread_to s ((c - M.stations) / 2)) (record_of l)).1)
      (settle M s i c l (finish M.bank s).0 (finish M.bank s).1))

  abbrev pub step_line : Make S → Machine S V → Bool → ℕ → ℕ → ℕ → Option (Line S V) → Result (Option (Record S V)) Refusal × Machine S V
  step_line m M choice s i c None = (Err refusals.JournalSize, M)
  step_line m M choice s i c (Some l) = step_stage m M choice s i c l

  abbrev pub step_row : Make S → Machine S V → Bool → ℕ → Row → Result (Option (Record S V)) Refusal × Machine S V
  step_row m M choice s Idle = (Err refusals.Idle, M)
  step_row m M choice s (Busy i c) = step_line m M choice s i c (slice_get M.lines (i - 1))

  abbrev pub step : Make S → Machine S V → Bool → ℕ → Result (Option (Record S V)) Refusal × Machine S V
  step m M choice s =
      cond (nat_le M.size (length M.lines))
      (cond (inside M.stations s) (step_row m M choice s (row_of M.rows s)) (Err refusals.UnknownStation, M))
      (Err refusals.JournalSize, M)
