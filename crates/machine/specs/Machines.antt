-- The register as a plain machine: what each call answers, and what it leaves. Assumes nothing.
--     Machine S V             a register with its bank and its journal, stamps of the type S and values of the type V
--     row_of rows s           the row of station s
--     make m b n k v ls size  the machine of n stations over the bank b, from value v under the first stamp for count k,
--                             with a journal of that size in the lines ls
--     open_line M s kind v    what an open answers and leaves
--     open_write, open_read   its two forms
--     mark_cell M w r up      what a mark answers and leaves
use Rattle.std.specs.Prelude.{ℕ, ◌+◌, ◌-◌, Bool, cond, ◌&&◌, List, length, replicate, Some, None, Ok, Err, Option, Result, ◌==◌, nat_le, nat_lt, slice_index_or, slice_set}
use Rattle.policy.specs.declared.refusal.Refusal.{Refusal}
use Rattle.policy.specs.declared.refusal.Refusal.TheVariants as refusals
use Rattle.banks.specs.declared.record.Record.{Record}
use Rattle.banks.specs.Meanings.{Meaning, inside, filled, mark}
use Rattle.stamps.specs.Makes.{Make}
use Rattle.machine.specs.declared.line.Kind.{Kind}
use Rattle.machine.specs.declared.line.Kind.TheVariants.{Write, Read}
use Rattle.machine.specs.declared.line.LineState.TheVariants as states
use Rattle.machine.specs.declared.line.Line.{Line}
use Rattle.machine.specs.declared.row.Row.{Row}
use Rattle.machine.specs.declared.row.Row.TheVariants.{Idle, Busy}

-- The first `used` lines are in use; the others keep what they held. Station s has the row s - 1 of sixteen.
pub record Machine (S V : Type 0) : Type 0 where
  pub stations : ℕ
  pub bank : Meaning (Record S V)
  pub origin : Record S V
  pub lines : List (Line S V)
  pub used : ℕ
  pub size : ℕ
  pub moment : ℕ
  pub rows : List Row

abbrev pub row_of : List Row → ℕ → Row
row_of rows s = slice_index_or rows (s - 1) Idle

module _ {S V : Type 0} where
  abbrev pub record_of : Line S V → Record S V
  record_of l = record { tag = l.stamp; value = l.value }

  -- an accepted open or step: the bank, the lines, their number in use and the row of s after it
  abbrev pub next_machine : Machine S V → Meaning (Record S V) → List (Line S V) → ℕ → ℕ → Row → Machine S V
  next_machine M bank lines used s row =
      record {
        stations = M.stations;
        bank = bank;
        origin = M.origin;
        lines = lines;
        used = used;
        size = M.size;
        moment = M.moment + 1;
        rows = slice_set M.rows (s - 1) row;
      }

  -- a call that left all but the bank
  abbrev pub with_bank : Machine S V → Meaning (Record S V) → Machine S V
  with_bank M bank =
      record {
        stations = M.stations;
        bank = bank;
        origin = M.origin;
        lines = M.lines;
        used = M.used;
        size = M.size;
        moment = M.moment;
        rows = M.rows;
      }

  abbrev pub made : Meaning (Record S V) → ℕ → V → List (Line S V) → ℕ → Option S → Result (Machine S V) Refusal
  made bank n v lines size None = Err refusals.StartingCount
  made bank n v lines size (Some s) =
      Ok (record {
        stations = n;
        bank = filled bank (record { tag = s; value = v });
        origin = record { tag = s; value = v };
        lines = lines;
        used = 0;
        size = size;
        moment = 0;
        rows = replicate 16 Idle;
      })

  abbrev pub make : Make S → Meaning (Record S V) → ℕ → ℕ → V → List (Line S V) → ℕ → Result (Machine S V) Refusal
  make m bank n k v lines size =
      cond (inside 16 n)
      (cond (n == bank.stations)
      (cond (nat_le k m.greatest)
      (cond (nat_le size 4096 && nat_le size (length lines)) (made bank n v lines size (m.first k)) (Err refusals.JournalSize))
      (Err refusals.StartingCount))
      (Err refusals.CountsDiffer))
      (Err refusals.StationCount)

  -- a line as its open leaves it
  abbrev pub fresh : Machine S V → ℕ → Kind → V → Line S V
  fresh M s kind v =
      record {
        kind = kind;
        station = s;
        state = states.Collecting;
        stamp = M.origin.tag;
        value = v;
        opened = M.moment + 1;
        ended = 0;
      }

  abbrev pub open_row : Machine S V → ℕ → Kind → V → Row → Result ℕ Refusal × Machine S V
  open_row M s kind v (Busy i c) = (Err refusals.Busy, M)
  open_row M s kind v Idle =
      cond (nat_lt M.used M.size)
      (Ok (M.used + 1), next_machine M M.bank (slice_set M.lines M.used (fresh M s kind v)) (M.used + 1) s (Busy (M.used + 1) 0))
      (Err refusals.JournalFull, M)

  abbrev pub open_line : Machine S V → ℕ → Kind → V → Result ℕ Refusal × Machine S V
  open_line M s kind v =
      cond (nat_le M.size (length M.lines))
      (cond (inside M.stations s) (open_row M s kind v (row_of M.rows s)) (Err refusals.UnknownStation, M))
      (Err refusals.JournalSize, M)

  abbrev pub open_write : Machine S V → ℕ → V → Result ℕ Refusal × Machine S V
  open_write M s v = open_line M s Write v

  abbrev pub open_read : Machine S V → ℕ → Result ℕ Refusal × Machine S V
  open_read M s = open_line M s Read M.origin.value

  abbrev pub mark_cell : Machine S V → ℕ → ℕ → Bool → Result (Unit {0}) Refusal × Machine S V
  mark_cell M w r up = ((mark M.bank w r up).0, with_bank M (mark M.bank w r up).1)
