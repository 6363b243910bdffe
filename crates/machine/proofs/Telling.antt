-- A move of an operation, told by the machine and by the book. Assumes nothing.
--     set_row             the table's rows after one is set
--     moved_told          machine and book after a move keep what is kept
use Rattle.std.proofs.Common.{◌≡◌, ℕ, ◌+◌, ◌-◌, ◌≤◌, true, List, length, set, Some, sym, refl, ap, ◌∙◌, subst, le_refl, arith}
use Rattle.std.specs.List.{slice_get}
use Rattle.std.proofs.lemmas.Bool.Decides.{nat_tests}
use Rattle.std.proofs.lemmas.Grind.{common_steps}
use Rattle.std.proofs.lemmas.List.{length-set}
use Rattle.banks.specs.declared.record.Record.{Record}
use Rattle.banks.specs.Meanings.{Meaning, at_row, inside}
use Rattle.stamps.specs.Makes.{Make}
use Rattle.machine.specs.Machines.{Machine, row_of, next_machine}
use Rattle.machine.specs.Histories.{Operation, Book, note_accepted}
use Rattle.machine.specs.Rules.{account}
use Rattle.machine.specs.declared.line.Line.{Line}
use Rattle.machine.specs.declared.row.Row.{Row}
use Rattle.machine.specs.declared.row.Row.TheVariants.{Idle, Busy}
use Rattle.banks.proofs.Shared.{inside_bounds}
use Rattle.machine.proofs.Basics.{nth_set_same, nth_set_other}
use Rattle.machine.proofs.Entries.{Entry, Point, cells_of, point_of, Backed, RowFits, Inv, Kept}
use Rattle.machine.proofs.Moved.{moved}
use Rattle.machine.proofs.Moves.{Move, unchanged, backed_in}
use Rattle.machine.proofs.Rows.{Here, fits}

pub set_row : (rows : List Row) (n s : ℕ) (r : Row) → length rows ≡ 16 → n ≤ 16 → inside n s ≡ true → (w : ℕ) → inside n w ≡ true → row_of (set rows (s - 1) r) w ≡ at_row (row_of rows) s r w
set_row rows n s r long le ks w kw = grind (arith, nat_tests, common_steps, inside_bounds n s ks, inside_bounds n w kw)

module _ {S V : Type 0} where
  abbrev pub with_row : Point S V → (ℕ → Row) → Point S V
  with_row σ row =
      record { origin = σ.origin; stations = σ.stations; count = σ.count; moment = σ.moment; cells = σ.cells; row = row; ent = σ.ent }

  -- only the rows of stations count
  pub same_rows : (m : Make S) (σ : Point S V) (row : ℕ → Row) → ((w : ℕ) → inside σ.stations w ≡ true → row w ≡ σ.row w) → Inv m σ → Inv m (with_row σ row)
  same_rows m σ row same inv =
      record {
        zeroth = inv.zeroth;
        sound = inv.sound;
        order = inv.order;
        later = inv.later;
        reads = λ k le q. still (inv.reads k le q);
        kept = λ w x q. still (inv.kept w x q);
        above = inv.above;
        rows = λ s k. subst (RowFits (with_row σ row) s) (sym (same s k)) (fit s (σ.row s) (inv.rows s k));
        full = inv.full;
      }
    where
      still : {t : ℕ} {z : S} {v : V} → Backed σ t z v → Backed (with_row σ row) t z v
      still = backed_in σ (with_row σ row) _ _ _ _ (le_refl _) (λ k _. unchanged _ _ refl) (le_refl _)

      fit : (s : ℕ) (r : Row) → RowFits σ s r → RowFits (with_row σ row) s r
      fit s Idle f = f
      fit s (Busy i t) f = record { low = f.low; high = f.high; station = f.station; going = f.going; taken = f.taken; middle = f.middle; spread = f.spread }

module _ {S V : Type 0} {m : Make S} (M : Machine S V) (b : Book S V) {old : Machine S V} (kept : Kept m old M b) {i s steps : ℕ} (h : Here m (point_of M kept.ent) i s steps) (e : Entry S V) where
  open kept use {ent, told}

  abbrev told_line : Entry S V → Line S V
  told_line f = account f.op f.stamp f.value

  -- the lines after a step tell the entries
  abbrev pub LinesTell : List (Line S V) → Type 0
  LinesTell lines = (length lines ≡ length M.lines) × ((k : ℕ) → 1 ≤ k → k ≤ M.used → slice_get lines (k - 1) ≡ Some (told_line (at_row ent i e k))) × ((k : ℕ) → M.used ≤ k → slice_get lines k ≡ slice_get M.lines k)

  -- the operation's line is set
  pub line_set : (l : Line S V) → l ≡ account e.op e.stamp e.value → LinesTell (set M.lines (i - 1) l)
  line_set l eq = (
    length-set M.lines (i - 1) l,
    λ k lo hi. grind (arith, nat_tests, eq, (fits h).low, told.size, told.room, nth_set_same M.lines (i - 1) l, nth_set_other M.lines (i - 1) (k - 1) l, told.lines k lo hi),
    λ k le. nth_set_other M.lines (i - 1) k l (omega (arith, (fits h).low, (fits h).high)),
  )

  -- or stays
  pub line_stays : account e.op e.stamp e.value ≡ account (ent i).op (ent i).stamp (ent i).value → LinesTell M.lines
  line_stays eq =
      (refl, λ k lo hi. grind (arith, nat_tests, eq, told.lines k lo hi), λ k _. refl)

  module _ (bank : Meaning (Record S V)) (lines : List (Line S V)) (r : Row) (o : Operation S V) (stations : bank.stations ≡ M.stations) (tell : LinesTell lines) (same : o ≡ e.op) (row_is : (j t : ℕ) → r ≡ Busy j t → j ≡ i) (move : Move m (point_of M ent) (cells_of bank) i s e r) where
    rows : (w : ℕ) → inside M.stations w ≡ true → row_of (set M.rows (s - 1) r) w ≡ at_row (row_of M.rows) s r w
    rows = set_row M.rows M.stations s r told.rows told.stations h.known

    is_i : b.latest s ≡ i
    is_i = told.latest s i steps h.known h.busy

    operations : (k : ℕ) → 1 ≤ k → k ≤ M.used → at_row b.operation (b.latest s) o k ≡ (at_row ent i e k).op
    operations k lo hi =
        grind (arith, nat_tests, is_i, same, told.operations k lo hi)

    latest : (w j t : ℕ) → inside M.stations w ≡ true → row_of (set M.rows (s - 1) r) w ≡ Busy j t → b.latest w ≡ j
    latest w j t k eq =
        grind (arith, nat_tests, rows w k, is_i, row_is j t, told.latest w j t k)

    pub moved_told : Kept m old (next_machine M bank lines M.used s r) (note_accepted b s o)
    moved_told =
        record {
          ent = at_row ent i e;
          inv = same_rows m _ (row_of (set M.rows (s - 1) r)) rows (moved h move);
          told =
              record {
                same_stations = told.same_stations;
                same_origin = told.same_origin;
                rest = λ k le. tell.2 k le ∙ told.rest k le;
                some = told.some;
                stations = told.stations;
                bank = stations;
                moments = ap (λ t. t + 1) told.moments;
                counts = told.counts;
                room = told.room;
                size = omega (arith, tell.0);
                rows = length-set M.rows (s - 1) r ∙ told.rows;
                operations = operations;
                lines = tell.1;
                latest = latest;
              };
        }
