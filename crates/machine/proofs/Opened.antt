-- An open keeps what is kept, as the machine and the book tell it. Assumes nothing.
use Rattle.std.proofs.Common.{◌≡◌, ℕ, ◌+◌, ◌-◌, ◌<◌, ◌≤◌, true, ltb, leb, length, set, Some, None, Ok, Option, Result, refl, ap, ◌∙◌, arith}
use Rattle.std.specs.List.{slice_get}
use Rattle.std.proofs.lemmas.List.{length-set}
use Rattle.std.proofs.lemmas.Bool.Decides.{nat_tests}
use Rattle.std.proofs.lemmas.Bool.{cond_both, ltb-true}
use Rattle.policy.specs.declared.refusal.Refusal.{Refusal}
use Rattle.banks.specs.Meanings.{inside, at_row}
use Rattle.stamps.specs.Makes.{Make, Laws}
use Rattle.machine.specs.Machines.{Machine, row_of, next_machine, fresh, open_row, open_line}
use Rattle.machine.specs.Histories.{Operation, Book, note_open}
use Rattle.machine.specs.Rules.{account}
use Rattle.machine.specs.declared.line.Kind.{Kind}
use Rattle.machine.specs.declared.line.Kind.TheVariants.{Read}
use Rattle.machine.specs.declared.row.Row.{Row}
use Rattle.machine.specs.declared.row.Row.TheVariants.{Idle, Busy}
use Rattle.machine.proofs.Basics.{nth_set_same, nth_set_other}
use Rattle.machine.proofs.Entries.{Entry, point_of, Kept}
use Rattle.machine.proofs.Opening as one
use Rattle.machine.proofs.Telling.{set_row, same_rows}

module _ {S V : Type 0} {m : Make S} (laws : Laws m) {M : Machine S V} {b : Book S V} {old : Machine S V} (kept : Kept m old M b) (s : ℕ) (kind : Kind) (given : Option V) (v : V) (start_value : kind ≡ Read → v ≡ M.origin.value) (no_given : kind ≡ Read → given ≡ None) (own : (u : V) → given ≡ Some u → v ≡ u) where
  abbrev After : Result ℕ Refusal × Machine S V → Type 0
  After p = Kept m old p.1 (note_open b kind s given p.0)

  module _ (h : one.Opens m (point_of M kept.ent) s kind given v) (room : M.used < M.size) where
    abbrev i : ℕ
    i = M.used + 1

    abbrev e : Entry S V
    e = one.new laws h

    rows : (w : ℕ) → inside M.stations w ≡ true → row_of (set M.rows (s - 1) (Busy i 0)) w ≡ at_row (row_of M.rows) s (Busy i 0) w
    rows = set_row M.rows M.stations s (Busy i 0) kept.told.rows kept.told.stations h.known

    abbrev noted : Operation S V
    noted = record { line = i; kind = kind; station = s; given = given; opened = b.moment + 1; steps = 0; stamped = None; ended = None }

    operations : (k : ℕ) → 1 ≤ k → k ≤ i → at_row b.operation (b.count + 1) noted k ≡ (at_row kept.ent i e k).op
    operations k lo hi =
        grind (arith, nat_tests, kept.told.counts, kept.told.moments, kept.told.operations k lo)

    lines : (k : ℕ) → 1 ≤ k → k ≤ i → slice_get (set M.lines M.used (fresh M s kind v)) (k - 1) ≡ Some (account (at_row kept.ent i e k).op (at_row kept.ent i e k).stamp (at_row kept.ent i e k).value)
    lines k lo hi =
        grind (arith, nat_tests, kept.told.size, nth_set_same M.lines M.used (fresh M s kind v), nth_set_other M.lines M.used (k - 1) (fresh M s kind v), kept.told.lines k lo)

    latest : (w j t : ℕ) → inside M.stations w ≡ true → row_of (set M.rows (s - 1) (Busy i 0)) w ≡ Busy j t → at_row b.latest s (b.count + 1) w ≡ j
    latest w j t k eq =
        grind (arith, nat_tests, kept.told.counts, rows w k, kept.told.latest w j t k)

    opened : After (Ok i, next_machine M M.bank (set M.lines M.used (fresh M s kind v)) i s (Busy i 0))
    opened =
        record {
          ent = at_row kept.ent i e;
          inv = same_rows m (one.opened_point laws h) (row_of (set M.rows (s - 1) (Busy i 0))) rows (one.opened laws h);
          told =
              record {
                same_stations = kept.told.same_stations;
                same_origin = kept.told.same_origin;
                rest = λ k le. nth_set_other M.lines M.used k (fresh M s kind v) (omega arith) ∙ kept.told.rest k (omega arith);
                some = kept.told.some;
                stations = kept.told.stations;
                bank = kept.told.bank;
                moments = ap (λ t. t + 1) kept.told.moments;
                counts = ap (λ t. t + 1) kept.told.counts;
                room = omega arith;
                size = omega (arith, length-set M.lines M.used (fresh M s kind v));
                rows = length-set M.rows (s - 1) (Busy i 0) ∙ kept.told.rows;
                operations = operations;
                lines = lines;
                latest = latest;
              };
        }

  by_row : (r : Row) → row_of M.rows s ≡ r → inside M.stations s ≡ true → After (open_row M s kind v r)
  by_row (Busy j c) q k = kept
  by_row Idle q k = cond_both (ltb M.used M.size) _ _ After (λ lt. opened (record { inv = kept.inv; some = kept.told.some; known = k; idle = q; start_value = start_value; no_given = no_given; own = own }) (ltb-true _ _ lt)) (λ _. kept)

  pub open_kept : Kept m old (open_line M s kind v).1 (note_open b kind s given (open_line M s kind v).0)
  open_kept =
      cond_both (leb M.size (length M.lines)) _ _ After (λ _. cond_both (inside M.stations s) _ _ After (λ k. by_row (row_of M.rows s) refl k) (λ _. kept)) (λ _. kept)
