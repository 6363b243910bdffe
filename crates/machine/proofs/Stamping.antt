-- The four ways on from the read of a cell: another read, a stamped read, a stamped write, a spent write. Assumes nothing.
use Rattle.std.proofs.Common.{◌≡◌, ℕ, ◌+◌, ◌<◌, ◌≤◌, Some, Option, unwrap_or, sym, refl, ◌∙◌, subst, le_refl, arith}
use Rattle.banks.specs.declared.record.Record.{Record}
use Rattle.stamps.specs.Makes.{Make, Laws}
use Rattle.machine.specs.Histories.{as_spent}
use Rattle.machine.specs.declared.line.Kind.TheVariants.{Write, Read}
use Rattle.machine.specs.declared.row.Row.TheVariants.{Idle, Busy}
use Rattle.machine.proofs.Basics.{some_pair}
use Rattle.machine.proofs.Collecting.{met_stamp, met_value, Met, unstamped, backed_met, collected_to, collect_move}
use Rattle.machine.proofs.Entries.{Entry, Point, collecting, spreading, refused, Backed, RowFits}
use Rattle.machine.proofs.Moves.{next_point, Move, backed_on}
use Rattle.machine.proofs.Orders.{at_most_refl, smaller_at_most, next_stamps}
use Rattle.machine.proofs.Rows.{Here, fits, nothing_open, busy_row, idle_row}

module _ {S V : Type 0} {m : Make S} (laws : Laws m) {σ : Point S V} {i s steps : ℕ} {x : Record S V} (met : Met m σ i s steps x) where
  open σ use {stations as n, moment, cells, ent}

  abbrev h : Here m σ i s steps
  h = met.here

  abbrev e : Entry S V
  e = ent i

  taken : e.op.steps ≡ steps
  taken = (fits h).taken

  low : steps < n
  low = met.early

  -- the row goes on, with nothing open
  on : (st : Option ℕ) (z : S) → RowFits (next_point σ cells i s (collected_to laws met st e.op.ended z) (Busy i (steps + 1))) s (Busy i (steps + 1))
  on st z =
      let g = taken in
      let lt = low in
      busy_row h cells st z _ ((fits h).middle ∙ nothing_open n s e (omega arith) ∙ sym (nothing_open n s (collected_to laws met st e.op.ended z) (omega arith))) (λ j le. absurd (omega arith))

  pub gather_move : steps + 1 < n → Move m σ cells i s (collected_to laws met e.op.stamped e.op.ended (met_stamp m e x)) (Busy i (steps + 1))
  gather_move lt =
      let g = taken in
      let none = unstamped laws met in
      collect_move laws met e.op.stamped e.op.ended _ _
      (record {
        up = at_most_refl m laws _;
        phase = collecting (fits h).going none (omega arith);
        write = λ t _ f. cc;
        ends = λ u q d. cc (fits h).going;
        reads = λ k. subst (λ t. Backed σ (unwrap_or t (moment + 1 + 1)) (met_stamp m e x) (met_value m e x)) (sym none) (backed_on (moment + 1 + 1) (omega arith) (backed_met laws met k));
        row = on _ _;
      })

  pub read_move : steps + 1 ≡ n → e.op.kind ≡ Read → Move m σ cells i s (collected_to laws met (Some (moment + 1)) e.op.ended (met_stamp m e x)) (Busy i (steps + 1))
  read_move eq read =
      let g = taken in
      collect_move laws met (Some (moment + 1)) e.op.ended _ _
      (record {
        up = at_most_refl m laws _;
        phase = spreading (moment + 1) (fits h).going refl (le_refl _) (omega arith) (omega arith);
        write = λ t w _. cc;
        ends = λ u q d. cc (fits h).going;
        reads = backed_met laws met;
        row = on _ _;
      })

  pub write_move : steps + 1 ≡ n → e.op.kind ≡ Write → 1 ≤ s → s ≤ 16 → (z : S) → m.next (met_stamp m e x) s ≡ Some z → Move m σ cells i s (collected_to laws met (Some (moment + 1)) e.op.ended z) (Busy i (steps + 1))
  write_move eq write some le z next =
      let g = taken in
      let up = next_stamps m laws _ z s some le next in
      collect_move laws met (Some (moment + 1)) e.op.ended z _
      (record {
        up = smaller_at_most m laws _ _ up.0;
        phase = spreading (moment + 1) (fits h).going refl (le_refl _) (omega arith) (omega arith);
        write = λ t w _. (up.1 ∙ sym (fits h).station, up.0);
        ends = λ u q d. cc (fits h).going;
        reads = λ k. cc;
        row = on _ _;
      })

  pub spent_move : steps + 1 ≡ n → e.op.kind ≡ Write → Move m σ cells i s (collected_to laws met e.op.stamped (Some (moment + 1, as_spent)) (met_stamp m e x)) Idle
  spent_move eq write =
      let g = taken in
      let none = unstamped laws met in
      collect_move laws met e.op.stamped (Some (moment + 1, as_spent)) _ Idle
      (record {
        up = at_most_refl m laws _;
        phase = refused (moment + 1) refl none (le_refl _) (omega arith) write;
        write = λ t _ f. cc;
        ends = λ u q d. let p = some_pair _ _ _ _ d in (sym p.0, sym p.1);
        reads = λ k. cc;
        row = let lt = low in idle_row h cells _ as_spent refl ((fits h).middle ∙ nothing_open n s e (omega arith));
      })
