-- A collecting step keeps what is kept. Assumes nothing.
--     After               what is to show of a step's answer and of the machine that it leaves
use Rattle.std.proofs.Common.{◌≡◌, ℕ, ◌+◌, eqb, ◌≢◌, Some, None, Ok, Err, Option, Result, sym, refl, ap, ◌∙◌, subst, arith}
use Rattle.std.proofs.lemmas.Bool.Decides.{nat_tests}
use Rattle.std.proofs.lemmas.Bool.{cond_both, eqb-true, eqb-false}
use Rattle.policy.specs.declared.refusal.Refusal.{Refusal}
use Rattle.policy.specs.declared.refusal.Refusal.TheVariants as refusals
use Rattle.banks.specs.declared.record.Record.{Record}
use Rattle.banks.specs.Meanings.{Place}
use Rattle.stamps.specs.Makes.{Make, Laws}
use Rattle.machine.specs.Machines.{Machine}
use Rattle.machine.specs.Steps.{collected, holding, in_state, going, stamp_write, stamp_line, collect}
use Rattle.machine.specs.Runs.{step_note}
use Rattle.machine.specs.Histories.{End, as_spent, Operation, Book, with_step, stamped_by, note_step}
use Rattle.machine.specs.Rules.{account, Clean}
use Rattle.machine.specs.declared.line.Kind.{Kind}
use Rattle.machine.specs.declared.line.Kind.TheVariants.{Write, Read}
use Rattle.machine.specs.declared.line.LineState.TheVariants as states
use Rattle.machine.specs.declared.line.Line.{Line}
use Rattle.machine.specs.declared.row.Row.TheVariants.{Idle, Busy}
use Rattle.banks.proofs.Shared.{inside_bounds}
use Rattle.machine.proofs.Collecting.{met_stamp, met_value, Met, collected_to}
use Rattle.machine.proofs.Entries.{Entry, cells_of, point_of, Kept}
use Rattle.machine.proofs.Moves.{Move}
use Rattle.machine.proofs.Rows.{Here, fits}
use Rattle.machine.proofs.Stamping.{gather_move, read_move, write_move, spent_move}
use Rattle.machine.proofs.Telling.{line_set, moved_told}

module _ {S V : Type 0} where
  -- a line that met x
  collected_line : (m : Make S) (e : Entry S V) (x : Record S V) → collected m (account e.op e.stamp e.value) x ≡ account e.op (met_stamp m e x) (met_value m e x)
  collected_line m e x = grind arith

  -- the operation that the book has after a step
  pub going_op : (o p : Operation S V) (n t u : ℕ) (st : Option ℕ) (en : ℕ → Operation S V → Option (ℕ × End S V)) → o ≡ p → t ≡ u → stamped_by n u p ≡ st → with_step o (stamped_by n t o) (en t o) ≡ with_step p st (en u p)
  going_op o p n t u st en eo et es =
      cc

module _ {S V : Type 0} {m : Make S} {M : Machine S V} {b : Book S V} {old : Machine S V} (kept : Kept m old M b) (s : ℕ) where
  abbrev pub After : Result (Option (Record S V)) Refusal × Machine S V → Type 0
  After p = Clean M.stations (step_note s p.0) × Kept m old p.1 (note_step M.stations b s (b.operation (b.latest s)) p.0)

  pub unreachable : (p : Place) → After (Err (refusals.Unreachable p), M)
  unreachable p = ((λ e. absurd (omega arith), λ e. omega arith, λ e. omega arith), kept)

module _ {S V : Type 0} {m : Make S} {M : Machine S V} {b : Book S V} {old : Machine S V} (kept : Kept m old M b) {i s c : ℕ} (h : Here m (point_of M kept.ent) i s c) where
  abbrev e : Entry S V
  e = kept.ent i

  pub op_is : b.operation (b.latest s) ≡ (kept.ent i).op
  op_is = ap b.operation (kept.told.latest s i c h.known h.busy) ∙ kept.told.operations i (fits h).low (fits h).high

  pub now : b.moment + 1 ≡ M.moment + 1
  now = ap (λ t. t + 1) (sym kept.told.moments)

  pub same_row : (j t : ℕ) → Busy i (c + 1) ≡ Busy j t → j ≡ i
  same_row j t q = cc

  pub no_row : (j t : ℕ) → Idle ≡ Busy j t → j ≡ i
  no_row j t q = cc

module _ {S V : Type 0} {m : Make S} (laws : Laws m) {M : Machine S V} {b : Book S V} {old : Machine S V} (kept : Kept m old M b) {i s c : ℕ} {x : Record S V} (met : Met m (point_of M kept.ent) i s c x) where
  abbrev h : Here m (point_of M kept.ent) i s c
  h = met.here

  abbrev o : Operation S V
  o = (kept.ent i).op

  abbrev z : S
  z = met_stamp m (kept.ent i) x

  abbrev v : V
  v = met_value m (kept.ent i) x

  abbrev l : Line S V
  l = account o z v

  -- the book's operation after an accepted step that did not end it
  noted : (st : Option ℕ) → stamped_by M.stations (M.moment + 1) o ≡ st → with_step (b.operation (b.latest s)) (stamped_by M.stations (b.moment + 1) (b.operation (b.latest s))) (b.operation (b.latest s)).ended ≡ with_step o st o.ended
  noted st q = cc (op_is kept h, now kept h)

  gathered : c + 1 ≢ M.stations → After kept s (going M s i l (c + 1))
  gathered ne =
      let g = (fits h).taken in
      (tt, moved_told M b kept h (collected_to laws met o.stamped o.ended z) M.bank _ _ _ kept.told.bank (line_set M b kept h _ l refl) (noted o.stamped (grind (arith, nat_tests))) (same_row kept h) (gather_move laws met (omega arith)))

  -- a stamped operation is spreading
  spreads : (t : S) → in_state (holding l t v) states.Spreading ≡ account (with_step o (Some (M.moment + 1)) o.ended) t v
  spreads t = cc (fits h).going

  stamped : c + 1 ≡ M.stations → (t : S) → Move m (point_of M kept.ent) (cells_of M.bank) i s (collected_to laws met (Some (M.moment + 1)) o.ended t) (Busy i (c + 1)) → After kept s (going M s i (in_state (holding l t v) states.Spreading) (c + 1))
  stamped eq t move =
      let g = (fits h).taken in
      (tt, moved_told M b kept h (collected_to laws met (Some (M.moment + 1)) o.ended t) M.bank _ _ _ kept.told.bank (line_set M b kept h _ _ (spreads t)) (noted (Some (M.moment + 1)) (grind (arith, nat_tests))) (same_row kept h) move)

  spent : c + 1 ≡ M.stations → o.kind ≡ Write → After kept s (stamp_write M s i l (c + 1) None)
  spent eq write =
      ((λ q. absurd (omega arith), λ q. omega arith, λ q. omega arith), moved_told M b kept h (collected_to laws met o.stamped (Some (M.moment + 1, as_spent)) z) M.bank _ _ _ kept.told.bank (line_set M b kept h _ _ refl) (cc (op_is kept h, now kept h)) (no_row kept h) (spent_move laws met eq write))

  by_next : c + 1 ≡ M.stations → o.kind ≡ Write → (t : Option S) → m.next z s ≡ t → After kept s (stamp_write M s i l (c + 1) t)
  by_next eq write None _ = spent eq write
  by_next eq write (Some t) next =
      let p = inside_bounds M.stations s h.known in
      stamped eq t (write_move laws met eq write p.0 (omega arith) t next)

  by_kind : c + 1 ≡ M.stations → (k : Kind) → o.kind ≡ k → After kept s (stamp_line m M s i l (c + 1) k)
  by_kind eq Write k = by_next eq k (m.next z s) refl
  by_kind eq Read k = stamped eq z (read_move laws met eq k)

  pub collect_kept : After kept s (collect m M s i c (account (kept.ent i).op (kept.ent i).stamp (kept.ent i).value) (Ok x) M.bank)
  collect_kept =
      cond_both (eqb (c + 1) M.stations) _ _ (After kept s)
      (λ eq. subst (λ k. After kept s (stamp_line m M s i k (c + 1) o.kind)) (sym (collected_line m (kept.ent i) x)) (by_kind (eqb-true _ _ eq) o.kind refl))
      (λ ne. subst (λ k. After kept s (going M s i k (c + 1))) (sym (collected_line m (kept.ent i) x)) (gathered (eqb-false _ _ ne)))
