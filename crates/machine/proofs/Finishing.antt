-- A step that finishes a cell moves its operation, and the last one ends it. Assumes nothing.
use Rattle.std.proofs.Common.{◌≡◌, ℕ, ◌+◌, ◌-◌, ◌*◌, ◌/◌, ◌%◌, ◌<◌, ◌≤◌, true, ◌&&◌, eqb, ◌≢◌, ◌⊎◌, Some, None, Option, sym, refl, ap, ◌∙◌, subst, inl, le_refl, arith}
use Rattle.std.proofs.lemmas.Bool.Decides.{nat_tests}
use Rattle.std.proofs.lemmas.Option.{same_Some}
use Rattle.std.proofs.lemmas.Bool.{cond_both, eqb-true, and_parts}
use Rattle.banks.specs.declared.record.Record.{Record}
use Rattle.banks.specs.Meanings.{at_row, at_cell, known}
use Rattle.stamps.specs.Makes.{Make, Laws}
use Rattle.machine.specs.Histories.{as_done}
use Rattle.machine.specs.Steps.{spread_to, SpreadsOnce}
use Rattle.machine.specs.declared.row.Row.TheVariants.{Idle, Busy}
use Rattle.banks.proofs.Shared.{inside_bounds}
use Rattle.machine.proofs.Basics.{some_pair, split, at_same, at_other}
use Rattle.machine.proofs.Entries.{Entry, Cells, Point, Held, as_settled, as_open, AtMost, rec, spreading, finished}
use Rattle.machine.proofs.Moves.{Put, Move}
use Rattle.machine.proofs.Orders.{at_most_refl}
use Rattle.machine.proofs.Rows.{Here, fits, something_open, closed_again, busy_row, idle_row}
use Rattle.machine.proofs.Spreading.{Past, stamped_since, spread_on, reader, spread_move}

-- the order of spreading meets each reader exactly once
pub spreads_once : (n s : ℕ) → SpreadsOnce n s
spreads_once n s =
    record {
      known = λ j lt. grind (arith, nat_tests);
      each = λ r k. let p = inside_bounds n r k in (r - 1, omega arith, omega arith);
      once = λ i j li lj e. omega arith;
    }

module _ {S V : Type 0} {m : Make S} (laws : Laws m) {σ : Point S V} {i s steps : ℕ} (late : Past m σ i s steps) (odd : (steps - σ.stations) % 2 ≡ 1) where
  open σ use {stations as n, moment, cells, ent}

  abbrev h : Here m σ i s steps
  h = late.here

  abbrev e : Entry S V
  e = ent i

  taken : e.op.steps ≡ steps
  taken = (fits h).taken

  pub open_here : cells.opened s ≡ Some (reader late, rec (ent i))
  open_here =
      let g = taken in
      (fits h).middle ∙ something_open n s e (omega arith) (omega arith) ∙ ap (λ k. Some (spread_to s ((k - n) / 2), rec e)) g

  abbrev pub finish_cells : Cells (Record S V)
  finish_cells = record { settled = at_cell cells.settled s (reader late) (Some (rec e)); opened = at_row cells.opened s None }

  -- a cell's settled record after the finish: the line's, or the one before
  cell : (w q : ℕ) (P : Option (Record S V) → Type 0) → (w ≡ s → q ≡ reader late → P (Some (rec e))) → P (cells.settled w q) → P (finish_cells.settled w q)
  cell w q P here there =
      cond_both (eqb w s && eqb q (reader late)) (Some (rec e)) (cells.settled w q) P
      (λ t. let p = and_parts (eqb w s) (eqb q (reader late)) t in here (eqb-true _ _ p.0) (eqb-true _ _ p.1))
      (λ _. there)

  held : (w : ℕ) (x : Record S V) → Held n finish_cells w x → Held n cells w x ⊎ Put m σ s w x
  held w x (as_settled q k p) =
      inl (cell w q (λ o. o ≡ Some x → Held n cells w x) (λ ew eq d. as_open (reader late) (ap cells.opened ew ∙ open_here ∙ ap (λ y. Some (reader late, y)) (same_Some _ _ d))) (as_settled q k) p)
  held w x (as_open q p) =
      inl (split cells.opened s None (λ w' o. o ≡ Some (q, x) → Held n cells w' x) w (λ d. cc) (λ _ d. as_open q d) p)

  others : (w : ℕ) → w ≢ s → (finish_cells.opened w ≡ cells.opened w) × ((q : ℕ) → finish_cells.settled w q ≡ cells.settled w q)
  others w ne = (at_other cells.opened s None w ne, λ q. grind (arith, nat_tests, ne))

  full : (w q : ℕ) → known n w q ≡ true → (x : Record S V) × (finish_cells.settled w q ≡ Some x)
  full w q k = cell w q (λ o. (x : Record S V) × (o ≡ Some x)) (λ _ _. (rec e, refl)) (h.inv.full w q k)

  -- the cells passed, this one among them
  spread : (j : ℕ) → n + 2 * j + 2 ≤ steps + 1 → finish_cells.settled s (spread_to s j) ≡ Some (rec e)
  spread j le =
      grind (arith, nat_tests, taken, (fits h).spread j)

  pub finish_move : steps + 1 < 3 * n → Move m σ finish_cells i s (spread_on late e.op.ended) (Busy i (steps + 1))
  finish_move lt =
      let g = taken in
      let t = stamped_since late in
      spread_move late finish_cells e.op.ended (Busy i (steps + 1))
      (record {
        phase = spreading t.0 (fits h).going t.1 (omega arith) (omega arith) (omega arith);
        ends = λ u q d. cc (fits h).going;
        held = held;
        others = others;
        full = full;
        row = busy_row h finish_cells _ _ _ (at_same cells.opened s None ∙ sym (closed_again n s (spread_on late e.op.ended) (omega arith) (omega arith))) spread;
        done = λ u q x k. cc (fits h).going;
      })

  -- after the last finish every record in the row is the line's
  all_own : steps + 1 ≡ 3 * n → (x : Record S V) → Held n finish_cells s x → AtMost m e.stamp x.tag
  all_own eq x (as_settled q k p) =
      let f = (spreads_once n s).each q k in
      let own = spread f.0 (omega arith) in
      let is : rec e ≡ x = cc f.2 in
      subst (λ y. AtMost m e.stamp y.tag) is (at_most_refl m laws e.stamp)
  all_own eq x (as_open q p) = cc (at_same cells.opened s None)

  pub last_move : steps + 1 ≡ 3 * n → Move m σ finish_cells i s (spread_on late (Some (moment + 1, as_done e.stamp e.value))) Idle
  last_move eq =
      let g = taken in
      let t = stamped_since late in
      spread_move late finish_cells (Some (moment + 1, as_done e.stamp e.value)) Idle
      (record {
        phase = finished t.0 (moment + 1) refl t.1 (omega arith) (le_refl _) (omega arith);
        ends = λ u q d. sym (some_pair _ _ _ _ d).0;
        held = held;
        others = others;
        full = full;
        row = idle_row h finish_cells _ (as_done e.stamp e.value) refl (at_same cells.opened s None);
        done = λ u q x k. all_own eq x k;
      })
