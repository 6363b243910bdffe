-- A step past the collecting moves its operation: what all such steps share, and the start of a cell. Assumes nothing.
--     Past                the operation in the row of s, past its collecting
--     Spreads             what is left to show of such a step
use Rattle.std.proofs.Common.{◌≡◌, ℕ, ◌+◌, ◌-◌, ◌*◌, ◌/◌, ◌%◌, ◌<◌, ◌≤◌, true, ◌≢◌, ◌⊎◌, Some, Option, unwrap_or, sym, refl, ap, ◌∙◌, subst, inl, inr, arith}
use Rattle.std.proofs.lemmas.Bool.{cases_order}
use Rattle.banks.specs.declared.record.Record.{Record}
use Rattle.banks.specs.Meanings.{at_row, known}
use Rattle.stamps.specs.Makes.{Make}
use Rattle.machine.specs.Histories.{End}
use Rattle.machine.specs.Steps.{spread_to}
use Rattle.machine.specs.declared.row.Row.{Row}
use Rattle.machine.specs.declared.row.Row.TheVariants.{Busy}
use Rattle.machine.proofs.Basics.{some_pair, valueOr_on, kinds, split, at_same, at_other}
use Rattle.machine.proofs.Entries.{Entry, Cells, Point, Held, as_settled, as_open, AtMost, rec, DoneAt, Phase, collecting, spreading, finished, refused, Backed, RowFits}
use Rattle.machine.proofs.Moves.{Put, stepped_to, next_point, Move, backed_on}
use Rattle.machine.proofs.Rows.{Here, fits, something_open, busy_row}

pub record Past {S V : Type 0} (m : Make S) (σ : Point S V) (i s steps : ℕ) : Type 0 where
  pub here : Here m σ i s steps
  pub past : σ.stations ≤ steps

module _ {S V : Type 0} {m : Make S} {σ : Point S V} {i s steps : ℕ} (late : Past m σ i s steps) where
  open σ use {stations as n, count, moment, cells, ent}

  abbrev h : Here m σ i s steps
  h = late.here

  abbrev e : Entry S V
  e = ent i

  taken : e.op.steps ≡ steps
  taken = (fits h).taken

  pub stamped_since : (t : ℕ) × ((ent i).op.stamped ≡ Some t) × (t ≤ moment) × (steps < 3 * n)
  stamped_since =
      elim (h.inv.sound i (fits h).high).phase [
        | collecting a b k ↦ absurd (omega (arith, taken))
        | spreading t a b k l f ↦ (t, b, k, omega (arith, taken))
        | finished t u a b k l f ↦ cc (fits h).going
        | refused u a b k l f ↦ cc (fits h).going
      ]

  -- the operation's own record is backed, by itself or by what backs its read
  own_backed : Backed σ (moment + 1) e.stamp e.value
  own_backed =
      let since = stamped_since in
      elim (kinds e.op.kind) [
        | inl k ↦ record { by = i; low = (fits h).high; write = k; at = since.0; stamped = since.1; before = omega arith; stamp = refl; value = refl }
        | inr k ↦ backed_on (moment + 1) (omega arith) (subst (λ t. Backed σ (unwrap_or t (moment + 1)) e.stamp e.value) since.1 (h.inv.reads i (fits h).high k))
      ]

  -- and not below what its station did before
  above_own : (a u : ℕ) → a ≤ count → DoneAt (ent a) u → (ent a).op.station ≡ s → AtMost m (ent a).stamp e.stamp
  above_own a u la d st =
      elim (cases_order a i) [
        | inl q ↦ cc ((fits h).going, subst (λ k. DoneAt (ent k) u) q d)
        | inr (inl lt) ↦
            let o = h.inv.order a i la (fits h).high lt (st ∙ sym (fits h).station) in
            let u_is = (some_pair _ _ _ _ (sym d ∙ o.ended)).0 in
            (h.inv.later a i la (fits h).high u d (omega arith) (omega (arith, taken, (h.inv.sound a la).high))).at_most
        | inr (inr gt) ↦ cc ((fits h).going, (h.inv.order i a (fits h).high la gt ((fits h).station ∙ sym st)).ended)
      ]

  put : (x : Record S V) → x ≡ rec e → Put m σ s s x
  put x q = subst (Put m σ s s) (sym q) (record { here = refl; backed = own_backed; above = above_own })

  -- such a step keeps stamp and value
  abbrev pub spread_on : Option (ℕ × End S V) → Entry S V
  spread_on en = stepped_to e e.op.stamped en e.stamp e.value

  pub record Spreads (d : Cells (Record S V)) (en : Option (ℕ × End S V)) (r : Row) : Type 0 where
    pub phase : Phase n (moment + 1) (spread_on en)
    pub ends : (u : ℕ) (g : End S V) → en ≡ Some (u, g) → u ≡ moment + 1
    pub held : (w : ℕ) (x : Record S V) → Held n d w x → Held n cells w x ⊎ Put m σ s w x
    pub others : (w : ℕ) → w ≢ s → (d.opened w ≡ cells.opened w) × ((q : ℕ) → d.settled w q ≡ cells.settled w q)
    pub full : (w q : ℕ) → known n w q ≡ true → (x : Record S V) × (d.settled w q ≡ Some x)
    pub row : RowFits (next_point σ d i s (spread_on en) r) s r
    pub done : (u : ℕ) → DoneAt (spread_on en) u → (x : Record S V) → Held n d s x → AtMost m e.stamp x.tag

  pub spread_move : (d : Cells (Record S V)) (en : Option (ℕ × End S V)) (r : Row) → Spreads d en r → Move m σ d i s (spread_on en) r
  spread_move d en r k =
      let old = h.inv.sound i (fits h).high in
      record {
        grows = record { kind = refl; station = refl; opened = refl; frozen = λ t f. (f, refl, refl) };
        sound = record { number = old.number; low = old.low; high = old.high; opened = omega arith; phase = k.phase; own = old.own; reading = old.reading; owned = old.owned };
        ends = k.ends;
        later = λ a u la ne d' lt le. let g = taken in let high = (h.inv.sound a la).high in let above = h.inv.later a i la (fits h).high u d' lt (omega arith) in record { at_most = above.at_most; greater = above.greater };
        reads = λ q. backed_on _ (valueOr_on e.op.stamped moment) (h.inv.reads i (fits h).high q);
        held = k.held;
        others = k.others;
        full = k.full;
        row = k.row;
        done = k.done;
      }

  -- the reader whose cell the step is at
  abbrev pub reader : ℕ
  reader = spread_to s ((steps - n) / 2)

  abbrev pub start_cells : Cells (Record S V)
  start_cells = record { settled = cells.settled; opened = at_row cells.opened s (Some (reader, rec e)) }

  start_held : (w : ℕ) (x : Record S V) → Held n start_cells w x → Held n cells w x ⊎ Put m σ s w x
  start_held w x (as_settled q k p) = inl (as_settled q k p)
  start_held w x (as_open q p) = split cells.opened s (Some (reader, rec e)) (λ w' o. o ≡ Some (q, x) → Held n cells w' x ⊎ Put m σ s w' x) w (λ d. inr (put x (sym (some_pair _ _ _ _ d).1))) (λ _ d. inl (as_open q d)) p

  pub start_move : (steps - n) % 2 ≡ 0 → Move m σ start_cells i s (spread_on e.op.ended) (Busy i (steps + 1))
  start_move even =
      let g = taken in
      let t = stamped_since in
      spread_move start_cells e.op.ended (Busy i (steps + 1))
      (record {
        phase = spreading t.0 (fits h).going t.1 (omega arith) (omega arith) (omega arith);
        ends = λ u q d. cc (fits h).going;
        held = start_held;
        others = λ w ne. (at_other cells.opened s _ w ne, λ q. refl);
        full = h.inv.full;
        row =
            busy_row h start_cells _ _ _
            (at_same cells.opened s _ ∙ ap (λ k. Some (spread_to s k, rec e)) (omega arith) ∙ sym (something_open n s (spread_on e.op.ended) (omega arith) (omega arith)))
            (λ j lj. (fits h).spread j (omega arith));
        done = λ u q x k. cc (fits h).going;
      })
