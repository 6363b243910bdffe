-- A step of one operation keeps the invariant, once a few facts are shown of it. Assumes nothing.
--     Move                what is to show of a step: entry i becomes e, the cells c become d, the row of s becomes r
--     moved               then the invariant holds again
use Rattle.std.proofs.Common.{◌≡◌, ℕ, ◌+◌, ◌<◌, ◌≤◌, true, ◌≢◌, ◌⊎◌, Some, Option, unwrap_or, sym, refl, ◌∙◌, subst, le_refl, arith}
use Rattle.banks.specs.declared.record.Record.{Record}
use Rattle.banks.specs.Meanings.{known, at_row}
use Rattle.stamps.specs.Makes.{Make}
use Rattle.machine.specs.Histories.{End, with_step}
use Rattle.machine.specs.declared.line.Kind.TheVariants.{Read}
use Rattle.machine.specs.declared.row.Row.{Row}
use Rattle.machine.proofs.Entries.{Entry, Cells, Point, Held, AtMost, DoneAt, Phase, collecting, spreading, finished, refused, Sound, Backed, Ended, Above, RowFits}

module _ {S V : Type 0} where
  -- what an open fixes stays, and a stamped entry keeps its stamp and value
  pub record Grows (d e : Entry S V) : Type 0 where
    pub kind : e.op.kind ≡ d.op.kind
    pub station : e.op.station ≡ d.op.station
    pub opened : e.op.opened ≡ d.op.opened
    pub frozen : (t : ℕ) → d.op.stamped ≡ Some t → (e.op.stamped ≡ Some t) × (e.stamp ≡ d.stamp) × (e.value ≡ d.value)

  -- a record that the step puts into row s
  pub record Put (m : Make S) (σ : Point S V) (s w : ℕ) (x : Record S V) : Type 0 where
    pub here : w ≡ s
    pub backed : Backed σ (σ.moment + 1) x.tag x.value
    pub above : (a u : ℕ) → a ≤ σ.count → DoneAt (σ.ent a) u → (σ.ent a).op.station ≡ s → AtMost m (σ.ent a).stamp x.tag

  -- the point after an accepted step of station s: its entry i is e, its row is r, and the cells are d
  abbrev pub next_point : Point S V → Cells (Record S V) → ℕ → ℕ → Entry S V → Row → Point S V
  next_point σ d i s e r =
      record {
        origin = σ.origin;
        stations = σ.stations;
        count = σ.count;
        moment = σ.moment + 1;
        cells = d;
        row = at_row σ.row s r;
        ent = at_row σ.ent i e;
      }

  pub record Move (m : Make S) (σ : Point S V) (d : Cells (Record S V)) (i s : ℕ) (e : Entry S V) (r : Row) : Type 0 where
    pub grows : Grows (σ.ent i) e
    pub sound : Sound m σ.stations (σ.moment + 1) i e
    -- an end is of now
    pub ends : (u : ℕ) (h : End S V) → e.op.ended ≡ Some (u, h) → u ≡ σ.moment + 1
    pub later : (a u : ℕ) → a ≤ σ.count → a ≢ i → DoneAt (σ.ent a) u → u < e.op.opened → (σ.ent a).op.station ≤ e.op.steps → Above m (σ.ent a) e
    pub reads : e.op.kind ≡ Read → Backed σ (unwrap_or e.op.stamped (σ.moment + 1 + 1)) e.stamp e.value
    pub held : (w : ℕ) (x : Record S V) → Held σ.stations d w x → Held σ.stations σ.cells w x ⊎ Put m σ s w x
    pub others : (w : ℕ) → w ≢ s → (d.opened w ≡ σ.cells.opened w) × ((q : ℕ) → d.settled w q ≡ σ.cells.settled w q)
    pub full : (w q : ℕ) → known σ.stations w q ≡ true → (x : Record S V) × (d.settled w q ≡ Some x)
    pub row : RowFits (next_point σ d i s e r) s r
    pub done : (u : ℕ) → DoneAt e u → (x : Record S V) → Held σ.stations d s x → AtMost m e.stamp x.tag

  -- an entry with one more step
  abbrev pub stepped_to : Entry S V → Option ℕ → Option (ℕ × End S V) → S → V → Entry S V
  stepped_to e stamped ended s v = record { op = with_step e.op stamped ended; stamp = s; value = v }

  -- what backs a record goes on backing it, if its entry does not lose its stamp
  pub backed_in : (σ τ : Point S V) (t u : ℕ) (s : S) (v : V) → σ.count ≤ τ.count → ((k : ℕ) → k ≤ σ.count → Grows (σ.ent k) (τ.ent k)) → t ≤ u → Backed σ t s v → Backed τ u s v
  backed_in σ τ t u s v more grows le b =
      let g = grows b.by b.low in
      let fr = g.frozen b.at b.stamped in
      record {
        by = b.by;
        low = omega arith;
        write = g.kind ∙ b.write;
        at = b.at;
        stamped = fr.0;
        before = omega arith;
        stamp = fr.1 ∙ b.stamp;
        value = fr.2 ∙ b.value;
      }

  pub unchanged : (d e : Entry S V) → e ≡ d → Grows d e
  unchanged d e q =
      subst (Grows d) (sym q) (record { kind = refl; station = refl; opened = refl; frozen = λ t f. (f, refl, refl) })

  pub backed_on : {σ : Point S V} {t : ℕ} {s : S} {v : V} (u : ℕ) → t ≤ u → Backed σ t s v → Backed σ u s v
  backed_on {σ} u le b = backed_in σ σ _ u _ _ (le_refl _) (λ k _. unchanged _ _ refl) le b

  pub ended_on : {t : ℕ} {e : Entry S V} (u : ℕ) → t ≤ u → Ended t e → Ended u e
  ended_on u le d = record { at = d.at; how = d.how; ended = d.ended; before = omega arith }

  pub phase_on : {n moment : ℕ} {e : Entry S V} → Phase n moment e → Phase n (moment + 1) e
  phase_on (collecting a b c) = collecting a b c
  phase_on (spreading t a b c d f) = spreading t a b (omega arith) d f
  phase_on (finished t u a b c d f) = finished t u a b (omega arith) (omega arith) f
  phase_on (refused u a b c d f) = refused u a b (omega arith) d f

  pub sound_on : {m : Make S} {n moment k : ℕ} {e : Entry S V} → Sound m n moment k e → Sound m n (moment + 1) k e
  sound_on h =
      record {
        number = h.number;
        low = h.low;
        high = h.high;
        opened = omega arith;
        phase = phase_on h.phase;
        own = h.own;
        reading = h.reading;
        owned = h.owned;
      }
