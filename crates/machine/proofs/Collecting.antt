-- A step that reads a cell moves its operation. Assumes nothing.
--     met_stamp, met_value    what the line holds after it met the record x
--     Met                     the operation in the row of s, still collecting, and a record x that its next cell's row holds
--     Collects                what is left to show of such a step
use Rattle.std.proofs.Common.{◌≡◌, ℕ, ◌+◌, ◌<◌, ◌≤◌, Bool, true, false, cond, Some, None, Option, unwrap_or, sym, refl, ap, ◌∙◌, subst, inl, inr, ⊎_elim, arith}
use Rattle.std.proofs.lemmas.Bool.{cases_lt}
use Rattle.banks.specs.declared.record.Record.{Record}
use Rattle.stamps.specs.Makes.{Make, Laws}
use Rattle.machine.specs.Histories.{End, as_done, as_spent}
use Rattle.machine.specs.Steps.{value_of}
use Rattle.machine.specs.declared.line.Kind.TheVariants.{Write, Read}
use Rattle.machine.specs.declared.row.Row.{Row}
use Rattle.machine.proofs.Basics.{kinds}
use Rattle.machine.proofs.Entries.{Entry, Point, Held, AtMost, DoneAt, Phase, collecting, spreading, finished, refused, Backed, RowFits}
use Rattle.machine.proofs.Moves.{stepped_to, next_point, Move}
use Rattle.machine.proofs.Orders.{at_most_refl, smaller_at_most, at_most_smaller, at_most_trans}
use Rattle.machine.proofs.Rows.{Here, fits}

module _ {S V : Type 0} where
  abbrev pub met_stamp : Make S → Entry S V → Record S V → S
  met_stamp m e x = cond (m.smaller e.stamp x.tag) x.tag e.stamp

  abbrev pub met_value : Make S → Entry S V → Record S V → V
  met_value m e x = cond (m.smaller e.stamp x.tag) (value_of e.op.kind e.value x.value) e.value

  -- a write keeps its value
  pub write_keeps : (m : Make S) (e : Entry S V) (x : Record S V) → e.op.kind ≡ Write → met_value m e x ≡ e.value
  write_keeps m e x h = grind arith

pub record Met {S V : Type 0} (m : Make S) (σ : Point S V) (i s steps : ℕ) (x : Record S V) : Type 0 where
  pub here : Here m σ i s steps
  pub early : steps < σ.stations
  pub held : Held σ.stations σ.cells (steps + 1) x

module _ {S V : Type 0} {m : Make S} (laws : Laws m) {σ : Point S V} {i s steps : ℕ} {x : Record S V} (met : Met m σ i s steps x) where
  open σ use {stations as n, count, moment, cells, ent}

  abbrev h : Here m σ i s steps
  h = met.here

  abbrev e : Entry S V
  e = ent i

  taken : e.op.steps ≡ steps
  taken = (fits h).taken

  pub unstamped : (ent i).op.stamped ≡ None
  unstamped =
      elim (h.inv.sound i (fits h).high).phase [
        | collecting a b k ↦ b
        | spreading t a b k low f ↦ absurd (omega (arith, taken))
        | finished t u a b k l f ↦ cc (fits h).going
        | refused u a b k l f ↦ b
      ]

  above_old : AtMost m e.stamp (met_stamp m e x)
  above_old = grind (arith, smaller_at_most m laws e.stamp x.tag, at_most_refl m laws e.stamp)

  above_met : AtMost m x.tag (met_stamp m e x)
  above_met = grind (arith, at_most_refl m laws x.tag)

  -- entry 0 has no cell
  not_zeroth : (a : ℕ) → (ent a).op.station ≡ steps + 1 → 1 ≤ a
  not_zeroth a st =
      elim (cases_lt a 1) [
        | inl lt ↦
            let is : a ≡ 0 = omega arith in
            let none : (ent a).op.station ≡ 0 = ap (λ k. (ent k).op.station) is ∙ ap (λ (f : Entry S V). f.op.station) h.inv.zeroth in
            omega arith
        | inr ge ↦ ge
      ]

  -- what was done before is not above what the line now has
  above_done : (a u : ℕ) → a ≤ count → DoneAt (ent a) u → u < e.op.opened → (ent a).op.station ≤ e.op.steps + 1 → AtMost m (ent a).stamp (met_stamp m e x)
  above_done a u la d lt le =
      elim (cases_lt (ent a).op.station (e.op.steps + 1)) [
        | inl before ↦ at_most_trans m laws _ _ _ (h.inv.later a i la (fits h).high u d lt (omega arith)).at_most above_old
        | inr now ↦
            let st : (ent a).op.station ≡ steps + 1 = omega (arith, taken) in
            at_most_trans m laws _ _ _ (h.inv.above a u (not_zeroth a st) la d x (subst (λ w. Held n cells w x) (sym st) met.held)) above_met
      ]

  -- what a read holds is backed
  pub backed_met : e.op.kind ≡ Read → Backed σ (moment + 1) (met_stamp m e x) (met_value m e x)
  backed_met k = go (m.smaller e.stamp x.tag)
    where
      go : (b : Bool) → Backed σ (moment + 1) (cond b x.tag e.stamp) (cond b (value_of e.op.kind e.value x.value) e.value)
      go true = subst (Backed σ (moment + 1) x.tag) (ap (λ q. value_of q e.value x.value) (sym k)) (h.inv.kept (steps + 1) x met.held)
      go false = subst (λ t. Backed σ (unwrap_or t (moment + 1)) e.stamp e.value) unstamped (h.inv.reads i (fits h).high k)

  own_met : (v : V) → e.op.given ≡ Some v → met_value m e x ≡ v
  own_met v g =
      let sound = h.inv.sound i (fits h).high in
      ⊎_elim (λ w. write_keeps m e x w ∙ sound.own v g) (λ r. cc (sound.reading r)) (kinds e.op.kind)

  -- the entry after the step, of which stamping, end and stamp are still open
  abbrev pub collected_to : Option ℕ → Option (ℕ × End S V) → S → Entry S V
  collected_to st en z = stepped_to e st en z (met_value m e x)

  pub record Collects (st : Option ℕ) (en : Option (ℕ × End S V)) (z : S) (r : Row) : Type 0 where
    pub up : AtMost m (met_stamp m e x) z
    pub phase : Phase n (moment + 1) (collected_to st en z)
    pub write : (t : ℕ) → e.op.kind ≡ Write → st ≡ Some t → (m.owner z ≡ e.op.station) × (m.smaller (met_stamp m e x) z ≡ true)
    pub ends : (u : ℕ) (g : End S V) → en ≡ Some (u, g) → (u ≡ moment + 1) × (g ≡ as_spent)
    pub reads : e.op.kind ≡ Read → Backed σ (unwrap_or st (moment + 1 + 1)) z (met_value m e x)
    pub row : RowFits (next_point σ cells i s (collected_to st en z) r) s r

  pub collect_move : (st : Option ℕ) (en : Option (ℕ × End S V)) (z : S) (r : Row) → Collects st en z r → Move m σ cells i s (collected_to st en z) r
  collect_move st en z r k =
      record {
        grows = record { kind = refl; station = refl; opened = refl; frozen = λ t f. cc unstamped };
        sound =
            let old = h.inv.sound i (fits h).high in
            record { number = old.number; low = old.low; high = old.high; opened = omega arith; phase = k.phase; own = own_met; reading = old.reading; owned = λ t w f. (k.write t w f).0 };
        ends = λ u g q. (k.ends u g q).0;
        later = λ a u la ne d lt le. record { at_most = at_most_trans m laws _ _ _ (above_done a u la d lt le) k.up; greater = λ t w f. at_most_smaller m laws _ _ _ (above_done a u la d lt le) (k.write t w f).1 };
        reads = k.reads;
        held = λ w y q. inl q;
        others = λ w ne. (refl, λ q. refl);
        full = h.inv.full;
        row = k.row;
        done = λ u d y q. let p : as_done z (met_value m e x) ≡ as_spent = (k.ends u _ d).1 in cc;
      }
