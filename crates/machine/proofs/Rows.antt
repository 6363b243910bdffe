-- The row of the station that takes a step. Assumes nothing.
--     Here                the invariant, and a station s whose row holds line i with its steps
use Rattle.std.proofs.Common.{◌≡◌, ℕ, ◌+◌, ◌-◌, ◌*◌, ◌/◌, ◌%◌, ◌≤◌, true, cond, eqb, ◌≢◌, Some, None, Option, sym, ◌∙◌, subst, inl, inr, arith}
use Rattle.std.proofs.lemmas.Bool.Decides.{nat_tests}
use Rattle.std.proofs.lemmas.Bool.{cases_order}
use Rattle.banks.specs.declared.record.Record.{Record}
use Rattle.banks.specs.Meanings.{inside}
use Rattle.stamps.specs.Makes.{Make}
use Rattle.machine.specs.Histories.{End}
use Rattle.machine.specs.Steps.{spread_to}
use Rattle.machine.specs.declared.row.Row.TheVariants.{Idle, Busy}
use Rattle.machine.proofs.Basics.{split, at_same}
use Rattle.machine.proofs.Entries.{Entry, Cells, Point, rec, Ended, open_record, BusyFits, RowFits, Inv}
use Rattle.machine.proofs.Moves.{ended_on, stepped_to, next_point}

pub record Here {S V : Type 0} (m : Make S) (σ : Point S V) (i s steps : ℕ) : Type 0 where
  pub inv : Inv m σ
  pub known : inside σ.stations s ≡ true
  pub busy : σ.row s ≡ Busy i steps

module _ {S V : Type 0} (n s : ℕ) (e : Entry S V) where
  abbrev spread_record : Option (ℕ × Record S V)
  spread_record = cond (eqb ((e.op.steps - n) % 2) 0) None (Some (spread_to s ((e.op.steps - n) / 2), rec e))

  -- before its spreading an operation has nothing open
  pub nothing_open : e.op.steps ≤ n → open_record n s e ≡ None
  nothing_open le = grind (arith, nat_tests)

  -- between a start and its finish, and past a finish
  pub something_open : n ≤ e.op.steps → (e.op.steps - n) % 2 ≡ 1 → open_record n s e ≡ Some (spread_to s ((e.op.steps - n) / 2), rec e)
  something_open le odd = grind (arith, nat_tests)

  pub closed_again : n ≤ e.op.steps → (e.op.steps - n) % 2 ≡ 0 → open_record n s e ≡ None
  closed_again le even = grind (arith, nat_tests)

module _ {S V : Type 0} {m : Make S} {σ : Point S V} {i s steps : ℕ} (h : Here m σ i s steps) where
  open σ use {moment, count, ent}

  pub fits : BusyFits σ s i steps (ent i)
  fits = subst (RowFits σ s) h.busy (h.inv.rows s h.known)

  -- a row that goes on
  pub busy_row : (d : Cells (Record S V)) (st : Option ℕ) (z : S) (v : V) → d.opened s ≡ open_record σ.stations s (stepped_to (ent i) st (ent i).op.ended z v) → ((j : ℕ) → σ.stations + 2 * j + 2 ≤ steps + 1 → d.settled s (spread_to s j) ≡ Some (record { tag = z; value = v })) → RowFits (next_point σ d i s (stepped_to (ent i) st (ent i).op.ended z v) (Busy i (steps + 1))) s (Busy i (steps + 1))
  busy_row d st z v middle spread =
      subst (BusyFits (next_point σ d i s (stepped_to (ent i) st (ent i).op.ended z v) (Busy i (steps + 1))) s i (steps + 1)) (sym (at_same ent i _))
      (record {
        low = fits.low;
        high = fits.high;
        station = fits.station;
        going = fits.going;
        taken = omega (arith, fits.taken);
        middle = middle;
        spread = λ j lj. spread j (omega (arith, fits.taken));
      })

  -- another operation of the station is over
  other_over : (k : ℕ) → k ≢ i → k ≤ count → (ent k).op.station ≡ s → Ended (moment + 1 + 1) (ent k)
  other_over k ne lk st =
      elim (cases_order k i) [
        | inl eq ↦ absurd (ne eq)
        | inr (inl lt) ↦ ended_on _ (omega (arith, (h.inv.sound i fits.high).opened)) (h.inv.order k i lk fits.high lt (st ∙ sym fits.station))
        | inr (inr gt) ↦ cc (fits.going, (h.inv.order i k fits.high lk gt (fits.station ∙ sym st)).ended)
      ]

  -- a row that ends: all operations of the station are over
  pub idle_row : (d : Cells (Record S V)) (e : Entry S V) (g : End S V) → e.op.ended ≡ Some (moment + 1, g) → d.opened s ≡ None → RowFits (next_point σ d i s e Idle) s Idle
  idle_row d e g over none =
      (none, λ k lk. split ent i e (λ k' f. k' ≤ count → f.op.station ≡ s → Ended (moment + 1 + 1) f) k (λ _ _. record { at = moment + 1; how = g; ended = over; before = omega arith }) (λ ne lk' st. other_over k ne lk' st) lk)
