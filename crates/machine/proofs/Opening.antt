-- A new operation keeps the invariant. Assumes nothing.
--     Opens               an idle station, and what its open is handed
use Rattle.std.proofs.Common.{◌≡◌, ℕ, ◌+◌, ◌≤◌, true, ◌≢◌, Some, None, Option, unwrap_or, sym, refl, ap, ◌∙◌, subst, inl, inr, le_refl, arith}
use Rattle.std.proofs.lemmas.Bool.{cases_lt}
use Rattle.banks.specs.declared.record.Record.{Record}
use Rattle.banks.specs.Meanings.{inside, at_row}
use Rattle.stamps.specs.Makes.{Make, Laws}
use Rattle.machine.specs.declared.line.Kind.{Kind}
use Rattle.machine.specs.declared.line.Kind.TheVariants.{Read}
use Rattle.machine.specs.declared.row.Row.{Row}
use Rattle.machine.specs.declared.row.Row.TheVariants.{Idle, Busy}
use Rattle.banks.proofs.Shared.{inside_bounds}
use Rattle.machine.proofs.Basics.{valueOr_on, split, at_same, at_other}
use Rattle.machine.proofs.Entries.{Entry, Point, Held, AtMost, start_entry, DoneAt, collecting, Sound, Backed, Ended, Order, Later, BusyFits, RowFits, Inv}
use Rattle.machine.proofs.Moves.{ended_on, unchanged, backed_in, sound_on}
use Rattle.machine.proofs.Orders.{at_most_refl}
use Rattle.machine.proofs.Rows.{nothing_open}

pub record Opens {S V : Type 0} (m : Make S) (σ : Point S V) (s : ℕ) (kind : Kind) (given : Option V) (v : V) : Type 0 where
  pub inv : Inv m σ
  pub some : 1 ≤ σ.stations
  pub known : inside σ.stations s ≡ true
  pub idle : σ.row s ≡ Idle
  pub start_value : kind ≡ Read → v ≡ σ.origin.value
  pub no_given : kind ≡ Read → given ≡ None
  pub own : (u : V) → given ≡ Some u → v ≡ u

module _ {S V : Type 0} {m : Make S} (laws : Laws m) {σ : Point S V} {s : ℕ} {kind : Kind} {given : Option V} {v : V} (h : Opens m σ s kind given v) where
  open σ use {origin, stations as n, count, moment, cells, row, ent}

  abbrev pub new : Entry S V
  new =
      record {
        op = record { line = count + 1; kind = kind; station = s; given = given; opened = moment + 1; steps = 0; stamped = None; ended = None };
        stamp = origin.tag;
        value = v;
      }

  -- the point after the open
  abbrev pub opened_point : Point S V
  opened_point =
      record {
        origin = origin;
        stations = n;
        count = count + 1;
        moment = moment + 1;
        cells = cells;
        row = at_row row s (Busy (count + 1) 0);
        ent = at_row ent (count + 1) new;
      }

  abbrev τ : Point S V
  τ = opened_point

  -- the row before: all operations of the station are over
  before : RowFits σ s Idle
  before = subst (RowFits σ s) h.idle (h.inv.rows s h.known)

  each : (P : ℕ → Entry S V → Type 0) (k : ℕ) → k ≤ count + 1 → P (count + 1) new → (k ≤ count → P k (ent k)) → P k (at_row ent (count + 1) new k)
  each P k le here there = split ent (count + 1) new P k here (λ ne. there (omega arith))

  on : (t u : ℕ) (z : S) (w : V) → t ≤ u → Backed σ t z w → Backed τ u z w
  on t u z w = backed_in σ τ t u z w (omega arith) (λ k le. unchanged _ _ (at_other ent (count + 1) new k (omega arith)))

  zeroth : τ.ent 0 ≡ start_entry n origin
  zeroth = at_other ent (count + 1) new 0 (omega arith) ∙ h.inv.zeroth

  by_start : kind ≡ Read → Backed τ (moment + 1 + 1) origin.tag v
  by_start k =
      record {
        by = 0;
        low = omega arith;
        write = ap (λ (f : Entry S V). f.op.kind) zeroth;
        at = 0;
        stamped = ap (λ (f : Entry S V). f.op.stamped) zeroth;
        before = omega arith;
        stamp = ap (λ (f : Entry S V). f.stamp) zeroth;
        value = ap (λ (f : Entry S V). f.value) zeroth ∙ sym (h.start_value k);
      }

  order : (a b : ℕ) → a ≤ count + 1 → b ≤ count + 1 → Order a (τ.ent a) b (τ.ent b)
  order a b la lb =
      each (λ a' d. Order a' d b (τ.ent b)) a la (λ lt. absurd (omega arith))
      (λ la'. each (λ b' e. Order a (ent a) b' e) b lb (λ _ st. before.1 a la' st) (λ lb'. h.inv.order a b la' lb'))

  later : (a b : ℕ) → a ≤ count + 1 → b ≤ count + 1 → Later m a (τ.ent a) b (τ.ent b)
  later a b la lb =
      each (λ a' d. Later m a' d b (τ.ent b)) a la (λ u d. cc)
      (λ la'. each (λ b' e. Later m a (ent a) b' e) b lb (λ u d lt st. record { at_most = from_start a la' st; greater = λ t _ f. cc }) (λ lb'. h.inv.later a b la' lb'))
    where
      from_start : (a : ℕ) → a ≤ count → (ent a).op.station ≤ 0 → AtMost m (ent a).stamp origin.tag
      from_start a la st =
          let z : a ≡ 0 = elim (cases_lt a 1) [ inl lt ↦ omega arith | inr ge ↦ omega (arith, (h.inv.sound a la).low ge) ] in
          subst (λ x. AtMost m x origin.tag) (sym (ap (λ k. (ent k).stamp) z ∙ ap (λ (f : Entry S V). f.stamp) h.inv.zeroth)) (at_most_refl m laws origin.tag)

  row_stays : (w : ℕ) (q : Row) → w ≢ s → RowFits σ w q → RowFits τ w q
  row_stays w Idle ne f =
      (f.0, λ k lk. each (λ k' g. g.op.station ≡ w → Ended (moment + 1 + 1) g) k lk (λ q. absurd (ne (sym q))) (λ lk' q. ended_on _ (omega arith) (f.1 k lk' q)))
  row_stays w (Busy j t) ne f =
      subst (BusyFits τ w j t) (sym (at_other ent (count + 1) new j (omega arith)))
      (record { low = f.low; high = omega arith; station = f.station; going = f.going; taken = f.taken; middle = f.middle; spread = f.spread })

  new_row : RowFits τ s (Busy (count + 1) 0)
  new_row =
      subst (BusyFits τ s (count + 1) 0) (sym (at_same ent (count + 1) new))
      (record {
        low = omega arith;
        high = le_refl _;
        station = refl;
        going = refl;
        taken = refl;
        middle = before.0 ∙ sym (nothing_open n s new (omega arith));
        spread = λ j le. absurd (omega arith);
      })

  pub opened : Inv m opened_point
  opened =
      let p = inside_bounds n s h.known in
      record {
        zeroth = zeroth;
        sound = λ k lk. each (Sound m n (moment + 1)) k lk (record { number = refl; low = λ _. p.0; high = p.1; opened = le_refl _; phase = collecting refl refl (omega arith); own = h.own; reading = h.no_given; owned = λ t _ f. cc }) (λ lk'. sound_on (h.inv.sound k lk'));
        order = order;
        later = later;
        reads = λ k lk. each (λ k' f. f.op.kind ≡ Read → Backed τ (unwrap_or f.op.stamped (moment + 1 + 1)) f.stamp f.value) k lk by_start (λ lk' q. on _ _ _ _ (valueOr_on (ent k).op.stamped moment) (h.inv.reads k lk' q));
        kept = λ w x q. on _ _ _ _ (omega arith) (h.inv.kept w x q);
        above = λ a u low la. each (λ a' f. 1 ≤ a' → DoneAt f u → (x : Record S V) → Held n cells f.op.station x → AtMost m f.stamp x.tag) a la (λ _ d. cc) (λ la' low'. h.inv.above a u low' la') low;
        rows = λ w. split row s (Busy (count + 1) 0) (λ w' q. inside n w' ≡ true → RowFits τ w' q) w (λ _. new_row) (λ ne kw. row_stays w (row w) ne (h.inv.rows w kw));
        full = h.inv.full;
      }
