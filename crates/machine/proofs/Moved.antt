-- The invariant holds again after a move. Assumes nothing.
use Rattle.std.proofs.Common.{◌≡◌, ℕ, ◌+◌, ◌<◌, ◌≤◌, true, ◌≢◌, unwrap_or, sym, refl, ap, ◌∙◌, subst, ⊎_elim, le_refl, arith}
use Rattle.banks.specs.declared.record.Record.{Record}
use Rattle.banks.specs.Meanings.{inside}
use Rattle.stamps.specs.Makes.{Make}
use Rattle.machine.specs.declared.line.Kind.TheVariants.{Read}
use Rattle.machine.specs.declared.row.Row.{Row}
use Rattle.machine.specs.declared.row.Row.TheVariants.{Idle, Busy}
use Rattle.machine.proofs.Basics.{valueOr_on, split, at_other}
use Rattle.machine.proofs.Entries.{Entry, Cells, Point, Held, AtMost, DoneAt, Sound, Backed, Ended, Order, Later, BusyFits, RowFits, Inv}
use Rattle.machine.proofs.Moves.{ended_on, Grows, next_point, Move, unchanged, backed_in, sound_on}
use Rattle.machine.proofs.Rows.{Here, fits}

module _ {S V : Type 0} {m : Make S} {σ : Point S V} {d : Cells (Record S V)} {i s steps : ℕ} {e : Entry S V} {r : Row} (h : Here m σ i s steps) (move : Move m σ d i s e r) where
  open σ use {stations as n, count, moment, row, ent}

  abbrev τ : Point S V
  τ = next_point σ d i s e r

  -- what is to show at entry i, and at every other
  each : (P : ℕ → Entry S V → Type 0) (k : ℕ) → k ≤ count → (i ≤ count → P i e) → (k ≢ i → k ≤ count → P k (ent k)) → P k (τ.ent k)
  each P k le here there = split ent i e (λ k' f. k' ≤ count → P k' f) k here there le

  moved_order : (a b : ℕ) → a ≤ count → b ≤ count → Order a (τ.ent a) b (τ.ent b)
  moved_order a b la lb =
      each (λ a' d'. Order a' d' b (τ.ent b)) a la
      (λ li. each (λ b' e'. Order i e b' e') b lb (λ _ lt _. absurd (omega arith)) (λ _ lb' lt st. still_open b lb' lt st))
      (λ _ la'. each (λ b' e'. Order a (ent a) b' e') b lb (λ li lt st. subst (λ t. Ended t (ent a)) (sym move.grows.opened) (h.inv.order a i la' li lt (st ∙ move.grows.station))) (λ _ lb'. h.inv.order a b la' lb'))
    where
      still_open : (b : ℕ) → b ≤ count → Order i e b (ent b)
      still_open b lb lt st = let o = h.inv.order i b (fits h).high lb lt (sym move.grows.station ∙ st) in cc ((fits h).going, o.ended)

  -- an operation that ends now was not over before any other was opened
  not_yet : (f : Entry S V) (u : ℕ) → f.op.opened ≤ moment → DoneAt e u → u < f.op.opened → ⊥
  not_yet f u le q lt = omega (arith, move.ends u _ q)

  opened_e : e.op.opened ≤ moment
  opened_e = omega (arith, (h.inv.sound i (fits h).high).opened)

  moved_later : (a b : ℕ) → a ≤ count → b ≤ count → Later m a (τ.ent a) b (τ.ent b)
  moved_later a b la lb =
      each (λ a' d'. Later m a' d' b (τ.ent b)) a la
      (λ _. each (λ b' e'. Later m i e b' e') b lb (λ _ u q lt _. absurd (not_yet e u opened_e q lt)) (λ _ lb' u q lt _. absurd (not_yet (ent b) u (h.inv.sound b lb').opened q lt)))
      (λ ne la'. each (λ b' e'. Later m a (ent a) b' e') b lb (λ _ u q lt st. move.later a u la' ne q lt st) (λ _ lb'. h.inv.later a b la' lb'))

  on : (t u : ℕ) (z : S) (v : V) → t ≤ u → Backed σ t z v → Backed τ u z v
  on t u z v = backed_in σ τ t u z v (le_refl _) (λ k _. split ent i e (λ k' f. Grows (ent k') f) k move.grows (λ _. unchanged _ _ refl))

  moved_reads : (k : ℕ) → k ≤ count → (τ.ent k).op.kind ≡ Read → Backed τ (unwrap_or (τ.ent k).op.stamped (moment + 1 + 1)) (τ.ent k).stamp (τ.ent k).value
  moved_reads k lk =
      each (λ _ f. f.op.kind ≡ Read → Backed τ (unwrap_or f.op.stamped (moment + 1 + 1)) f.stamp f.value) k lk
      (λ _ q. on _ _ _ _ (le_refl _) (move.reads q))
      (λ _ lk' q. on _ _ _ _ (valueOr_on (ent k).op.stamped moment) (h.inv.reads k lk' q))

  moved_kept : (w : ℕ) (x : Record S V) → Held n d w x → Backed τ (moment + 1 + 1) x.tag x.value
  moved_kept w x q = ⊎_elim (λ k. on _ _ _ _ (omega arith) (h.inv.kept w x k)) (λ p. on _ _ _ _ (omega arith) p.backed) (move.held w x q)

  moved_above : (a u : ℕ) → 1 ≤ a → a ≤ count → DoneAt (τ.ent a) u → (x : Record S V) → Held n d (τ.ent a).op.station x → AtMost m (τ.ent a).stamp x.tag
  moved_above a u low la =
      each (λ a' f. 1 ≤ a' → DoneAt f u → (x : Record S V) → Held n d f.op.station x → AtMost m f.stamp x.tag) a la
      (λ _ _ q x k. move.done u q x (subst (λ w. Held n d w x) (move.grows.station ∙ (fits h).station) k))
      (λ _ la' low' q x k. ⊎_elim (h.inv.above a u low' la' q x) (λ p. p.above a u la' q p.here) (move.held _ x k))
      low

  -- the row of another station
  row_stays : (w : ℕ) (q : Row) → w ≢ s → RowFits σ w q → RowFits τ w q
  row_stays w Idle ne f =
      ((move.others w ne).0 ∙ f.0, λ k lk. each (λ _ g. g.op.station ≡ w → Ended (moment + 1 + 1) g) k lk (λ _ q. absurd (ne (sym q ∙ move.grows.station ∙ (fits h).station))) (λ _ lk' q. ended_on _ (omega arith) (f.1 k lk' q)))
  row_stays w (Busy j t) ne f =
      subst (BusyFits τ w j t) (sym (at_other ent i e j (λ q. ne (sym f.station ∙ ap (λ k. (ent k).op.station) q ∙ (fits h).station))))
      (record { low = f.low; high = f.high; station = f.station; going = f.going; taken = f.taken; middle = (move.others w ne).0 ∙ f.middle; spread = λ j' q. (move.others w ne).1 _ ∙ f.spread j' q })

  moved_rows : (w : ℕ) → inside n w ≡ true → RowFits τ w (τ.row w)
  moved_rows w = split row s r (λ w' q. inside n w' ≡ true → RowFits τ w' q) w (λ _. move.row) (λ ne k. row_stays w (row w) ne (h.inv.rows w k))

  pub moved : Inv m (next_point σ d i s e r)
  moved =
      record {
        zeroth = let low = (fits h).low in at_other ent i e 0 (omega arith) ∙ h.inv.zeroth;
        sound = λ k lk. each (Sound m n (moment + 1)) k lk (λ _. move.sound) (λ _ lk'. sound_on (h.inv.sound k lk'));
        order = moved_order;
        later = moved_later;
        reads = moved_reads;
        kept = moved_kept;
        above = moved_above;
        rows = moved_rows;
        full = move.full;
      }
