-- The regular cell, shown of the definitions. Assumes nothing.
use Rattle.std.proofs.Common.{◌≡◌, ℕ, Bool, true, false, cond, ◌&&◌, eqb, List, [], ◌∷◌, is_ok, Some, None, Ok, Err, Option, Result, sym, refl, ap, ◌∙◌, subst, inl, inr, arith}
use Rattle.banks.proofs.Shared.{Left}
use Rattle.std.proofs.lemmas.Bool.{cond-true, cond-false, eqb-true, ne_eqb, and_left, and_parts}
use Rattle.policy.specs.declared.refusal.Refusal.{Refusal}
use Rattle.policy.specs.declared.refusal.Refusal.TheVariants.{UnknownStation, Unreachable}
use Rattle.banks.specs.Meanings.{Meaning, inside, known, filled, chosen, record_or_4, read, start, start_at, started, finish, finish_at, finished, mark, marked}
use Rattle.banks.specs.Histories.{Call, fills, reads, starts, finishes, marks, Event, was_filled, was_read, was_started, was_finished, was_marked, left, accepted, event, run, underway, settled_by, last_finished, last_marked, Regular, RegularFrom, Undisturbed}

-- how a bank of n stations goes with a history
pub record Goes {R : Type 0} (n : ℕ) (m : Meaning R) (h : List (Event R)) : Type 0 where
  pub count : m.stations ≡ n
  pub opens : (w : ℕ) → m.opened w ≡ underway h w
  pub settles : (w r : ℕ) → known n w r ≡ true → (x : R) × (m.settled w r ≡ Some x) × (last_finished h w r ≡ Some x)
  pub reaches : (w r : ℕ) → known n w r ≡ true → m.reachable w r ≡ last_marked h w r

module _ {R : Type 0} where
  -- a bank filled with x
  pub goes_filled : (n : ℕ) (m : Meaning R) (x : R) (h : List (Event R)) → m.stations ≡ n → Goes n (filled m x) (was_filled x ∷ h)
  goes_filled n m x h e =
      record {
        count = e;
        opens = λ w. refl;
        settles = λ w r k. (x, cond-true (known m.stations w r) (Some x) None (ap (λ n. known n w r) e ∙ k), refl);
        reaches = λ w r k. ap (λ n. known n w r) e ∙ k;
      }

module _ {R : Type 0} (n : ℕ) (m : Meaning R) (h : List (Event R)) (g : Goes n m h) where
  goes_read : (t : Bool) → Goes n m (cond t (was_read ∷ h) h)
  goes_read true = record { count = g.count; opens = g.opens; settles = g.settles; reaches = g.reaches }
  goes_read false = g

  goes_started : (w r : ℕ) (x : R) → Goes n (started m w r x) (was_started w r x ∷ h)
  goes_started w r x =
      record {
        count = g.count;
        opens = λ v. ap (cond (eqb v w) (Some (r, x))) (g.opens v);
        settles = g.settles;
        reaches = g.reaches;
      }

  goes_start : (w r : ℕ) (x : R) → Goes n (start m w r x).1 (cond (is_ok (start m w r x).0) (was_started w r x ∷ h) h)
  goes_start w r x = go (known m.stations w r) (m.reachable w r) (m.opened w)
    where
      at : Bool → Bool → Option (ℕ × R) → Left (Meaning R)
      at k u o = cond k (cond u (start_at o m w r x) (Err (Unreachable (m.place w r)), m)) (Err UnknownStation, m)

      go : (k u : Bool) (o : Option (ℕ × R)) → Goes n (at k u o).1 (cond (is_ok (at k u o).0) (was_started w r x ∷ h) h)
      go true true None = goes_started w r x
      go true true (Some o) = g
      go true false o = g
      go false u o = g

  goes_finished : (w r : ℕ) (x : R) → m.opened w ≡ Some (r, x) → Goes n (finished m w r x) (was_finished w ∷ h)
  goes_finished w r x o =
      record {
        count = g.count;
        opens = λ v. ap (cond (eqb v w) None) (g.opens v);
        settles = λ v q k. settle v q (g.settles v q k) (eqb v w) refl;
        reaches = g.reaches;
      }
    where
      -- the record underway for r goes to the cell of reader r
      here : (v q : ℕ) → underway h v ≡ Some (r, x) → (y : R) → m.settled v q ≡ Some y → last_finished h v q ≡ Some y → (u : Bool) → eqb q r ≡ u → (z : R) × (cond u (Some x) (m.settled v q) ≡ Some z) × (settled_by (underway h v) q (last_finished h v q) ≡ Some z)
      here v q e y a b true f = (x, refl, ap (λ i. settled_by i q (last_finished h v q)) e ∙ cond-true (eqb q r) _ _ f)
      here v q e y a b false f = (y, a, ap (λ i. settled_by i q (last_finished h v q)) e ∙ cond-false (eqb q r) _ _ f ∙ b)

      settle : (v q : ℕ) → (y : R) × (m.settled v q ≡ Some y) × (last_finished h v q ≡ Some y) → (t : Bool) → eqb v w ≡ t → (z : R) × (cond (t && eqb q r) (Some x) (m.settled v q) ≡ Some z) × (cond t (settled_by (underway h v) q (last_finished h v q)) (last_finished h v q) ≡ Some z)
      settle v q y true e = here v q (sym (g.opens v) ∙ ap m.opened (eqb-true v w e) ∙ o) y.0 y.1 y.2 (eqb q r) refl
      settle v q y false e = y

  goes_finish : (w : ℕ) → Goes n (finish m w).1 (cond (is_ok (finish m w).0) (was_finished w ∷ h) h)
  goes_finish w = go (inside m.stations w) (m.opened w) refl
    where
      at : Bool → Option (ℕ × R) → Left (Meaning R)
      at k o = cond k (finish_at o m w) (Err UnknownStation, m)

      one : (o : ℕ × R) → m.opened w ≡ Some o → (u : Bool) → Goes n (cond {A = Left (Meaning R)} u (Ok tt, finished m w o.0 o.1) (Err (Unreachable (m.place w o.0)), m)).1 (cond (is_ok (cond {A = Left (Meaning R)} u (Ok tt, finished m w o.0 o.1) (Err (Unreachable (m.place w o.0)), m)).0) (was_finished w ∷ h) h)
      one o e true = goes_finished w o.0 o.1 e
      one o e false = g

      go : (k : Bool) (o : Option (ℕ × R)) → m.opened w ≡ o → Goes n (at k o).1 (cond (is_ok (at k o).0) (was_finished w ∷ h) h)
      go true None e = g
      go true (Some o) e = one o e (m.reachable w o.0)
      go false o e = g

  goes_mark : (w r : ℕ) (b : Bool) → Goes n (mark m w r b).1 (cond (is_ok (mark m w r b).0) (was_marked w r b ∷ h) h)
  goes_mark w r b = go (known m.stations w r)
    where
      go : (k : Bool) → Goes n (cond {A = Left (Meaning R)} k (Ok tt, marked m w r b) (Err UnknownStation, m)).1 (cond (is_ok (cond {A = Left (Meaning R)} k (Ok tt, marked m w r b) (Err UnknownStation, m)).0) (was_marked w r b ∷ h) h)
      go true =
          record {
            count = g.count;
            opens = g.opens;
            settles = g.settles;
            reaches = λ v q k. ap (cond (eqb v w && eqb q r) b) (g.reaches v q k);
          }
      go false = g

  goes_call : (c : Call R) → Goes n (left m c) (cond (accepted m c) (event c ∷ h) h)
  goes_call (fills x) = goes_filled n m x h g.count
  goes_call (reads w r c) = goes_read (is_ok (read m c w r).0)
  goes_call (starts w r x) = goes_start w r x
  goes_call (finishes w) = goes_finish w
  goes_call (marks w r b) = goes_mark w r b

module _ {R : Type 0} where
  pub goes_run : (n : ℕ) (cs : List (Call R)) (m : Meaning R) (h : List (Event R)) → Goes n m h → Goes n (run m h cs).1 (run m h cs).0
  goes_run n [] m h g = g
  goes_run n (c ∷ cs) m h g = goes_run n cs (left m c) (cond (accepted m c) (event c ∷ h) h) (goes_call n m h g c)

  -- what a read of a bank that goes with a history answers
  goes_regular : (n : ℕ) (m : Meaning R) (h : List (Event R)) → Goes n m h → (c : Bool) (w r : ℕ) → Regular h n w r (read m c w r).0
  goes_regular n m h g c w r = go (known m.stations w r) refl (m.reachable w r) refl
    where
      home : (t : Bool) → known m.stations w r ≡ t → known n w r ≡ t
      home t e = ap (λ i. known i w r) (sym g.count) ∙ e

      kept : (y : R) → m.settled w r ≡ Some y → last_finished h w r ≡ Some y → Regular h n w r (record_or_4 (m.settled w r))
      kept y a b = subst (λ z. Regular h n w r (record_or_4 z)) (sym a) (inl b, λ none. b)

      either : (o : Option (ℕ × R)) → m.opened w ≡ o → (y : R) → m.settled w r ≡ Some y → last_finished h w r ≡ Some y → Regular h n w r (record_or_4 (chosen o r c (m.settled w r)))
      either None e y a b = kept y a b
      either (Some o) e y a b = pick (eqb o.0 r && c) refl
        where
          pick : (t : Bool) → (eqb o.0 r && c) ≡ t → Regular h n w r (record_or_4 (cond t (Some o.1) (m.settled w r)))
          pick true f =
              let u : underway h w ≡ Some (r, o.1) = sym (g.opens w) ∙ e ∙ ap (λ i. Some (i, o.1)) (eqb-true o.0 r (and_parts (eqb o.0 r) c f).0) in
              (inr u, λ none. absurd (none o.1 u))
          pick false f = kept y a b

      go : (k : Bool) → known m.stations w r ≡ k → (u : Bool) → m.reachable w r ≡ u → Regular h n w r (cond k (cond u (record_or_4 (chosen (m.opened w) r c (m.settled w r))) (Err (Unreachable (m.place w r)))) (Err UnknownStation))
      go true e true f = let y = g.settles w r (home true e) in either (m.opened w) refl y.0 y.1 y.2
      go true e false f = inr (home true e, sym (g.reaches w r (home true e)) ∙ f, (m.place w r, refl))
      go false e u f = inl (home false e, refl)

  pub regular : (m : Meaning R) (x : R) → RegularFrom m x
  regular m x calls c w r =
      let n = m.stations in
      let h = was_filled x ∷ [] in
      goes_regular n (run (filled m x) h calls).1 (run (filled m x) h calls).0 (goes_run n calls (filled m x) h (goes_filled n m x [] refl)) c w r

-- two banks that one writer's cells do not tell apart
record Alike {R : Type 0} (w : ℕ) (a b : Meaning R) : Type 0 where
  count : a.stations ≡ b.stations
  open' : a.opened w ≡ b.opened w
  settles : (r : ℕ) → a.settled w r ≡ b.settled w r
  reaches : (r : ℕ) → a.reachable w r ≡ b.reachable w r
  places : (r : ℕ) → a.place w r ≡ b.place w r

module _ {R : Type 0} where
  read_alike : (a b : Meaning R) (w : ℕ) → Alike w a b → (c : Bool) (r : ℕ) → (read a c w r).0 ≡ (read b c w r).0
  read_alike a b w s c r =
      ap (λ n. on n (a.reachable w r) (a.opened w) (a.settled w r) (a.place w r)) s.count
      ∙ ap (λ u. on b.stations u (a.opened w) (a.settled w r) (a.place w r)) (s.reaches r)
      ∙ ap (λ o. on b.stations (b.reachable w r) o (a.settled w r) (a.place w r)) s.open'
      ∙ ap (λ x. on b.stations (b.reachable w r) (b.opened w) x (a.place w r)) (s.settles r)
      ∙ ap (on b.stations (b.reachable w r) (b.opened w) (b.settled w r)) (s.places r)
    where
      on : ℕ → Bool → Option (ℕ × R) → Option R → ℕ × ℕ × ℕ → Result R Refusal
      on n u o x p = cond (known n w r) (cond u (record_or_4 (chosen o r c x)) (Err (Unreachable p))) (Err UnknownStation)

  itself : (w : ℕ) (m : Meaning R) → Alike w m m
  itself w m = record { count = refl; open' = refl; settles = λ r. refl; reaches = λ r. refl; places = λ r. refl }

module _ {R : Type 0} (m : Meaning R) (v w : ℕ) (apart : w ≡ v → ⊥) where
  other : {Y : Type 0} (x y : Y) → cond (eqb w v) x y ≡ y
  other x y = cond-false (eqb w v) x y (ne_eqb w v apart)

  other_cell : {Y : Type 0} (k q : ℕ) (x y : Y) → cond (eqb w v && eqb k q) x y ≡ y
  other_cell k q x y = cond-false (eqb w v && eqb k q) x y (and_left (eqb w v) (eqb k q) (ne_eqb w v apart))

  alike_start : (r : ℕ) (x : R) → Alike w (start m v r x).1 m
  alike_start r x = go (known m.stations v r) (m.reachable v r) (m.opened v)
    where
      go : (k u : Bool) (o : Option (ℕ × R)) → Alike w (cond {A = Left (Meaning R)} k (cond u (start_at o m v r x) (Err (Unreachable (m.place v r)), m)) (Err UnknownStation, m)).1 m
      go true true None = record { count = refl; open' = other (Some (r, x)) (m.opened w); settles = λ k. refl; reaches = λ k. refl; places = λ k. refl }
      go true true (Some o) = itself w m
      go true false o = itself w m
      go false u o = itself w m

  alike_finish : Alike w (finish m v).1 m
  alike_finish = go (inside m.stations v) (m.opened v)
    where
      one : (o : ℕ × R) (u : Bool) → Alike w (cond {A = Left (Meaning R)} u (Ok tt, finished m v o.0 o.1) (Err (Unreachable (m.place v o.0)), m)).1 m
      one o true = record { count = refl; open' = other None (m.opened w); settles = λ k. other_cell k o.0 (Some o.1) (m.settled w k); reaches = λ k. refl; places = λ k. refl }
      one o false = itself w m

      go : (k : Bool) (o : Option (ℕ × R)) → Alike w (cond {A = Left (Meaning R)} k (finish_at o m v) (Err UnknownStation, m)).1 m
      go true None = itself w m
      go true (Some o) = one o (m.reachable v o.0)
      go false o = itself w m

  alike_mark : (r : ℕ) (b : Bool) → Alike w (mark m v r b).1 m
  alike_mark r b = go (known m.stations v r)
    where
      go : (k : Bool) → Alike w (cond {A = Left (Meaning R)} k (Ok tt, marked m v r b) (Err UnknownStation, m)).1 m
      go true = record { count = refl; open' = refl; settles = λ k. refl; reaches = λ k. other_cell k r b (m.reachable w k); places = λ k. refl }
      go false = itself w m

pub undisturbed : {R : Type 0} (m : Meaning R) → Undisturbed m
undisturbed m (fills x) v w e apart c r = let z : ◌≡◌ {A = ℕ} 0 1 = cc in absurd (omega arith)
undisturbed m (reads a q d) v w e apart c r = refl
undisturbed m (starts a q x) v w e apart c r = read_alike (start m a q x).1 m w (alike_start m a w (λ f. let g : a ≡ v = cc in apart (f ∙ g)) q x) c r
undisturbed m (finishes a) v w e apart c r = read_alike (finish m a).1 m w (alike_finish m a w (λ f. let g : a ≡ v = cc in apart (f ∙ g))) c r
undisturbed m (marks a q b) v w e apart c r = read_alike (mark m a q b).1 m w (alike_mark m a w (λ f. let g : a ≡ v = cc in apart (f ∙ g)) q b) c r
