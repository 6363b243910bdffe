-- Lemmas on banks at the bottom of a pile. Assumes nothing.
use Rattle.std.proofs.Common.{◌≡◌, ℕ, ◌≤◌, Bool, true, false, cond, ◌&&◌, eqb, leb, List, ◌++◌, length, take, drop, set, Some, None, Ok, Err, Option, sym, refl, ap, ◌∙◌, arith}
use Rattle.banks.proofs.Shared.{same_meaning}
use Rattle.std.specs.Option.{option_map}
use Rattle.std.proofs.lemmas.Grind.{common_steps}
use Rattle.std.proofs.lemmas.Bool.{cond-true, cond-false, eqb-true, eqb-false, le-leb}
use Rattle.policy.specs.declared.refusal.Refusal.TheVariants.{StationCount, TableSize}
use Rattle.banks.specs.Meanings.{Meaning, inside, known, at_cell, started, finished}
use Rattle.table_banks.specs.Notes.{Noted, fresh, noted_new, with_reader}
use Rattle.table_banks.specs.Bottoms.{bottom, open_record, filling, spare, Made, making}
use Rattle.table_banks.proofs.Placing.{known_other}

-- the same record in a cell, or no cell
in_cell : {X : Type 0} (n w r : ℕ) (x y z : X) → (known n w r ≡ true → x ≡ y) → cond (known n w r) x z ≡ cond (known n w r) y z
in_cell n w r x y z same = go (known n w r) same
  where
    go : (t : Bool) → (t ≡ true → x ≡ y) → cond t x z ≡ cond t y z
    go true e = e refl
    go false e = refl

module _ {R : Type 0} (s o : ℕ → ℕ → Option R) where
  pub fresh_bottom : (n : ℕ) (x : R) → ((w r : ℕ) → known n w r ≡ true → s w r ≡ Some x) → bottom (fresh n) s o ≡ filling n x
  fresh_bottom n x all =
      same_meaning (bottom (fresh n) s o) (filling n x) refl
      (λ w r. in_cell n w r (s w r) (Some x) None (all w r))
      (λ w. refl) (λ w r. refl) (λ w r. refl)

-- what is noted open is a cell
abbrev pub Homes : Noted → Type 0
Homes k = (w r : ℕ) → k.reader w ≡ Some r → known k.stations w r ≡ true

-- notes k over the records s and o, and the records t and p in their place once the writer w's have changed
module _ {R : Type 0} (k : Noted) (homes : Homes k) (s o t p : ℕ → ℕ → Option R) (w : ℕ) (others : (v q : ℕ) → known k.stations v q ≡ true → (v ≡ w → ⊥) → p v q ≡ o v q) where
  other_row : (v : ℕ) → (v ≡ w → ⊥) → open_record (k.reader v) (p v) ≡ open_record (k.reader v) (o v)
  other_row v apart = go (k.reader v) refl
    where
      go : (i : Option ℕ) → k.reader v ≡ i → open_record i (p v) ≡ open_record i (o v)
      go None e = refl
      go (Some q) e = ap (option_map (λ y. (q, y))) (others v q (homes v q e) apart)

  -- the record x of cell (w, r) is the open one
  pub bottom_started : (r : ℕ) (x : R) → ((v q : ℕ) → known k.stations v q ≡ true → t v q ≡ s v q) → p w r ≡ Some x → bottom (with_reader k w (Some r)) t p ≡ started (bottom k s o) w r x
  bottom_started r x same new =
      same_meaning (bottom (with_reader k w (Some r)) t p) (started (bottom k s o) w r x) refl
      (λ v q. in_cell k.stations v q (t v q) (s v q) None (same v q)) (λ v. row v (eqb v w) refl) (λ v q. refl) (λ v q. refl)
    where
      row : (v : ℕ) (b : Bool) → eqb v w ≡ b → open_record (cond b (Some r) (k.reader v)) (p v) ≡ cond b (Some (r, x)) (open_record (k.reader v) (o v))
      row v true e = ap (λ u. option_map (λ y. (r, y)) (p u r)) (eqb-true v w e) ∙ ap (option_map (λ y. (r, y))) new
      row v false e = other_row v (eqb-false v w e)

  -- the record x of cell (w, r) is the settled one, and w has nothing open
  pub bottom_finished : (r : ℕ) (x : R) → known k.stations w r ≡ true → ((v q : ℕ) → known k.stations v q ≡ true → t v q ≡ at_cell s w r (Some x) v q) → bottom (with_reader k w None) t p ≡ finished (bottom k s o) w r x
  bottom_finished r x home settles =
      same_meaning (bottom (with_reader k w None) t p) (finished (bottom k s o) w r x) refl
      (λ v q. column v q (known k.stations v q) refl) (λ v. row v (eqb v w) refl) (λ v q. refl) (λ v q. refl)
    where
      row : (v : ℕ) (b : Bool) → eqb v w ≡ b → open_record (cond b None (k.reader v)) (p v) ≡ cond b None (open_record (k.reader v) (o v))
      row v true e = refl
      row v false e = other_row v (eqb-false v w e)

      column : (v q : ℕ) (b : Bool) → known k.stations v q ≡ b → cond b (t v q) None ≡ cond (eqb v w && eqb q r) (Some x) (cond b (s v q) None)
      column v q true e = settles v q e
      column v q false e = sym (cond-false (eqb v w && eqb q r) (Some x) None (known_other k.stations v q w r e home))

-- what notes and lines mean, with a line y written at a place, once both are known by other names
pub written : {R L : Type 0} (on : Noted → List L → Meaning R) (xs : List L) (y : L) {i j : ℕ} {k m : Noted} {z : Meaning R} → j ≡ i → m ≡ k → on k (set xs i y) ≡ z → on m (set xs j y) ≡ z
written on xs y {j = j} {k = k} {z = z} at noted law = ap (λ m. on m (set xs j y)) noted ∙ ap (λ j. on k (set xs j y)) at ∙ law

-- what notes and lines mean once the lines ws are written over the table xs
pub refilled : {R L : Type 0} (on : Noted → List L → Meaning R) (xs : List L) {l : ℕ} {ws : List L} {k m : Noted} {z : Meaning R} → l ≡ length xs → length ws ≡ length xs → m ≡ k → on k ws ≡ z → on m (take l (ws ++ drop (length ws) xs)) ≡ z
refilled on xs {l} {ws} long same noted law = ap (on _) whole ∙ ap (λ k. on k ws) noted ∙ law
  where
    whole : take l (ws ++ drop (length ws) xs) ≡ ws
    whole = grind (arith, common_steps)

-- a bank of n stations that need f n lines, made over the lines xs, with the notes k
pub made_over : {R L : Type 0} (n : ℕ) (f : ℕ → ℕ) (xs : List L) (x : R) (k : Noted) (m : Meaning R) (ys : List L) → Ok k ≡ noted_new n → f n ≤ length xs → m ≡ filling k.stations x → ys ≡ spare (f k.stations) xs → Ok (m, ys) ≡ making n (f n) xs x
made_over {R} {L} n f xs x k m ys new enough means rest = go (inside 16 n) new
  where
    go : (b : Bool) → Ok k ≡ cond b (Ok (fresh n)) (Err StationCount) → ◌≡◌ {A = Made R L} (Ok (m, ys)) (cond b (cond (leb (f n) (length xs)) (Ok (filling n x, spare (f n) xs)) (Err (TableSize, xs))) (Err (StationCount, xs)))
    go true e =
        let same : k ≡ fresh n = cc in
        ap (λ m. Ok (m, ys)) (means ∙ ap (λ k. filling k.stations x) same)
        ∙ ap (λ ys. Ok (filling n x, ys)) (rest ∙ ap (λ k. spare (f k.stations) xs) same)
        ∙ sym (cond-true (leb (f n) (length xs)) _ _ (le-leb (f n) (length xs) enough))
    go false e = let z : ◌≡◌ {A = ℕ} 0 1 = cc in absurd (omega arith)
