-- Lemmas on a bank's notes. Assumes nothing.
use Rattle.std.proofs.Common.{◌≡◌, ℕ, zero, suc, ◌-◌, ◌<◌, ◌≤◌, Bool, true, false, cond, ◌&&◌, eqb, leb, ◌⊎◌, List, [], ◌∷◌, length, get_or, set, replicate, Some, None, Option, sym, refl, ap, ◌∙◌, inl, inr, ⊎_elim, arith, get_or-set_other, get_or-set_same}
use Rattle.banks.proofs.Shared.{cond_map, cond_same, inside_bounds}
use Rattle.std.proofs.Math.Bool.{and-true}
use Rattle.std.proofs.lemmas.Bool.{le-leb, and_from, cond_both, cond-true, cond-false, eqb-true, eqb-false}
use Rattle.banks.specs.Meanings.{inside, known}
use Rattle.table_banks.specs.Cells.{cell}
use Rattle.banks.specs.Marks.{is_up}
use Rattle.table_banks.specs.Notes.{Noted, Homed, noting, seen, fresh, with_reader, with_mark}
use Rattle.table_banks.specs.declared.notes.Notes.{Notes}
use Rattle.table_banks.proofs.Placing.{known_bounds, cell_below, cell_test, get_d_set, known_other}
use Rattle.banks.specs.declared.bank.Mark.{Mark}
use Rattle.banks.specs.declared.bank.Mark.TheVariants.{Up}

-- a path between two of them, part by part
pub same_noted : (a b : Noted) → a.stations ≡ b.stations → ((w : ℕ) → a.reader w ≡ b.reader w) → ((w r : ℕ) → a.up w r ≡ b.up w r) → a ≡ b
same_noted a b p q s = λ i. record { stations = p i; reader = λ w. q w i; up = λ w r. s w r i }

get_or_alike : {X : Type 0} (n i : ℕ) (x : X) → get_or (replicate n x) i x ≡ x
get_or_alike zero i x = refl
get_or_alike (suc n) zero x = refl
get_or_alike (suc n) (suc i) x = get_or_alike n i x

pub fresh_noting : (n : ℕ) → noting n (replicate 16 None) (replicate 256 Up) ≡ fresh n
fresh_noting n =
    same_noted (noting n (replicate 16 None) (replicate 256 Up)) (fresh n) refl
    (λ w. ap (λ o. cond (inside n w) o None) (get_or_alike 16 (w - 1) None) ∙ cond_same (inside n w) None)
    (λ w r. ap (λ k. known n w r && is_up k) (get_or_alike 256 (cell 16 w r) Up) ∙ and-true (known n w r))

-- a set list holds the new element or what it held
set_cases : {X : Type 0} (xs : List X) (k i : ℕ) (v d : X) → (get_or (set xs k v) i d ≡ v) ⊎ (get_or (set xs k v) i d ≡ get_or xs i d)
set_cases [] k i v d = inr refl
set_cases (x ∷ xs) zero zero v d = inl refl
set_cases (x ∷ xs) zero (suc i) v d = inr refl
set_cases (x ∷ xs) (suc k) zero v d = inr refl
set_cases (x ∷ xs) (suc k) (suc i) v d = set_cases xs k i v d

-- every reader that a list notes is a station
abbrev pub Within : ℕ → List (Option ℕ) → Type 0
Within n xs = (i r : ℕ) → get_or xs i None ≡ Some r → (1 ≤ r) × (r ≤ n)

pub within_set : (n : ℕ) (xs : List (Option ℕ)) (k : ℕ) (o : Option ℕ) → Within n xs → ((r : ℕ) → o ≡ Some r → (1 ≤ r) × (r ≤ n)) → Within n (set xs k o)
within_set n xs k o all new i r e = ⊎_elim (λ p. new r (sym p ∙ e)) (λ p. all i r (sym p ∙ e)) (set_cases xs k i o None)

pub noting_reader : (n : ℕ) (xs : List (Option ℕ)) (ms : List Mark) (w : ℕ) (o : Option ℕ) → inside n w ≡ true → n ≤ length xs → noting n (set xs (w - 1) o) ms ≡ with_reader (noting n xs ms) w o
noting_reader n xs ms w o h room =
    same_noted (noting n (set xs (w - 1) o) ms) (with_reader (noting n xs ms) w o) refl at (λ v q. refl)
  where
    in_range : (1 ≤ w) × (w ≤ n)
    in_range = inside_bounds n w h

    here : (v : ℕ) → v ≡ w → cond (inside n v) (get_or (set xs (w - 1) o) (v - 1) None) None ≡ o
    here v e = let b = in_range in rw e (cond-true (inside n w) _ _ h ∙ get_or-set_same xs (w - 1) o None (omega arith))

    there : (v : ℕ) → (v ≡ w → ⊥) → (t : Bool) → inside n v ≡ t → cond t (get_or (set xs (w - 1) o) (v - 1) None) None ≡ cond t (get_or xs (v - 1) None) None
    there v apart true e = let a = in_range in let b = inside_bounds n v e in get_or-set_other xs (w - 1) (v - 1) o None (λ z. apart (omega arith))
    there v apart false e = refl

    at : (v : ℕ) → cond (inside n v) (get_or (set xs (w - 1) o) (v - 1) None) None ≡ cond (eqb v w) o (cond (inside n v) (get_or xs (v - 1) None) None)
    at v =
        cond_both (eqb v w) o (cond (inside n v) (get_or xs (v - 1) None) None)
        (λ x. cond (inside n v) (get_or (set xs (w - 1) o) (v - 1) None) None ≡ x)
        (λ e. here v (eqb-true v w e))
        (λ e. there v (eqb-false v w e) (inside n v) refl)

pub noting_mark : (n : ℕ) (xs : List (Option ℕ)) (ms : List Mark) (w r : ℕ) (m : Mark) → known n w r ≡ true → n ≤ 16 → 256 ≤ length ms → noting n xs (set ms (cell 16 w r) m) ≡ with_mark (noting n xs ms) w r (is_up m)
noting_mark n xs ms w r m h few room =
    same_noted (noting n xs (set ms (cell 16 w r) m)) (with_mark (noting n xs ms) w r (is_up m)) refl (λ v. refl) at
  where
    below : cell 16 w r < length ms
    below = let a = cell_below n 16 w r (known_bounds n w r h) few in omega arith

    inner : (v q : ℕ) (t : Bool) → known n v q ≡ t → t && is_up (get_or (set ms (cell 16 w r) m) (cell 16 v q) Up) ≡ cond (eqb v w && eqb q r) (is_up m) (t && is_up (get_or ms (cell 16 v q) Up))
    inner v q true e =
        ap is_up (get_d_set ms (cell 16 w r) (cell 16 v q) m Up below)
        ∙ ap (λ t. is_up (cond t m (get_or ms (cell 16 v q) Up))) (cell_test n 16 v q w r (known_bounds n v q e) (known_bounds n w r h) few)
        ∙ cond_map is_up (eqb v w && eqb q r) m (get_or ms (cell 16 v q) Up)
    inner v q false e = sym (cond-false (eqb v w && eqb q r) (is_up m) false (known_other n v q w r e h))

    at : (v q : ℕ) → known n v q && is_up (get_or (set ms (cell 16 w r) m) (cell 16 v q) Up) ≡ cond (eqb v w && eqb q r) (is_up m) (known n v q && is_up (get_or ms (cell 16 v q) Up))
    at v q = inner v q (known n v q) refl

-- a cell that is noted open is a cell
pub noted_home : (k : Notes) (w r : ℕ) → (seen k).reader w ≡ Some r → known k.count w r ≡ true
noted_home k w r = go (inside k.count w) refl
  where
    go : (t : Bool) → inside k.count w ≡ t → cond t (get_or k.readers (w - 1) None) None ≡ Some r → known k.count w r ≡ true
    go true e o = let b = k.within (w - 1) r o in and_from (inside k.count w) (inside k.count r) e (and_from (leb 1 r) (leb r k.count) (le-leb 1 r b.0) (le-leb r k.count b.1))
    go false e o = let z : ◌≡◌ {A = ℕ} 0 1 = cc in absurd (omega arith)

pub homed_bounds : (n w : ℕ) (o : Option ℕ) → Homed n w o → (r : ℕ) → o ≡ Some r → (1 ≤ r) × (r ≤ n)
homed_bounds n w None h r e = let z : ◌≡◌ {A = ℕ} 0 1 = cc in absurd (omega arith)
homed_bounds n w (Some q) h r e =
    let b = known_bounds n w q h in
    let same : q ≡ r = cc in
    (omega arith, omega arith)

pub homed_by : (n w : ℕ) (o : Option ℕ) → ((r : ℕ) → o ≡ Some r → known n w r ≡ true) → Homed n w o
homed_by n w None all = tt
homed_by n w (Some r) all = all r refl
