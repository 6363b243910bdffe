-- Lemmas on the places of cells, and on lists with one element set. Assumes nothing.
use Rattle.std.proofs.Common.{◌≡◌, ℕ, zero, suc, ◌-◌, ◌*◌, ◌/◌, ◌%◌, ◌<◌, ◌≤◌, Bool, true, false, cond, ◌&&◌, eqb, List, [], ◌∷◌, length, get_or, set, Some, sym, refl, ap, ◌∙◌, le_refl, mul_comm, arith, get_or-set_other, get_or-set_same}
use Rattle.banks.proofs.Shared.{inside_bounds}
use Rattle.std.specs.List.{slice_get}
use Rattle.std.proofs.lemmas.Bool.{and_parts, eqb-true, eq-eqb, cond_both, and_from, eqb-false, ne_eqb, both_ways}
use Rattle.std.proofs.lemmas.Nat.{mul-add-lt, div-mul-add, mod-mul-add}
use Rattle.banks.specs.Meanings.{inside, known}
use Rattle.table_banks.specs.Cells.{cell}

-- both numbers are stations of n
abbrev pub Known : ℕ → ℕ → ℕ → Type 0
Known n w r = (1 ≤ w) × (w ≤ n) × (1 ≤ r) × (r ≤ n)

pub known_bounds : (n w r : ℕ) → known n w r ≡ true → Known n w r
known_bounds n w r h =
    let p = and_parts (inside n w) (inside n r) h in
    let a = inside_bounds n w p.0 in
    let b = inside_bounds n r p.1 in
    (a.0, a.1, b.0, b.1)

pub cell_below : (n k w r : ℕ) → Known n w r → n ≤ k → cell k w r < n * k
cell_below n k w r h more =
    let a = mul-add-lt (w - 1) k (r - 1) n (omega arith) (omega arith) in
    omega (arith, a, mul_comm n k)

-- cells of one place are one cell
pub cell_one : (n k v q w r : ℕ) → Known n v q → Known n w r → n ≤ k → cell k v q ≡ cell k w r → (v ≡ w) × (q ≡ r)
cell_one n k v q w r h g more e =
    let rows : v - 1 ≡ w - 1 = sym (div-mul-add (v - 1) k (q - 1) (omega arith)) ∙ ap (λ x. x / k) e ∙ div-mul-add (w - 1) k (r - 1) (omega arith) in
    let columns : q - 1 ≡ r - 1 = sym (mod-mul-add (v - 1) k (q - 1) (omega arith)) ∙ ap (λ x. x % k) e ∙ mod-mul-add (w - 1) k (r - 1) (omega arith) in
    (omega arith, omega arith)

pub cell_test : (n k v q w r : ℕ) → Known n v q → Known n w r → n ≤ k → eqb (cell k v q) (cell k w r) ≡ (eqb v w && eqb q r)
cell_test n k v q w r h g more = go (eqb v w && eqb q r) refl
  where
    go : (t : Bool) → (eqb v w && eqb q r) ≡ t → eqb (cell k v q) (cell k w r) ≡ t
    go true e =
        let p = and_parts (eqb v w) (eqb q r) e in
        let a = eqb-true v w p.0 in
        let b = eqb-true q r p.1 in
        eq-eqb (cell k v q) (cell k w r) (ap (λ x. cell k x q) a ∙ ap (cell k w) b)
    go false e =
        ne_eqb (cell k v q) (cell k w r) (λ same.
        let p = cell_one n k v q w r h g more same in
        both_ways (eqb v w && eqb q r) e (and_from (eqb v w) (eqb q r) (eq-eqb v w p.0) (eq-eqb q r p.1)))

pub known_other : (n v q w r : ℕ) → known n v q ≡ false → known n w r ≡ true → (eqb v w && eqb q r) ≡ false
known_other n v q w r e h = go (eqb v w && eqb q r) refl
  where
    go : (t : Bool) → (eqb v w && eqb q r) ≡ t → t ≡ false
    go true s =
        let p = and_parts (eqb v w) (eqb q r) s in
        absurd (both_ways (known n v q) e (ap (λ x. known n x q) (eqb-true v w p.0) ∙ ap (known n w) (eqb-true q r p.1) ∙ h))
    go false s = refl

pub get_d_set : {X : Type 0} (xs : List X) (i j : ℕ) (y d : X) → i < length xs → get_or (set xs i y) j d ≡ cond (eqb j i) y (get_or xs j d)
get_d_set xs i j y d h =
    cond_both (eqb j i) y (get_or xs j d) (λ x. get_or (set xs i y) j d ≡ x)
    (λ e. ap (λ k. get_or (set xs i y) k d) (eqb-true j i e) ∙ get_or-set_same xs i y d h)
    (λ e. get_or-set_other xs i j y d (eqb-false j i e))

nth_set_same : {X : Type 0} (xs : List X) (i : ℕ) (y : X) → i < length xs → slice_get (set xs i y) i ≡ Some y
nth_set_same [] i y h = absurd (omega arith)
nth_set_same (x ∷ xs) zero y h = refl
nth_set_same (x ∷ xs) (suc i) y h = nth_set_same xs i y (omega arith)

nth_set_other : {X : Type 0} (xs : List X) (i j : ℕ) (y : X) → (j ≡ i → ⊥) → slice_get (set xs i y) j ≡ slice_get xs j
nth_set_other [] i j y h = refl
nth_set_other (x ∷ xs) zero zero y h = absurd (h refl)
nth_set_other (x ∷ xs) zero (suc j) y h = refl
nth_set_other (x ∷ xs) (suc i) zero y h = refl
nth_set_other (x ∷ xs) (suc i) (suc j) y h = nth_set_other xs i j y (λ e. h (ap suc e))

pub nth_set : {X : Type 0} (xs : List X) (i j : ℕ) (y : X) → i < length xs → slice_get (set xs i y) j ≡ cond (eqb j i) (Some y) (slice_get xs j)
nth_set xs i j y h =
    cond_both (eqb j i) (Some y) (slice_get xs j) (λ x. slice_get (set xs i y) j ≡ x)
    (λ e. ap (slice_get (set xs i y)) (eqb-true j i e) ∙ nth_set_same xs i y h)
    (λ e. nth_set_other xs i j y (eqb-false j i e))

pub cell_within : (n w r : ℕ) → known n w r ≡ true → cell n w r < n * n
cell_within n w r h = cell_below n n w r (known_bounds n w r h) (le_refl n)

-- a list with room for the cells of n stations, at n cells to a writer
pub nth_cell : {X : Type 0} (n : ℕ) (xs : List X) → n * n ≤ length xs → (w r : ℕ) (y : X) → known n w r ≡ true → (v q : ℕ) → known n v q ≡ true → slice_get (set xs (cell n w r) y) (cell n v q) ≡ cond (eqb v w && eqb q r) (Some y) (slice_get xs (cell n v q))
nth_cell n xs room w r y h v q g =
    let a = cell_within n w r h in
    nth_set xs (cell n w r) (cell n v q) y (omega arith)
    ∙ ap (λ t. cond t (Some y) (slice_get xs (cell n v q))) (cell_test n n v q w r (known_bounds n v q g) (known_bounds n w r h) (le_refl n))
