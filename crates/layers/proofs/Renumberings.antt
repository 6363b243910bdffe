-- Lemmas on renumbered banks. Assumes nothing.
use Rattle.std.proofs.Common.{◌≡◌, ℕ, ◌≤◌, Bool, true, false, cond, eqb, leb, Result, sym, refl, ap, ◌∙◌, rules}
use Rattle.std.proofs.lemmas.Bool.{leb-true}
use Rattle.banks.proofs.Shared.{Left}
use Rattle.policy.specs.declared.refusal.Refusal.{Refusal}
use Rattle.banks.specs.Meanings.{inside, Meaning, read, start, mark}
use Rattle.layers.specs.Layers.{deepened, renumbered}
use Rattle.layers.specs.Numberings.{number_at, position_at}
use Rattle.layers.specs.Renumberings.{fitting}
use Rattle.layers.specs.declared.permutation.Permutation.{Permutation}
use Rattle.layers.proofs.Layers.{eqb_same, read_laid, start_laid, mark_laid}
use Rattle.layers.proofs.Permuting.{Renumbers, renumbers}

-- a bank that means b, under the numbers p, with q back: every cell lies in it
module _ {R : Type 0} {p q : ℕ → ℕ} (b : Meaning R) (s : Renumbers b.stations p q) where
  -- what comes up from the bank below
  abbrev pub up : {X : Type 0} → Result X Refusal × Meaning R → Result X Refusal × Meaning R
  up z = (deepened z.0, renumbered p q z.1)

  read_above : (c : Bool) (w r : ℕ) → read (renumbered p q b) c w r ≡ up (read b c (p w) (p r))
  read_above c w r = read_laid (λ v. true) p q b b s c w r refl

  start_above : (w r : ℕ) (x : R) → start (renumbered p q b) w r x ≡ up (start b (p w) (p r) x)
  start_above w r x = start_laid (λ v. true) p q b b s w r x refl

  mark_above : (w r : ℕ) (k : Bool) → mark (renumbered p q b) w r k ≡ up (mark b (p w) (p r) k)
  mark_above w r k = mark_laid (λ v. true) p q b b s w r k refl

-- the numbers of a permutation, and its positions, for a bank of n stations
abbrev pub number_for : Permutation → ℕ → ℕ → ℕ
number_for p n = fitting p.size n (number_at p)

abbrev pub position_for : Permutation → ℕ → ℕ → ℕ
position_for p n = fitting p.size n (position_at p)

-- a permutation and its way back renumber every bank
permutation_renumbers : (p : Permutation) (n : ℕ) → Renumbers n (number_for p n) (position_for p n)
unfolding fitting
permutation_renumbers p n = go (leb p.size n) (leb-true p.size n)
  where
    go : (t : Bool) → (t ≡ true → p.size ≤ n) → Renumbers n (λ x. cond t (number_at p x) x) (λ x. cond t (position_at p x) x)
    go true few = renumbers n p.size p.numbers p.positions (few refl) p.there p.back
    go false few = record { back = λ x. refl; forth = λ x. refl; stays = λ x. refl }

-- what the attributes in src name
pub number_inside : (p : Permutation) (n x : ℕ) → inside n (number_for p n x) ≡ inside n x
number_inside p n x = (permutation_renumbers p n).stays x

pub number_of_position : (p : Permutation) (n x : ℕ) → number_for p n (position_for p n x) ≡ x
number_of_position p n x = (permutation_renumbers p n).forth x

pub same_number : (p : Permutation) (n v w : ℕ) → eqb (number_for p n v) (number_for p n w) ≡ eqb v w
same_number p n = eqb_same (permutation_renumbers p n)

-- a bank, seen through a permutation
abbrev seen : {R : Type 0} → Permutation → Meaning R → Meaning R
seen p m = renumbered (number_for p m.stations) (position_for p m.stations) m

-- A bank that means m, seen through p. A call g is made below at i, which is the number there for the layer's call: y is
-- what the bank answers and leaves, a that answer one layer deeper, and f what the layer answers and leaves.
module _ {R : Type 0} (p : Permutation) (m : Meaning R) where
  abbrev there : ℕ → ℕ
  there = number_for p m.stations

  s : Renumbers m.stations there (position_for p m.stations)
  s = permutation_renumbers p m.stations

  called : {X I : Type 0} (g : I → Result X Refusal × Meaning R) {i j : I} {f : Result X Refusal × Meaning R} → (g j).1.stations ≡ m.stations → f ≡ up m s (g j)
      → i ≡ j → {a : Result X Refusal} {y : Result X Refusal × Meaning R} → a ≡ deepened y.0 → y ≡ g i → ◌≡◌ {A = Result X Refusal × Meaning R} (a, seen p y.1) f
  called g {i} {j} same law at {a} {y} deep e =
      ap (λ b. (b, seen p y.1)) deep
      ∙ ap (λ z. (deepened z.0, seen p z.1)) (e ∙ ap g at)
      ∙ ap (λ n. (deepened (g j).0, renumbered (number_for p n) (position_for p n) (g j).1)) same
      ∙ sym law

  pub read_through : (k : ℕ → ℕ → Bool) (w r : ℕ) {i : ℕ × ℕ} → i ≡ (there w, there r) → {a : Result R Refusal} {y : Result R Refusal × Meaning R} → a ≡ deepened y.0 → y ≡ read m (k i.0 i.1) i.0 i.1 → (a, seen p y.1) ≡ read (seen p m) (k (there w) (there r)) w r
  read_through k w r = called (λ (i : ℕ × ℕ). read m (k i.0 i.1) i.0 i.1) refl (read_above m s (k (there w) (there r)) w r)

  pub start_through : (w r : ℕ) (x : R) {i : ℕ × ℕ} → i ≡ (there w, there r) → {a : Result (Unit {0}) Refusal} {y : Left (Meaning R)} → a ≡ deepened y.0 → y ≡ start m i.0 i.1 x → (a, seen p y.1) ≡ start (seen p m) w r x
  start_through w r x = called (λ (i : ℕ × ℕ). start m i.0 i.1 x) (search rules) (start_above m s w r x)

  pub mark_through : (w r : ℕ) (k : Bool) {i : ℕ × ℕ} → i ≡ (there w, there r) → {a : Result (Unit {0}) Refusal} {y : Left (Meaning R)} → a ≡ deepened y.0 → y ≡ mark m i.0 i.1 k → (a, seen p y.1) ≡ mark (seen p m) w r k
  mark_through w r k = called (λ (i : ℕ × ℕ). mark m i.0 i.1 k) (search rules) (mark_above m s w r k)
