-- Lemmas on lists that renumber stations. Assumes nothing.
use Rattle.std.proofs.Common.{◌≡◌, ℕ, ◌+◌, ◌-◌, ◌<◌, ◌≤◌, Bool, cond, leb, ◌⊎◌, List, length, get_or, take, Decides, sym, refl, ap, ◌∙◌, inl, inr, ⊎_elim, arith, length-take}
use Rattle.banks.proofs.Shared.{inside_bounds}
use Rattle.std.proofs.lemmas.List.{get_or-take}
use Rattle.std.proofs.lemmas.Bool.{cases_eq, cond_both, cond-true, cond-false, false_from_ne_true, le-leb, leb-true}
use Rattle.std.proofs.lemmas.Bool.Decides.{Decides-and, Decides-or, Decides-not, Decides-eqb, Decides-below_and, Decides-below_or, Decides-like, nat_tests}
use Rattle.banks.specs.Meanings.{inside}
use Rattle.layers.specs.Permutations.{look, Pairs, Holds, Listed, listed, each, some}

decides_leb : (a b : ℕ) → Decides (leb a b) (a ≤ b)
decides_leb a b = (leb-true a b, le-leb a b)

each_decides : (f : ℕ → Bool) (P : ℕ → Type 0) → ((k : ℕ) → Decides (f k) (P k)) → (n : ℕ) → Decides (each n f) ((k : ℕ) → k < n → P k)
unfolding each
each_decides f P d n = Decides-below_and f P (λ m. each m f) d refl (λ _. refl) n

some_decides : (f : ℕ → Bool) (P : ℕ → Type 0) → ((k : ℕ) → Decides (f k) (P k)) → (n : ℕ) → Decides (some n f) ((k : ℕ) × (k < n) × P k)
unfolding some
some_decides f P d n = Decides-below_or f P (λ m. some m f) d refl (λ _. refl) n

-- what `listed` tests, part by part
abbrev Parts : ℕ → List ℕ → Type 0
Parts n xs =
    (n ≤ length xs)
    × (((i : ℕ) → i < n → (1 ≤ get_or xs i 0) × (get_or xs i 0 ≤ n))
    × (((v : ℕ) → v < n → (i : ℕ) × (i < n) × (get_or xs i 0 ≡ v + 1)) × ((i : ℕ) → i < n → (j : ℕ) → j < n → (j ≡ i) ⊎ (get_or xs j 0 ≡ get_or xs i 0 → ⊥))))

parts_decide : (n : ℕ) (xs : List ℕ) → Decides (listed n xs) (Parts n xs)
unfolding listed
parts_decide n xs = search (Decides-and, Decides-or, Decides-not, Decides-eqb, decides_leb, each_decides, some_decides) depth 20

-- the test decides what it says
pub listed_decides : (n : ℕ) (xs : List ℕ) → Decides (listed n xs) (Listed n xs)
listed_decides n xs =
    Decides-like (listed n xs)
    (λ h. record { long = h.0; ranged = h.1.0; all = h.1.1.0; once = λ i a j b e. ⊎_elim (λ z. z) (λ apart. absurd (apart e)) (h.1.1.1 i a j b) })
    (λ h. (h.long, (h.ranged, (h.all, λ i a j b. ⊎_elim (λ same. inl same) (λ apart. inr (λ e. apart (h.once i a j b e))) (cases_eq j i)))))
    (parts_decide n xs)

-- a list that passes, and one that does not
pub listed_true : {Y : Type 0} (n : ℕ) (xs : List ℕ) (x y : Y) → Listed n xs → cond (listed n xs) x y ≡ x
listed_true n xs x y h = cond-true (listed n xs) x y ((listed_decides n xs).1 h)

pub listed_false : {Y : Type 0} (n : ℕ) (xs : List ℕ) (x y : Y) → (Listed n xs → ⊥) → cond (listed n xs) x y ≡ y
listed_false n xs x y h = cond-false (listed n xs) x y (false_from_ne_true (listed n xs) (λ e. h ((listed_decides n xs).0 e)))

-- ys is the first n places of xs
pub record Front (n : ℕ) (xs ys : List ℕ) : Type 0 where
  pub long : length ys ≡ n
  pub same : (i : ℕ) → i < n → get_or ys i 0 ≡ get_or xs i 0

pub front : (n : ℕ) (xs ys : List ℕ) → n ≤ length xs → ys ≡ take n xs → Front n xs ys
front n xs ys fits e =
    record {
      long = ap length e ∙ length-take n xs ∙ omega arith;
      same = λ i lt. ap (λ zs. get_or zs i 0) e ∙ get_or-take n xs i 0 lt;
    }

module _ {n : ℕ} {xs ys : List ℕ} (f : Front n xs ys) where
  pub front_holds : Holds n xs → Holds (length ys) ys
  front_holds h v lt = let long = f.long in let p = h v (omega arith) in (p.0, omega arith, f.same p.0 p.1 ∙ p.2)

  pub front_pairs : (ps : List ℕ) → Pairs (length ys) ps ys → Pairs n ps xs
  front_pairs ps pairs v lt = let long = f.long in let p = pairs v (omega arith) in (p.0, omega arith, sym (f.same (get_or ps v 0 - 1) (omega arith)) ∙ p.2)

-- of a list with each number once the positions hold each number
pub holds_positions : (n : ℕ) (xs ps : List ℕ) → Pairs n ps xs → Listed n xs → Holds n ps
holds_positions n xs ps there l v lt =
    let p = l.ranged v lt in
    let i = get_or xs v 0 - 1 in
    let q = there i (omega arith) in
    let same : get_or ps i 0 - 1 ≡ v = l.once v lt (get_or ps i 0 - 1) (omega arith) (q.2 ∙ omega arith) in
    (i, omega arith, omega arith)

-- ps has the positions of a list's numbers, and ns those of the numbers in ps: then ns is the list again
pub record Found (n : ℕ) (xs ps ns : List ℕ) : Type 0 where
  pub there : Pairs n ps xs
  pub back : Pairs n ns ps

module _ {n : ℕ} {xs ps ns : List ℕ} (f : Found n xs ps ns) where
  again : (i : ℕ) → i < n → get_or ns i 0 ≡ get_or xs i 0
  again i lt =
      let p = f.back i lt in
      let q = f.there (get_or ns i 0 - 1) (omega arith) in
      grind arith

  pub again_look : look n ns ≡ look n xs
  again_look i x = cond_both (inside n x) (get_or ns (x - 1) 0) x (λ y. y ≡ look n xs x) (λ e. let b = inside_bounds n x e in let s = again (x - 1) (omega arith) in grind arith) (λ e. grind arith) i

  pub again_listed : n ≤ length xs → Listed n xs
  again_listed long =
      record {
        long = long;
        ranged = λ i h. let p = f.back i h in let e = again i h in (omega arith, omega arith);
        all = λ v h. let p = f.there v h in (get_or ps v 0 - 1, omega arith, p.2);
        once = λ i a j b e. let p = f.back i a in let q = f.back j b in let g = again i a in let h = again j b in grind arith;
      }

-- p renumbers the stations of n, and q goes back
pub record Renumbers (n : ℕ) (p q : ℕ → ℕ) : Type 0 where
  pub back : (x : ℕ) → q (p x) ≡ x
  pub forth : (x : ℕ) → p (q x) ≡ x
  pub stays : (x : ℕ) → inside n (p x) ≡ inside n x

-- a permutation of at most n numbers renumbers n stations
pub renumbers : (n k : ℕ) (xs ys : List ℕ) → k ≤ n → Pairs k xs ys → Pairs k ys xs → Renumbers n (look k xs) (look k ys)
renumbers n k xs ys few there back =
    record { back = return k xs ys there; forth = return k ys xs back; stays = stay }
  where
    return : (k : ℕ) (xs ys : List ℕ) → Pairs k xs ys → (x : ℕ) → look k ys (look k xs x) ≡ x
    return k xs ys pairs x = let p = pairs (x - 1) in grind (arith, nat_tests)

    stay : (x : ℕ) → inside n (look k xs x) ≡ inside n x
    stay x = let p = there (x - 1) in grind (arith, nat_tests)
