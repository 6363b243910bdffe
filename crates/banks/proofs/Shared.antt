-- Lemmas on meanings that banks and layers share. Assumes nothing.
use Rattle.std.proofs.Common.{◌≡◌, ℕ, ◌≤◌, Bool, true, false, cond, leb, Result, refl}
use Rattle.std.proofs.lemmas.Bool.{and_parts, leb-true}
use Rattle.policy.specs.declared.refusal.Refusal.{Refusal}
use Rattle.banks.specs.Meanings.{Meaning, inside}

module _ {R : Type 0} where
  -- a path between two meanings, part by part
  pub same_meaning : (a b : Meaning R) → a.stations ≡ b.stations → ((w r : ℕ) → a.settled w r ≡ b.settled w r) → ((w : ℕ) → a.opened w ≡ b.opened w) → ((w r : ℕ) → a.reachable w r ≡ b.reachable w r) → ((w r : ℕ) → a.place w r ≡ b.place w r) → a ≡ b
  same_meaning a b p q s t u =
      λ i. record {
        stations = p i;
        settled = λ w r. q w r i;
        opened = λ w. s w i;
        reachable = λ w r. t w r i;
        place = λ w r. u w r i;
      }

-- the answer to a call without a record, with what it leaves
abbrev pub Left : Type 0 → Type 0
Left X = Result (Unit {0}) Refusal × X

pub inside_bounds : (n w : ℕ) → inside n w ≡ true → (1 ≤ w) × (w ≤ n)
inside_bounds n w h = let p = and_parts (leb 1 w) (leb w n) h in (leb-true 1 w p.0, leb-true w n p.1)

pub cond_map : {X Y : Type 0} (f : X → Y) (t : Bool) (x y : X) → f (cond t x y) ≡ cond t (f x) (f y)
cond_map f true x y = refl
cond_map f false x y = refl

pub cond_same : {X : Type 0} (b : Bool) (x : X) → cond b x x ≡ x
cond_same true x = refl
cond_same false x = refl
