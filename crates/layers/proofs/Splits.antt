-- Calls of two banks split, by the calls of the bank that has the writer. Assumes nothing.
use Rattle.std.proofs.Common.{◌≡◌, ℕ, true, false, Result, ap, ◌∙◌, rules}
use Rattle.banks.proofs.Shared.{Left}
use Rattle.policy.specs.declared.refusal.Refusal.{Refusal}
use Rattle.banks.specs.Meanings.{Meaning, start, finish}
use Rattle.layers.specs.Layers.{deepened, in_first, split_meaning}

module _ {R : Type 0} (k : ℕ) (a b : Meaning R) where
  pub start_first : (w r : ℕ) (x : R) → in_first k a b w ≡ true → ◌≡◌ {A = Left (Meaning R)} (deepened (start a w r x).0, split_meaning k (start a w r x).1 b) (start (split_meaning k a b) w r x)
  start_first w r x lies = search rules

  pub start_second : (w r : ℕ) (x : R) → in_first k a b w ≡ false → ◌≡◌ {A = Left (Meaning R)} (deepened (start b w r x).0, split_meaning k a (start b w r x).1) (start (split_meaning k a b) w r x)
  start_second w r x lies = search rules

  pub finish_first : (w : ℕ) → in_first k a b w ≡ true → ◌≡◌ {A = Left (Meaning R)} (deepened (finish a w).0, split_meaning k (finish a w).1 b) (finish (split_meaning k a b) w)
  finish_first w lies = search rules

  -- z is what a bank answers and leaves, which is f, and y that answer one layer deeper
  pub in_the_first : {y : Result (Unit {0}) Refusal} {z f : Left (Meaning R)} → y ≡ deepened z.0 → z ≡ f → ◌≡◌ {A = Left (Meaning R)} (y, split_meaning k z.1 b) (deepened f.0, split_meaning k f.1 b)
  in_the_first {y} {z} deep e = ap (λ v. (v, split_meaning k z.1 b)) deep ∙ ap (λ (u : Left (Meaning R)). (deepened u.0, split_meaning k u.1 b)) e

  pub in_the_second : {y : Result (Unit {0}) Refusal} {z f : Left (Meaning R)} → y ≡ deepened z.0 → z ≡ f → ◌≡◌ {A = Left (Meaning R)} (y, split_meaning k a z.1) (deepened f.0, split_meaning k a f.1)
  in_the_second {y} {z} deep e = ap (λ v. (v, split_meaning k a z.1)) deep ∙ ap (λ (u : Left (Meaning R)). (deepened u.0, split_meaning k a u.1)) e
