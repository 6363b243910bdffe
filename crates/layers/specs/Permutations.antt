-- Lists that renumber stations. Assumes nothing.
--     look n xs x         the number at position x of xs, for a position from 1 to n; any other x is its own
--     Stands n xs v p     the number v stands at position p, from 1, among the first n places of xs
--     Pairs n xs ys       every position of xs up to n holds a number up to n, at which ys has that position
--     Holds n xs          among the first n places of xs stands every number from 1 to n
--     Listed n xs         the first n places of xs hold the numbers 1 to n, each once
--     listed n xs         the same as a test
use Rattle.std.specs.Prelude.{◌≡◌, ℕ, zero, suc, ◌+◌, ◌-◌, ◌<◌, ◌≤◌, Bool, true, false, cond, not, ◌&&◌, ◌||◌, List, length, ◌==◌, nat_eq, nat_le, slice_index}
use Rattle.banks.specs.Meanings.{inside}

abbrev pub look : ℕ → List ℕ → ℕ → ℕ
look n xs x = cond (inside n x) (slice_index xs (x - 1)) x

abbrev pub Stands : ℕ → List ℕ → ℕ → ℕ → Type 0
Stands n xs v p = (1 ≤ p) × (p ≤ n) × (slice_index xs (p - 1) ≡ v)

abbrev pub Pairs : ℕ → List ℕ → List ℕ → Type 0
Pairs n xs ys = (i : ℕ) → i < n → Stands n ys (i + 1) (slice_index xs i)

abbrev pub Holds : ℕ → List ℕ → Type 0
Holds n xs = (v : ℕ) → v < n → (i : ℕ) × (i < n) × (slice_index xs i ≡ v + 1)

pub record Listed (n : ℕ) (xs : List ℕ) : Type 0 where
  pub long : n ≤ length xs
  pub ranged : (i : ℕ) → i < n → (1 ≤ slice_index xs i) × (slice_index xs i ≤ n)
  pub all : Holds n xs
  pub once : (i : ℕ) → i < n → (j : ℕ) → j < n → slice_index xs j ≡ slice_index xs i → j ≡ i

-- f holds of every number below n, and of some
unfoldable pub each : ℕ → (ℕ → Bool) → Bool
each zero f = true
each (suc n) f = f n && each n f

unfoldable pub some : ℕ → (ℕ → Bool) → Bool
some zero f = false
some (suc n) f = f n || some n f

unfoldable pub listed : ℕ → List ℕ → Bool
listed n xs =
    nat_le n (length xs)
    && (each n (λ i. nat_le 1 (slice_index xs i) && nat_le (slice_index xs i) n)
    && (each n (λ v. some n (λ i. nat_eq (slice_index xs i) (v + 1))) && each n (λ i. each n (λ j. (j == i) || not (slice_index xs j == slice_index xs i)))))
