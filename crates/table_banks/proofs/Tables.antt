-- Lemmas on tables. Assumes nothing.
use Rattle.std.proofs.Common.{◌≡◌, ℕ, zero, suc, ◌+◌, ◌<◌, List, [], ◌∷◌, ◌++◌, length, get_or, drop, set, replicate, Some, sym, refl, ap, ◌∙◌, append_assoc, arith}
use lib.ListN.{length-replicate}
use Rattle.std.proofs.lemmas.List.{drop_more, set_at, replicate_more}
use Rattle.std.specs.List.{slice_get}

-- one line more from the first on
pub fill_line_more : {X : Type 0} (n : ℕ) (x : X) (d : List X) → n < length d → set (replicate n x ++ drop n d) n x ≡ replicate (n + 1) x ++ drop (n + 1) d
fill_line_more n x d h =
    ap (λ ys. set (replicate n x ++ ys) n x) (drop_more d n x h)
    ∙ set_at (replicate n x) (get_or d n x) (drop (n + 1) d) x n (length-replicate n x)
    ∙ sym (append_assoc (replicate n x) (x ∷ []) (drop (n + 1) d))
    ∙ ap (λ xs. xs ++ drop (n + 1) d) (replicate_more n x)

nth_replicate : {X : Type 0} (n i : ℕ) (x : X) (ys : List X) → i < n → slice_get (replicate n x ++ ys) i ≡ Some x
nth_replicate zero i x ys h = absurd (omega arith)
nth_replicate (suc n) zero x ys h = refl
nth_replicate (suc n) (suc i) x ys h = nth_replicate n i x ys (omega arith)

-- a table whose first m lines hold x
pub front_line : {X : Type 0} (m : ℕ) (x : X) (xs ys : List X) → xs ≡ replicate m x ++ ys → (i : ℕ) → i < m → slice_get xs i ≡ Some x
front_line m x xs ys front i h = ap (λ l. slice_get l i) front ∙ nth_replicate m i x ys h
