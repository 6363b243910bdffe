-- The bytes of a source that are read up to a limit. Assumes nothing.
use Rattle.std.proofs.Common.{◌≡◌, ℕ, List, [], ◌++◌, take, IfSome, Some, None, Option, ap, ◌∙◌, subst}
use Rattle.std.specs.Option.{option_map}

first : (limit : ℕ) (known : Option (List ℕ)) (was now : List ℕ) → was ≡ [] → IfSome (option_map (take limit) known) (λ xs. now ≡ was ++ xs) → IfSome known (λ xs. now ≡ take limit xs)
first limit None was now new is = tt
first limit (Some xs) was now new is = is ∙ ap (λ ys. ys ++ take limit xs) new

-- of the source that is handed in, through a reader that is limited
pub read_first : {R : Type 0} (known : R → Option (List ℕ)) (source inner : R) (most limit : ℕ) (was now : List ℕ) → was ≡ [] → limit ≡ most → inner ≡ source → IfSome (option_map (take limit) (known inner)) (λ xs. now ≡ was ++ xs) → IfSome (known source) (λ xs. now ≡ take most xs)
read_first known source inner most limit was now new same of is =
    subst (λ r. IfSome (known r) (λ xs. now ≡ take most xs)) of
    (subst (λ n. IfSome (known inner) (λ xs. now ≡ take n xs)) same (first limit (known inner) was now new is))
