-- The laws of pair stamps. The key is count × 32 + owner.
use Rattle.std.specs.Prelude.{◌≡◌, ℕ, ◌+◌, ◌*◌, ◌≤◌, Some, refl}
use Rattle.std.proofs.Common.{◌∙◌, arith}
use mathlib.Core.HLevel.{is_prop→PathP}
use Rattle.std.proofs.Math.Bridge.{le_prop}
use Rattle.std.proofs.lemmas.Bool.{cond-true, cond-false, le-leb, lt-leb}
use Rattle.std.proofs.lemmas.Bool.Decides.{nat_tests}
use Rattle.stamps.specs.declared.pair.PairStamp.{PairStamp}
use Rattle.stamps.specs.Pairs.{pair_at, pair, pair_make}
use Rattle.stamps.specs.Within.{within}
use Rattle.stamps.specs.Keyed.{Keyed}

-- two stamps with equal parts are one
pub same_pair : (s t : PairStamp) → s.count ≡ t.count → s.owner ≡ t.owner → s ≡ t
same_pair s t e f =
    λ i. pair_at (e i) (f i) (is_prop→PathP (λ k. f k ≤ 16) (λ k. le_prop) s.bounded t.bounded i)

pub pair_found : (k w : ℕ) → k ≤ 4294967295 → (h : w ≤ 16) → pair k w ≡ Some (pair_at k w h)
pair_found k w b h = cond-true _ _ _ (le-leb k 4294967295 b) ∙ within w 16 (pair_at k w) h

pub pair_keyed : Keyed pair_make
pair_keyed =
    record {
      key = λ s. s.count * 32 + s.owner;
      apart = λ s t e. same_pair s t (omega arith) (omega arith);
      by_key = λ s t. grind (arith, nat_tests);
      by_count = λ s t h. omega arith;
      at = pair;
      found = λ k w b h. (pair_at k w h, pair_found k w b h, refl, refl);
      none = λ k w h. cond-false _ _ _ (lt-leb k 4294967295 h);
      first = λ k. refl;
      next = λ s w. refl;
    }
