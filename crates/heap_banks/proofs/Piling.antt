-- The pile of three stations holds one record in every cell. Assumes nothing.
use Rattle.std.proofs.Common.{◌≡◌, ℕ, zero, suc, ◌≤◌, leb, ◌&&◌, Bool, true, false, cond, List, [], ◌∷◌, IfOk, Some, None, Ok, Err, Option, Result, sym, refl, ap, ◌∙◌, subst, rules, arith}
use Rattle.std.proofs.lemmas.Bool.{and_parts, leb-true}
use Rattle.banks.specs.Meanings.{Meaning, inside, known}
use Rattle.table_banks.specs.Bottoms.{filling}
use Rattle.table_banks.specs.Boards.{board_meaning}
use Rattle.table_banks.specs.Posts.{post_meaning}
use Rattle.table_banks.specs.declared.bank.TableBank.{TableBank}
use Rattle.table_banks.specs.declared.board.BoardTable.{BoardTable}
use Rattle.table_banks.specs.declared.post.PostTable.{PostTable}
use Rattle.layers.specs.Numberings.{number_at, position_at}
use Rattle.layers.specs.declared.renumbering.Renumbering.{Renumbering}
use Rattle.layers.specs.declared.split.Split.{Split}
use Rattle.layers.specs.Permutations.{look}
use Rattle.layers.specs.Layers.{renumbered, split_meaning, in_first}
use Rattle.layers.specs.Renumberings.{fitting}
use Rattle.policy.specs.declared.refusal.Refusal.{Refusal}
use Rattle.heap_banks.specs.declared.stop.Stop.{Stop}
use Rattle.heap_banks.specs.Piles.{Held, Piled, pile_meaning, order}

stays : (w : ℕ) → inside 3 w ≡ true → inside 3 (look 3 order w) ≡ true
stays zero is = is
stays (suc zero) is = refl
stays (suc (suc zero)) is = refl
stays (suc (suc (suc zero))) is = refl
stays (suc (suc (suc (suc w)))) is = let most : suc (suc (suc (suc w))) ≤ 3 = leb-true _ 3 (and_parts (leb 1 (suc (suc (suc (suc w))))) (leb (suc (suc (suc (suc w)))) 3) is).1 in absurd (omega arith)

known_stays : (w r : ℕ) → known 3 w r ≡ true → known 3 (look 3 order w) (look 3 order r) ≡ true
known_stays w r is =
    let both = and_parts (inside 3 w) (inside 3 r) is in
    ap (λ a. a && inside 3 (look 3 order r)) (stays w both.0) ∙ stays r both.1

module _ {R : Type 0} (x : R) (q : ℕ → ℕ) where
  abbrev pub first : Meaning R
  first = renumbered (look 3 order) q (filling 3 x)

  either : {Y : Type 0} (b : Bool) (y z t : Y) → y ≡ t → z ≡ t → cond b y z ≡ t
  either true y z t is also = is
  either false y z t is also = also

  held : Held x (split_meaning 1 first (filling 3 x))
  held w r is =
      let b = in_first 1 first (filling 3 x) w in
      let below = known_stays w r is in (
        either b _ _ _ (ap (λ k. cond k (Some x) None) below) (ap (λ k. cond k (Some x) None) is),
        either b _ _ _ below is,
        either b _ _ _ refl refl,
      )

  pub holds : Piled x (split_meaning 1 first (filling 3 x))
  holds = (refl, held, λ r. (refl, refl, refl))

piles : {R : Type 0} (x : R) (a b : Meaning R) (k : ℕ) (f q : ℕ → ℕ) → a ≡ filling 3 x → b ≡ filling 3 x → k ≡ 3 → f ≡ look 3 order → Piled x (split_meaning 1 (renumbered (fitting k a.stations f) (fitting k a.stations q) a) b)
unfolding fitting
piles x a b k f q board post size numbers =
    subst (λ a. Piled x (split_meaning 1 (renumbered (fitting k a.stations f) (fitting k a.stations q) a) b)) (sym board)
    (subst (λ b. Piled x (split_meaning 1 (renumbered (fitting k 3 f) (fitting k 3 q) (filling 3 x)) b)) (sym post)
    (subst (λ k. Piled x (split_meaning 1 (renumbered (fitting k 3 f) (fitting k 3 q) (filling 3 x)) (filling 3 x))) (sym size)
    (subst (λ f. Piled x (split_meaning 1 (renumbered (fitting 3 3 f) (fitting 3 3 q) (filling 3 x)) (filling 3 x))) (sym numbers) (holds x q))))

-- the bank that was made
pub made_as : {R : Type 0} (x : R) (m : Meaning R) → ◌≡◌ {A = Result (Meaning R) Refusal} (Ok m) (Ok (filling 3 x)) → m ≡ filling 3 x
made_as {R = R} x m is = ap given is
  where
    given : Result (Meaning R) Refusal → Meaning R
    given (Ok m) = m
    given (Err e) = filling 3 x

pub pile_holds : {R : Type 0} (x : R) (s : Renumbering (TableBank (BoardTable R))) (b : TableBank (PostTable R)) (r : Result (Split (Renumbering (TableBank (BoardTable R))) (TableBank (PostTable R))) Stop) → IfOk r (λ p. p ≡ record { first = s; second = b; point = 1 }) → board_meaning s.below ≡ filling 3 x → s.map.size ≡ 3 → number_at s.map ≡ look 3 order → post_meaning b ≡ filling 3 x → IfOk r (λ p. Piled x (pile_meaning p))
pile_holds x s b (Ok p) is board size numbers post =
    subst (λ p. Piled x (pile_meaning p)) (sym is) (piles x (board_meaning s.below) (post_meaning b) s.map.size (number_at s.map) (position_at s.map) board post size numbers)
pile_holds x s b (Err e) is board size numbers post = tt
