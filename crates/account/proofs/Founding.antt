-- A game that was just made. Assumes nothing.
use Rattle.std.proofs.Common.{◌≡◌, ℕ, Bool, true, false, cond, List, replicate, Ok, Err, Result, refl, ap, ◌∙◌}
use Rattle.policy.specs.declared.entry.PolicyNumber.{PolicyNumber}
use Rattle.policy.specs.declared.refusal.Refusal.{Refusal}
use Rattle.policy.specs.declared.refusal.Refusal.TheVariants.{StationCount}
use Rattle.banks.specs.Meanings.{Meaning, inside}
use Rattle.banks.specs.declared.record.Record.{Record}
use Rattle.stamps.specs.Pairs.{pair_make}
use Rattle.stamps.specs.declared.pair.PairStamp.{PairStamp}
use Rattle.table_banks.specs.Bottoms.{filling}
use Rattle.machine.specs.Machines.{make}
use Rattle.register.specs.Makings.{left_by}
use Rattle.heap_banks.specs.Made.{bank_for}
use Rattle.account.specs.Games.{Played}
use Rattle.account.specs.Listings.{Entry}
use Rattle.account.specs.Texts.{blank, founding}

abbrev Cell : Type 0
Cell = Record PairStamp PolicyNumber

filled_at : (b : Bool) (n : ℕ) (m : Meaning Cell) (x : Cell) → ◌≡◌ {A = Result (Meaning Cell) Refusal} (Ok m) (cond b (Ok (filling n x)) (Err StationCount)) → m ≡ filling n x
filled_at true n m x e = cc
filled_at false n m x e = cc

-- what a make answered, without what it left of the bank
pub left_first : (bank : Meaning Cell) (r : Result Played Refusal) → (left_by bank r).0 ≡ r
left_first bank (Ok M) = refl
left_first bank (Err e) = refl

-- a make over a bank that was just made, in lines that were not used
pub made_anew : (bank later : Meaning Cell) (n k : ℕ) (v : PolicyNumber) (x : Cell) (lines : List Entry) (a : Result Played Refusal) → ◌≡◌ {A = Result (Meaning Cell) Refusal} (Ok bank) (bank_for n x) → lines ≡ replicate 512 blank → ◌≡◌ {A = Result Played Refusal × Meaning Cell} (a, later) (left_by bank (make pair_make bank n k v lines 512)) → a ≡ founding n k v
made_anew bank later n k v x lines a filled new is =
    ap (λ p. p.0) is
    ∙ left_first bank (make pair_make bank n k v lines 512)
    ∙ ap (λ ls. make pair_make bank n k v ls 512) new
    ∙ ap (λ (b : Meaning Cell). make pair_make b n k v (replicate 512 blank) 512) (filled_at (inside 16 n) n bank x filled)
