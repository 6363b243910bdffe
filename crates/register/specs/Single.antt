-- That a step is one step of the matrix register: one operation on one cell of its station. Assumes nothing.
--     OneCell s b d          one accepted cell operation of station s leads from the bank b to the bank d
--     OwnRow s b d           from b to d, no cell of another writer than s changes
--     Single s a b d          a step of s that answered a and led from b to d, if it was accepted, is one cell operation of s
use Rattle.std.specs.Prelude.{◌≡◌, ℕ, Bool, Ok, Err, Option, Result, ◌≢◌}
use Rattle.policy.specs.Refusals.{number_of}
use Rattle.policy.specs.declared.refusal.Refusal.{Refusal}
use Rattle.banks.specs.declared.record.Record.{Record}
use Rattle.banks.specs.Meanings.{Meaning, read, start, finish}

module _ {R : Type 0} where
  -- a read of a cell in its column, which leaves the bank as it was; a start of a cell in its row; a finish in its row
  pub data OneCell (s : ℕ) (before after : Meaning R) : Type 0 where
    one_read : (w : ℕ) (choice : Bool) (x : R) → read before choice w s ≡ (Ok x, after) → after ≡ before → OneCell s before after
    one_start : (r : ℕ) (x : R) → start before s r x ≡ (Ok tt, after) → OneCell s before after
    one_finish : finish before s ≡ (Ok tt, after) → OneCell s before after

  abbrev pub OwnRow : ℕ → Meaning R → Meaning R → Type 0
  OwnRow s before after =
      (w : ℕ) → (w ≢ s) → (after.opened w ≡ before.opened w) × ((r : ℕ) → after.settled w r ≡ before.settled w r)

-- a step that refuses a write as spent, by 14, counts as accepted
abbrev pub Single : {R S V : Type 0} → ℕ → Result (Option (Record S V)) Refusal → Meaning R → Meaning R → Type 0
Single s (Ok x) before after = OneCell s before after × OwnRow s before after
Single s (Err e) before after = number_of e ≡ 14 → OneCell s before after × OwnRow s before after
