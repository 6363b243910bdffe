-- What the make of a register answers and leaves. Assumes nothing.
--     making m bank n k v lines size      the machine or the refusal, and the bank: a refused make leaves it as it was
--     seen_made r bank lines              a make's result, with the machine in the place of the register
--     LawfulMade m r bank lines          the law of every run of a register that was made
use Rattle.std.specs.Prelude.{ℕ, List, Ok, Err, Result}
use Rattle.policy.specs.declared.refusal.Refusal.{Refusal}
use Rattle.banks.specs.Meanings.{Meaning}
use Rattle.banks.specs.declared.record.Record.{Record}
use Rattle.stamps.specs.Makes.{Make}
use Rattle.machine.specs.Machines.{Machine, make}
use Rattle.machine.specs.Rules.{Law, history}
use Rattle.machine.specs.Runs.{Call, act}
use Rattle.machine.specs.declared.line.Line.{Line}
use Rattle.register.specs.Reach.{Reached}
use Rattle.register.specs.Seen.{seen}
use Rattle.register.specs.declared.register.Register.{Register}

module _ {S V : Type 0} where
  abbrev pub left_by : Meaning (Record S V) → Result (Machine S V) Refusal → Result (Machine S V) Refusal × Meaning (Record S V)
  left_by bank (Ok M) = (Ok M, M.bank)
  left_by bank (Err e) = (Err e, bank)

  abbrev pub making : Make S → Meaning (Record S V) → ℕ → ℕ → V → List (Line S V) → ℕ → Result (Machine S V) Refusal × Meaning (Record S V)
  making m bank n k v lines size = left_by bank (make m bank n k v lines size)

  abbrev pub seen_made : Result (Register S V) Refusal → Meaning (Record S V) → List (Line S V) → Result (Machine S V) Refusal
  seen_made (Ok r) bank lines = Ok (seen r bank lines)
  seen_made (Err e) bank lines = Err e

  -- after every list of calls the law holds, and the new register is where the empty list leads
  abbrev pub LawfulMade : Make S → Result (Register S V) Refusal → Meaning (Record S V) → List (Line S V) → Type 0
  LawfulMade m (Ok r) bank lines = ((calls : List (Call V)) → Law m (history (act m) (seen r bank lines) calls)) × Reached m (seen r bank lines)
  LawfulMade m (Err e) bank lines = Unit {0}
