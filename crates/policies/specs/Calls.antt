-- What a register answers to a call that is given as a value. Assumes nothing.
--     answering m M f c       the answer to call c and the machine after it, over a bank that chooses by f
use Rattle.std.specs.Prelude.{ℕ, Bool, Ok, Err, Option, Result}
use Rattle.policy.specs.declared.refusal.Refusal.{Refusal}
use Rattle.banks.specs.Marks.{is_up}
use Rattle.banks.specs.declared.record.Record.{Record}
use Rattle.stamps.specs.Makes.{Make}
use Rattle.machine.specs.Machines.{Machine, row_of, open_write, open_read, mark_cell}
use Rattle.machine.specs.Steps.{step}
use Rattle.register.specs.Stages.{choice_at}
use Rattle.policies.specs.declared.calls.Call.{Call}
use Rattle.policies.specs.declared.calls.Call.TheVariants.{Write, Read, Step, Mark}
use Rattle.policies.specs.declared.calls.Answer.{Answer}
use Rattle.policies.specs.declared.calls.Answer.TheVariants.{Opened, Moved, Marked}

module _ {S V : Type 0} where
  abbrev opened : Result ℕ Refusal → Result (Answer S V) Refusal
  opened (Ok i) = Ok (Opened i)
  opened (Err e) = Err e

  abbrev stepped : Result (Option (Record S V)) Refusal → Result (Answer S V) Refusal
  stepped (Ok a) = Ok (Moved a)
  stepped (Err e) = Err e

  abbrev marked : Result (Unit {0}) Refusal → Result (Answer S V) Refusal
  marked (Ok u) = Ok Marked
  marked (Err e) = Err e

  abbrev pub answering : Make S → Machine S V → (ℕ → ℕ → Bool) → Call V → Result (Answer S V) Refusal × Machine S V
  answering m M f (Write s v) = (opened (open_write M s v).0, (open_write M s v).1)
  answering m M f (Read s) = (opened (open_read M s).0, (open_read M s).1)
  answering m M f (Step s) =
      let c = choice_at f s (row_of M.rows s) in
      (stepped (step m M c s).0, (step m M c s).1)
  answering m M f (Mark w r k) = (marked (mark_cell M w r (is_up k)).0, (mark_cell M w r (is_up k)).1)
