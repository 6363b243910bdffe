-- Runs of the machine: calls in every arrangement, with every choice of the bank. Assumes nothing.
--     Call V              a call: open write, open read, step (with what a read will choose), mark
--     Note S V            a call with its answer, as an observer sees it: the choice is not seen
--     act m M c           the note of call c, and the machine after it
--     play acts M cs      the notes of the calls cs in their order, and the last machine; acts says what a call does
use Rattle.std.specs.Prelude.{ℕ, Bool, List, [], ◌∷◌, Option, Result}
use Rattle.policy.specs.declared.refusal.Refusal.{Refusal}
use Rattle.banks.specs.declared.record.Record.{Record}
use Rattle.stamps.specs.Makes.{Make}
use Rattle.machine.specs.Machines.{Machine, open_write, open_read, mark_cell}
use Rattle.machine.specs.Steps.{step}

-- stations first; the choice of a step: where a cell has two records, its read answers the open one
pub data Call (V : Type 0) : Type 0 where
  write_call : ℕ → V → Call V
  read_call : ℕ → Call V
  step_call : ℕ → Bool → Call V
  mark_call : ℕ → ℕ → Bool → Call V

pub data Note (S V : Type 0) : Type 0 where
  write_note : ℕ → V → Result ℕ Refusal → Note S V
  read_note : ℕ → Result ℕ Refusal → Note S V
  step_note : ℕ → Result (Option (Record S V)) Refusal → Note S V
  mark_note : ℕ → ℕ → Bool → Result (Unit {0}) Refusal → Note S V

module _ {S V : Type 0} where
  abbrev pub act : Make S → Machine S V → Call V → Note S V × Machine S V
  act m M (write_call s v) = let a = open_write M s v in (write_note s v a.0, a.1)
  act m M (read_call s) = let a = open_read M s in (read_note s a.0, a.1)
  act m M (step_call s choice) = let a = step m M choice s in (step_note s a.0, a.1)
  act m M (mark_call w r up) = let a = mark_cell M w r up in (mark_note w r up a.0, a.1)

  abbrev pub play : (Machine S V → Call V → Note S V × Machine S V) → Machine S V → List (Call V) → List (Note S V) × Machine S V
  play acts M [] = ([], M)
  play acts M (c ∷ cs) = let a = acts M c in let rest = play acts a.1 cs in (a.0 ∷ rest.0, rest.1)
