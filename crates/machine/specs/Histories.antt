-- The history of a run, as an observer writes it down from the calls and their answers alone. Assumes nothing.
--     Operation S V       what is known of an operation: its open, its accepted steps, its stamping, its end
--     Book S V            the accepted opens and steps so far, and the operations, numbered from 1 in the order of opening
--     observed n b xs     the book b after the notes xs of a register of n stations
use Rattle.std.specs.Prelude.{ℕ, ◌+◌, cond, List, [], ◌∷◌, Some, None, Ok, Err, Option, Result, ◌==◌}
use Rattle.policy.specs.Refusals.{number_of}
use Rattle.policy.specs.declared.refusal.Refusal.{Refusal}
use Rattle.banks.specs.declared.record.Record.{Record}
use Rattle.banks.specs.Meanings.{at_row}
use Rattle.machine.specs.Runs.{Note, write_note, read_note, step_note, mark_note}
use Rattle.machine.specs.declared.line.Kind.{Kind}
use Rattle.machine.specs.declared.line.Kind.TheVariants.{Write, Read}

-- How an operation ended: a step answered its stamp and value, or refused it as spent.
pub data End (S V : Type 0) : Type 0 where
  as_done : S → V → End S V
  as_spent : End S V

-- Moments count the accepted opens and steps, the present one included.
pub record Operation (S V : Type 0) : Type 0 where
  -- the number that its open answered
  pub line : ℕ
  pub kind : Kind
  pub station : ℕ
  -- the value handed to an open write
  pub given : Option V
  pub opened : ℕ
  -- its accepted steps so far: its station's from its open up to the station's next accepted open
  pub steps : ℕ
  -- the moment of its accepted step n, unless that refused it as spent
  pub stamped : Option ℕ
  pub ended : Option (ℕ × End S V)

pub record Book (S V : Type 0) : Type 0 where
  pub moment : ℕ
  pub count : ℕ
  pub operation : ℕ → Operation S V
  -- the number of a station's operation that was opened last
  pub latest : ℕ → ℕ

module _ {S V : Type 0} where
  -- what stands at numbers that no operation has
  abbrev pub no_operation : Operation S V
  no_operation = record { line = 0; kind = Read; station = 0; given = None; opened = 0; steps = 0; stamped = None; ended = None }

  abbrev pub empty_book : Book S V
  empty_book = record { moment = 0; count = 0; operation = λ k. no_operation; latest = λ s. 0 }

  -- an open, and what it answered
  abbrev pub note_open : Book S V → Kind → ℕ → Option V → Result ℕ Refusal → Book S V
  note_open b kind s given (Err e) = b
  note_open b kind s given (Ok i) =
      record {
        moment = b.moment + 1;
        count = b.count + 1;
        operation =
            at_row b.operation (b.count + 1)
            (record { line = i; kind = kind; station = s; given = given; opened = b.moment + 1; steps = 0; stamped = None; ended = None });
        latest = at_row b.latest s (b.count + 1);
      }

  -- an operation with one more accepted step
  abbrev pub with_step : Operation S V → Option ℕ → Option (ℕ × End S V) → Operation S V
  with_step o stamped ended =
      record {
        line = o.line;
        kind = o.kind;
        station = o.station;
        given = o.given;
        opened = o.opened;
        steps = o.steps + 1;
        stamped = stamped;
        ended = ended;
      }

  -- whether an operation is stamped once a step at moment t has not refused it: its accepted step n stamps it
  abbrev pub stamped_by : ℕ → ℕ → Operation S V → Option ℕ
  stamped_by n t o = cond (o.steps + 1 == n) (Some t) o.stamped

  -- an accepted step of station s: it is one of the operation that the station opened last
  abbrev pub note_accepted : Book S V → ℕ → Operation S V → Book S V
  note_accepted b s o =
      record { moment = b.moment + 1; count = b.count; operation = at_row b.operation (b.latest s) o; latest = b.latest }

  abbrev pub note_going : ℕ → Book S V → ℕ → Operation S V → Option (Record S V) → Book S V
  note_going n b s o None = note_accepted b s (with_step o (stamped_by n (b.moment + 1) o) o.ended)
  note_going n b s o (Some x) =
      note_accepted b s (with_step o (stamped_by n (b.moment + 1) o) (Some (b.moment + 1, as_done x.tag x.value)))

  -- a step, and what it answered: one that refuses a write as spent, by the refusal 14, counts as accepted
  abbrev pub note_step : ℕ → Book S V → ℕ → Operation S V → Result (Option (Record S V)) Refusal → Book S V
  note_step n b s o (Ok a) = note_going n b s o a
  note_step n b s o (Err e) =
      cond (number_of e == 14) (note_accepted b s (with_step o o.stamped (Some (b.moment + 1, as_spent)))) b

  abbrev pub note : ℕ → Book S V → Note S V → Book S V
  note n b (write_note s v a) = note_open b Write s (Some v) a
  note n b (read_note s a) = note_open b Read s None a
  note n b (step_note s a) = note_step n b s (b.operation (b.latest s)) a
  note n b (mark_note w r up a) = b

  abbrev pub observed : ℕ → Book S V → List (Note S V) → Book S V
  observed n b [] = b
  observed n b (x ∷ xs) = observed n (note n b x) xs
