-- Three plausible machines that break the law on three stations. Assumes nothing.
--     pairs               stamps of a count and an owner, compared by count and then by owner
--     quiet_act           a read that does not spread: past its collecting it writes no cell
--     early_act           a write that is stamped at its opening: it takes the stamp next to the starting one
--     tied_act            stamps compared by count alone
--     Breaks acts         a machine that does what acts says breaks the law in some run of three stations
use Rattle.std.specs.Prelude.{◌≡◌, ℕ, ◌+◌, ◌-◌, Bool, false, cond, ◌&&◌, ◌||◌, List, replicate, Some, None, Ok, Err, Option, Result, ◌==◌, nat_lt}
use Rattle.std.specs.List.{slice_get}
use Rattle.policy.specs.declared.refusal.Refusal.{Refusal}
use Rattle.policy.specs.declared.refusal.Refusal.TheVariants as refusals
use Rattle.banks.specs.declared.record.Record.{Record}
use Rattle.banks.specs.Meanings.{Meaning}
use Rattle.stamps.specs.Makes.{Make}
use Rattle.machine.specs.Machines.{Machine, row_of, make, open_write}
use Rattle.machine.specs.Steps.{in_state, going, settle, step_stage}
use Rattle.machine.specs.Runs.{Call, write_call, read_call, step_call, mark_call, Note, write_note, step_note, act}
use Rattle.machine.specs.Rules.{history, Law}
use Rattle.machine.specs.declared.line.Kind.{Kind}
use Rattle.machine.specs.declared.line.Kind.TheVariants.{Write, Read}
use Rattle.machine.specs.declared.line.LineState.TheVariants as states
use Rattle.machine.specs.declared.line.Line.{Line}
use Rattle.machine.specs.declared.row.Row.{Row}
use Rattle.machine.specs.declared.row.Row.TheVariants.{Idle, Busy}

abbrev Stamp : Type 0
Stamp = ℕ × ℕ

abbrev pub pairs : Make Stamp
pairs =
    record {
      count = λ s. s.0;
      owner = λ s. s.1;
      smaller = λ s t. nat_lt s.0 t.0 || s.0 == t.0 && nat_lt s.1 t.1;
      greatest = 4294967295;
      first = λ k. Some (k, 0);
      next = λ s w. cond (nat_lt s.0 4294967295) (Some (s.0 + 1, w)) None;
    }

-- the same with the owner left out of the comparison
abbrev by_count : Make Stamp
by_count =
    record {
      count = pairs.count;
      owner = pairs.owner;
      smaller = λ s t. nat_lt s.0 t.0;
      greatest = pairs.greatest;
      first = pairs.first;
      next = pairs.next;
    }

abbrev pub tied_act : Machine Stamp ℕ → Call ℕ → Note Stamp ℕ × Machine Stamp ℕ
tied_act = act by_count

abbrev Answer : Type 0
Answer = Result (Option (Record Stamp ℕ)) Refusal × Machine Stamp ℕ

-- a step of a station with this row, where stage says what it does to its line
abbrev on_line : (Line Stamp ℕ → Answer) → Machine Stamp ℕ → Option (Line Stamp ℕ) → Answer
on_line stage M None = (Err refusals.JournalSize, M)
on_line stage M (Some l) = stage l

abbrev on_row : (ℕ → ℕ → Line Stamp ℕ → Answer) → Machine Stamp ℕ → Row → Answer
on_row stage M Idle = (Err refusals.Idle, M)
on_row stage M (Busy i c) = on_line (stage i c) M (slice_get M.lines (i - 1))

-- past its collecting a read counts its steps and leaves the bank
abbrev quiet_stage : Machine Stamp ℕ → Bool → ℕ → Kind → ℕ → ℕ → Line Stamp ℕ → Answer
quiet_stage M choice s Write i c l = step_stage pairs M choice s i c l
quiet_stage M choice s Read i c l =
    cond (nat_lt c M.stations) (step_stage pairs M choice s i c l) (settle M s i c l (Ok tt) M.bank)

abbrev pub quiet_act : Machine Stamp ℕ → Call ℕ → Note Stamp ℕ × Machine Stamp ℕ
quiet_act M (step_call s choice) =
    let a = on_row (λ i c l. quiet_stage M choice s l.kind i c l) M (row_of M.rows s) in
    (step_note s a.0, a.1)
quiet_act M (write_call s v) = act pairs M (write_call s v)
quiet_act M (read_call s) = act pairs M (read_call s)
quiet_act M (mark_call w r up) = act pairs M (mark_call w r up)

-- a write has its stamp already: it collects without taking one
abbrev early_stage : Machine Stamp ℕ → Bool → ℕ → Kind → ℕ → ℕ → Line Stamp ℕ → Answer
early_stage M choice s Write i c l =
    cond (nat_lt c M.stations)
    (going M s i (cond (c + 1 == M.stations) (in_state l states.Spreading) l) (c + 1))
    (step_stage pairs M choice s i c l)
early_stage M choice s Read i c l = step_stage pairs M choice s i c l

abbrev with_origin : Machine Stamp ℕ → Record Stamp ℕ → Machine Stamp ℕ
with_origin M origin =
    record {
      stations = M.stations;
      bank = M.bank;
      origin = origin;
      lines = M.lines;
      used = M.used;
      size = M.size;
      moment = M.moment;
      rows = M.rows;
    }

-- an open write begins its line with the stamp next to the starting one
abbrev pub early_act : Machine Stamp ℕ → Call ℕ → Note Stamp ℕ × Machine Stamp ℕ
early_act M (write_call s v) =
    let a = open_write (with_origin M (record { tag = (M.origin.tag.0 + 1, s); value = M.origin.value })) s v in
    (write_note s v a.0, with_origin a.1 M.origin)
early_act M (step_call s choice) =
    let a = on_row (λ i c l. early_stage M choice s l.kind i c l) M (row_of M.rows s) in
    (step_note s a.0, a.1)
early_act M (read_call s) = act pairs M (read_call s)
early_act M (mark_call w r up) = act pairs M (mark_call w r up)

abbrev pub blank : Meaning (Record Stamp ℕ)
blank =
    record { stations = 3; settled = λ w r. None; opened = λ w. None; reachable = λ w r. false; place = λ w r. (0, w, r) }

abbrev pub line : Line Stamp ℕ
line = record { kind = Read; station = 0; state = states.Collecting; stamp = (0, 0); value = 0; opened = 0; ended = 0 }

-- a run of three stations from a new register with a journal of four lines
abbrev pub Breaks : (Machine Stamp ℕ → Call ℕ → Note Stamp ℕ × Machine Stamp ℕ) → Type 0
Breaks acts =
    (M : Machine Stamp ℕ) × (calls : List (Call ℕ)) × (make pairs blank 3 0 0 (replicate 4 line) 4 ≡ Ok M) × (Law pairs (history acts M calls) → ⊥)
