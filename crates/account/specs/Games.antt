-- What a command comes to on a register that is made. Assumes nothing.
--     Played                  the machine of pair stamps and policy numbers
--     Answer                  what a command comes to, or its refusal
--     noted x                 the answer of a call, from its note
--     carried c M cmd         what the command cmd comes to on the machine M, and what it leaves; c: of two records of a cell, a read
--                             answers the open one
--     choice_for f M cmd      what a bank that chooses by f chooses in that command
use Rattle.std.specs.Prelude.{ℕ, Bool, true, false, Some, None, Ok, Err, Option, Result}
use Rattle.policy.specs.declared.entry.PolicyNumber.{PolicyNumber}
use Rattle.policy.specs.declared.refusal.Refusal.{Refusal}
use Rattle.policy.specs.declared.refusal.Refusal.TheVariants.{AlreadyMade}
use Rattle.commands.specs.declared.command.Command.{Command}
use Rattle.commands.specs.declared.command.Command.TheVariants.{Make, Write, Read, Step, Down, Up, List as Lines}
use Rattle.banks.specs.declared.record.Record.{Record}
use Rattle.stamps.specs.Pairs.{pair_make}
use Rattle.stamps.specs.declared.pair.PairStamp.{PairStamp}
use Rattle.machine.specs.Machines.{Machine, row_of}
use Rattle.machine.specs.Runs.{Call, write_call, read_call, step_call, mark_call, Note, write_note, read_note, step_note, mark_note, act}
use Rattle.register.specs.Stages.{choice_at}
use Rattle.account.specs.declared.outcome.Outcome.{Outcome}
use Rattle.account.specs.declared.outcome.Outcome.TheVariants.{Accepted, Done, Listed}

abbrev pub Played : Type 0
Played = Machine PairStamp PolicyNumber

abbrev pub Answer : Type 0
Answer = Result Outcome Refusal

abbrev pub answered : {T : Type 0} → Result T Refusal → Answer
answered (Ok x) = Ok Accepted
answered (Err e) = Err e

abbrev pub taken : Option (Record PairStamp PolicyNumber) → Outcome
taken None = Accepted
taken (Some x) = Done x

abbrev pub stepped : Result (Option (Record PairStamp PolicyNumber)) Refusal → Answer
stepped (Ok a) = Ok (taken a)
stepped (Err e) = Err e

abbrev pub noted : Note PairStamp PolicyNumber → Answer
noted (write_note s v a) = answered a
noted (read_note s a) = answered a
noted (step_note s a) = stepped a
noted (mark_note w r up a) = answered a

abbrev pub acted : Played → Call PolicyNumber → Answer × Played
acted M c = let a = act pair_make M c in (noted a.0, a.1)

abbrev pub carried : Bool → Played → Command → Answer × Played
carried choice M (Make bank stations count value) = (Err AlreadyMade, M)
carried choice M (Write station value) = acted M (write_call station value)
carried choice M (Read station) = acted M (read_call station)
carried choice M (Step station) = acted M (step_call station choice)
carried choice M (Down writer reader) = acted M (mark_call writer reader false)
carried choice M (Up writer reader) = acted M (mark_call writer reader true)
carried choice M Lines = (Ok Listed, M)

abbrev pub choice_for : (ℕ → ℕ → Bool) → Played → Command → Bool
choice_for f M (Make bank stations count value) = false
choice_for f M (Write station value) = false
choice_for f M (Read station) = false
choice_for f M (Step station) = choice_at f station (row_of M.rows station)
choice_for f M (Down writer reader) = false
choice_for f M (Up writer reader) = false
choice_for f M Lines = false
