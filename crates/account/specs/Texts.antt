-- The text of a command file. Assumes nothing.
--     Game                    a register that is made, over a bank that chooses so
--     empty_bank n            the bank of n stations that is handed to make
--     blank                   what the journal's lines hold before they are used
--     founding kind n k v     what a make comes to
--     answer g cmd            the words of a command and the game after it; g is the game before, if one is made
--     text cs g k stop        the text of commands from the game g, the first with the number k, and of the refusal that ends the run
--     answered, left_after    the text of a command and of what follows it; of what follows it alone
--     account xs              the text of a file with the bytes xs
use Rattle.std.specs.Prelude.{ℕ, suc, ◌+◌, Bool, true, false, cond, List, [], ◌∷◌, ◌++◌, replicate, Some, None, Ok, Err, codes, Option, Result, ◌==◌}
use Rattle.std.proofs.Common.{leb→le}
use Rattle.policy.specs.declared.entry.PolicyNumber.{PolicyNumber}
use Rattle.policy.specs.declared.refusal.Refusal.{Refusal}
use Rattle.policy.specs.declared.refusal.Refusal.TheVariants.{UnknownByte, NoRegister}
use Rattle.commands.specs.Commands.{policy}
use Rattle.commands.specs.Readings.{reading}
use Rattle.commands.specs.declared.command.Command.{Command}
use Rattle.commands.specs.declared.command.Command.TheVariants.{Make, Write, Read, Step, Down, Up, List as Lines}
use Rattle.banks.specs.Meanings.{Meaning}
use Rattle.banks.specs.declared.record.Record.{Record}
use Rattle.stamps.specs.Pairs.{pair_at, pair_make}
use Rattle.stamps.specs.declared.pair.PairStamp.{PairStamp}
use Rattle.machine.specs.Machines.{make}
use Rattle.machine.specs.declared.line.Kind.TheVariants as kinds
use Rattle.machine.specs.declared.line.LineState.TheVariants as states
use Rattle.machine.specs.declared.line.Line.{Line}
use Rattle.account.specs.Games.{Played, carried}
use Rattle.account.specs.Words.{line, refusal_said, said}

pub record Game : Type 0 where
  -- of two records of a cell, a read answers the open one: so on a board, and not on a post
  pub choice : Bool
  pub machine : Played

-- it has no layer above it, and make fills it
abbrev pub empty_bank : ℕ → Meaning (Record PairStamp PolicyNumber)
empty_bank n =
    record { stations = n; settled = λ w r. None; opened = λ w. None; reachable = λ w r. false; place = λ w r. (0, w, r) }

-- lines in use are overwritten before they are read, so nothing that is printed depends on it
abbrev pub blank : Line PairStamp PolicyNumber
blank =
    record { kind = kinds.Read; station = 0; state = states.Collecting; stamp = pair_at 0 0 (leb→le 0 16 tt); value = policy 0; opened = 0; ended = 0 }

abbrev pub founding : ℕ → ℕ → PolicyNumber → Result Played Refusal
founding n k v = make pair_make (empty_bank n) n k v (replicate 512 blank) 512

abbrev pub founded_by : Bool → Result Played Refusal → List ℕ × Option Game
founded_by choice (Ok M) = (codes "ok", Some (record { choice = choice; machine = M }))
founded_by choice (Err e) = (refusal_said e, None)

-- 0 is a board, 1 a post
abbrev pub making : ℕ → ℕ → ℕ → PolicyNumber → List ℕ × Option Game
making kind n k v =
    cond (kind == 0) (founded_by true (founding n k v))
    (cond (kind == 1) (founded_by false (founding n k v)) (refusal_said UnknownByte, None))

-- no register is made yet
abbrev pub unmade : List ℕ × Option Game
unmade = (refusal_said NoRegister, None)

abbrev pub first_answer : Command → List ℕ × Option Game
first_answer (Make kind stations count value) = making kind stations count value
first_answer (Write station value) = unmade
first_answer (Read station) = unmade
first_answer (Step station) = unmade
first_answer (Down writer reader) = unmade
first_answer (Up writer reader) = unmade
first_answer Lines = unmade

abbrev pub game_answer : Bool → Played → Command → List ℕ × Option Game
game_answer choice M c =
    let a = carried choice M c in
    (said a.1.used a.1.lines a.0, Some (record { choice = choice; machine = a.1 }))

abbrev pub answer : Option Game → Command → List ℕ × Option Game
answer None c = first_answer c
answer (Some g) c = game_answer g.choice g.machine c

abbrev pub stop_line : ℕ → Option Refusal → List ℕ
stop_line k None = []
stop_line k (Some e) = line k (refusal_said e)

abbrev pub text : List Command → Option Game → ℕ → Option Refusal → List ℕ
text [] g k stop = stop_line k stop
text (c ∷ cs) g k stop = let a = answer g c in line k a.0 ++ text cs a.1 (suc k) stop

-- the text of the bytes xs from the game g, the first command with the number k
abbrev pub text_of : List ℕ → Option Game → ℕ → List ℕ
text_of xs g k = text (reading xs).commands g k (reading xs).stop

-- the text of a command with the number k that came to a, and of the bytes xs behind it
abbrev pub answered : List ℕ × Option Game → List ℕ → ℕ → List ℕ
answered a xs k = line k a.0 ++ text_of xs a.1 (k + 1)

-- the text of the bytes xs behind the command with the number k, unless the whole is written
abbrev pub left_after : Bool → List ℕ → ℕ → List ℕ
left_after whole xs k = cond whole [] (text_of xs None (k + 1))

abbrev pub account : List ℕ → List ℕ
account xs = text_of xs None 1
