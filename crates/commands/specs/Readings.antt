-- How a whole command file is read. Assumes nothing.
--     Reading             the commands of a file in order, and the refusal at which reading it stops, if any
--     reading xs          how the bytes xs are read
--     Bytes xs            every number of xs is a byte
--     Complete xs         xs is read to its end, without a refusal
--     bytes_of_all cs     the bytes of commands, one after another
use Rattle.std.specs.Prelude.{◌≡◌, ℕ, zero, suc, ◌<◌, List, [], ◌∷◌, ◌++◌, length, Some, None, Ok, Err, Option, slice_index}
use Rattle.policy.specs.declared.refusal.Refusal.{Refusal}
use Rattle.commands.specs.declared.command.Command.{Command}
use Rattle.commands.specs.Commands.{Decoded, decoded, encoded}

pub record Reading : Type 0 where
  pub commands : List Command
  pub stop : Option Refusal

-- what is read where the bytes were decoded so, and `more` reads on behind the first command
abbrev pub reading_at : Decoded → (List ℕ → Reading) → Reading
reading_at (Ok None) more = record { commands = []; stop = None }
reading_at (Ok (Some p)) more = let r = more p.1 in record { commands = p.0 ∷ r.commands; stop = r.stop }
reading_at (Err e) more = record { commands = []; stop = Some e }

-- at most k commands; a command has at least one byte, so `reading` leaves none out
unfoldable pub reading_within : ℕ → List ℕ → Reading
reading_within zero xs = record { commands = []; stop = None }
reading_within (suc k) xs = reading_at (decoded xs) (reading_within k)

abbrev pub reading : List ℕ → Reading
reading xs = reading_within (suc (length xs)) xs

abbrev pub Bytes : List ℕ → Type 0
Bytes xs = (i : ℕ) → slice_index xs i < 256

abbrev pub Complete : List ℕ → Type 0
Complete xs = (reading xs).stop ≡ None

abbrev pub bytes_of_all : List Command → List ℕ
bytes_of_all [] = []
bytes_of_all (c ∷ cs) = encoded c ++ bytes_of_all cs
