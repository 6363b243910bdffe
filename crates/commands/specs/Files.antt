-- What the contracts on the commands of a file cite. Assumes nothing.
--     stopped o           the refusal o as the last of what is read, or nothing
--     outcomes xs         the commands of the bytes xs in order, and behind them the refusal at which reading stops, if any
--     unread s            what an iterator over the commands of a file has still to give
--     bytes_left s        how many bytes of the file it has not yet read
use Rattle.std.specs.Prelude.{ℕ, List, [], ◌∷◌, ◌++◌, length, map, Some, None, Ok, Err, Option, Result}
use Rattle.policy.specs.declared.refusal.Refusal.{Refusal}
use Rattle.commands.specs.Readings.{reading}
use Rattle.commands.specs.declared.command.Command.{Command}
use Rattle.commands.specs.declared.file.Commands.{Commands}

abbrev pub stopped : Option Refusal → List (Result Command Refusal)
stopped None = []
stopped (Some e) = Err e ∷ []

abbrev pub outcomes : List ℕ → List (Result Command Refusal)
outcomes xs = map Ok (reading xs).commands ++ stopped (reading xs).stop

abbrev pub unread : Commands → List (Result Command Refusal)
unread s = outcomes s.rest.now

abbrev pub bytes_left : Commands → ℕ
bytes_left s = length s.rest.now
