-- What holds of every account, in the words of runs. Assumes nothing.
--     game_after cs g         the game after commands, from the game g, if one is made
--     Lawful g                the game is a run of a register that was made, and the law of the stamps holds of its history
--     Begins xs               the text of the file xs, if it is read to its end, is the beginning of the text of every file that begins with xs
use Rattle.std.specs.Prelude.{◌≡◌, ℕ, List, [], ◌∷◌, ◌++◌, Some, None, Option}
use Rattle.commands.specs.Readings.{Complete}
use Rattle.commands.specs.declared.command.Command.{Command}
use Rattle.stamps.specs.Pairs.{pair_make}
use Rattle.machine.specs.Rules.{Law, history}
use Rattle.machine.specs.Runs.{act}
use Rattle.register.specs.Reach.{Reached}
use Rattle.account.specs.Texts.{Game, answer, account}

abbrev pub game_after : List Command → Option Game → Option Game
game_after [] g = g
game_after (c ∷ cs) g = game_after cs (answer g c).1

-- some calls lead to its machine from a register whose make was accepted; a list prints the lines of that history
abbrev pub Lawful : Option Game → Type 0
Lawful None = Unit {0}
Lawful (Some g) = (r : Reached pair_make g.machine) × Law pair_make (history (act pair_make) r.first r.calls)

abbrev pub Begins : List ℕ → Type 0
Begins xs = Complete xs → (ys : List ℕ) → (rest : List ℕ) × (account (xs ++ ys) ≡ account xs ++ rest)
