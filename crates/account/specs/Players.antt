-- What a player has still to tell. Assumes nothing.
--     rest p                  the text that is still to come
--     left p                  how many bytes of the file are not yet used
--     some xs                 whether a text has anything in it
use Rattle.std.specs.Prelude.{ℕ, Bool, true, false, List, [], ◌∷◌}
use Rattle.commands.specs.Files.{bytes_left}
use Rattle.account.specs.Founded.{game_of}
use Rattle.account.specs.Texts.{text_of}
use Rattle.account.specs.declared.player.Player.{Player}

abbrev pub rest : Player → List ℕ
rest p = text_of p.commands.rest.now (game_of p.game) p.number

abbrev pub left : Player → ℕ
left p = bytes_left p.commands

abbrev pub some : List ℕ → Bool
some [] = false
some (x ∷ xs) = true
