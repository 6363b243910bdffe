-- A game of the code, as the game of the definitions. Assumes nothing.
--     bank_meaning b          what the bank b means
--     choice_of b             whether a read of it answers the open record of a cell
--     open_first kind         the same of a bank of that kind
--     seen_game g             the game g
--     game_of g               the same, if one is made
--     begun r                 the words of the first command, and the game after it
--     game_said a g           the words of the answer a that left the game g
--     game_told a g           the same, and the game
--     reply g r               the words of the command r that was read, or of the refusal, and the game after it
use Rattle.std.specs.Prelude.{ℕ, Bool, true, false, List, [], Some, None, Ok, Err, vec_items, codes, Option, Result}
use Rattle.policy.specs.declared.entry.PolicyNumber.{PolicyNumber}
use Rattle.policy.specs.declared.refusal.Refusal.{Refusal}
use Rattle.commands.specs.declared.bank.BankKind.{BankKind}
use Rattle.commands.specs.declared.bank.BankKind.TheVariants as kinds
use Rattle.commands.specs.declared.command.Command.{Command}
use Rattle.banks.specs.Meanings.{Meaning}
use Rattle.banks.specs.declared.record.Record.{Record}
use Rattle.stamps.specs.declared.pair.PairStamp.{PairStamp}
use Rattle.table_banks.specs.Boards.{board_meaning}
use Rattle.table_banks.specs.Posts.{post_meaning}
use Rattle.machine.specs.declared.line.Line.{Line}
use Rattle.register.specs.Seen.{seen}
use Rattle.account.specs.Games.{Answer}
use Rattle.account.specs.Texts as texts
use Rattle.account.specs.Words.{refusal_said, said}
use Rattle.account.specs.declared.bank.AnyBank.{AnyBank}
use Rattle.account.specs.declared.bank.AnyBank.TheVariants.{Board, Post}
use Rattle.account.specs.declared.game.Game.{Game}

-- what a cell holds
abbrev pub Cell : Type 0
Cell = Record PairStamp PolicyNumber

abbrev pub bank_meaning : AnyBank → Meaning Cell
bank_meaning (Board b) = board_meaning b
bank_meaning (Post b) = post_meaning b

abbrev pub choice_of : AnyBank → Bool
choice_of (Board b) = true
choice_of (Post b) = false

-- a board
abbrev pub open_first : BankKind → Bool
open_first kinds.Board = true
open_first kinds.Post = false

abbrev pub seen_game : Game → texts.Game
seen_game g = record { choice = choice_of g.bank; machine = seen g.register (bank_meaning g.bank) (vec_items g.lines) }

abbrev pub game_of : Option Game → Option texts.Game
game_of None = None
game_of (Some g) = Some (seen_game g)

abbrev pub begun : Result Game Refusal → List ℕ × Option texts.Game
begun (Ok g) = (codes "ok", Some (seen_game g))
begun (Err e) = (refusal_said e, None)

-- of the journal, if there is one
abbrev pub game_used : Option texts.Game → ℕ
game_used None = 0
game_used (Some g) = g.machine.used

abbrev pub game_lines : Option texts.Game → List (Line PairStamp PolicyNumber)
game_lines None = []
game_lines (Some g) = g.machine.lines

abbrev pub game_said : Answer → Option texts.Game → List ℕ
game_said a g = said (game_used g) (game_lines g) a

abbrev pub game_told : Answer → Option texts.Game → List ℕ × Option texts.Game
game_told a g = (game_said a g, g)

-- a command that was read, or the refusal that ended the reading
abbrev pub reply : Option texts.Game → Result Command Refusal → List ℕ × Option texts.Game
reply g (Ok c) = texts.answer g c
reply g (Err e) = (refusal_said e, g)
