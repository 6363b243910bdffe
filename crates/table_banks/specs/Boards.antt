-- What a board bank means. Assumes nothing.
--     board_needs n       how many lines n stations need
--     board_held t        what the table t of a board holds
--     board_rest t        the lines of the table t behind those
--     board_meaning b     the meaning of the board b
--     board_lines b       the lines of its table
--     board_spare b       the lines behind the first n × n, for n stations
--     board_made r        what making a board answered
use Rattle.std.specs.Prelude.{ℕ, ◌*◌, List, vec_items, Option, Result, Vec}
use Rattle.std.specs.List.{slice_get}
use Rattle.std.specs.Option.{option_map}
use Rattle.std.specs.declared.alloc.Global.{Global}
use Rattle.policy.specs.declared.refusal.Refusal.{Refusal}
use Rattle.banks.specs.Meanings.{Meaning}
use Rattle.table_banks.specs.Banks.{made}
use Rattle.table_banks.specs.Cells.{cell}
use Rattle.table_banks.specs.Notes.{Noted, seen}
use Rattle.table_banks.specs.Bottoms.{bottom, Held, spare, Made}
use Rattle.table_banks.specs.declared.bank.TableBank.{TableBank}
use Rattle.table_banks.specs.declared.board.BoardLine.{BoardLine}
use Rattle.table_banks.specs.declared.board.BoardTable.{BoardTable}

abbrev pub board_needs : ℕ → ℕ
board_needs n = n * n

module _ {R : Type 0} where
  -- the settled and the open record of a cell stand in its line
  abbrev pub line_settled : List (BoardLine R) → ℕ → ℕ → ℕ → Option R
  line_settled xs n w r = option_map (λ l. l.settled) (slice_get xs (cell n w r))

  abbrev pub line_open : List (BoardLine R) → ℕ → ℕ → ℕ → Option R
  line_open xs n w r = option_map (λ l. l.opened) (slice_get xs (cell n w r))

  abbrev pub on_board : Noted → List (BoardLine R) → Meaning R
  on_board k xs = bottom k (line_settled xs k.stations) (line_open xs k.stations)

  abbrev pub board_held : BoardTable R → Held R
  board_held t =
      record {
        notes = seen t.notes;
        settled = line_settled (vec_items t.lines) t.notes.count;
        opened = line_open (vec_items t.lines) t.notes.count;
      }

  abbrev pub board_rest : BoardTable R → List (BoardLine R)
  board_rest t = spare (board_needs t.notes.count) (vec_items t.lines)

  abbrev pub board_lines : TableBank (BoardTable R) → List (BoardLine R)
  board_lines b = vec_items b.table.lines

  abbrev pub board_meaning : TableBank (BoardTable R) → Meaning R
  board_meaning b = on_board (seen b.table.notes) (board_lines b)

  abbrev pub board_spare : TableBank (BoardTable R) → List (BoardLine R)
  board_spare b = board_rest b.table

  abbrev pub board_made : Result (TableBank (BoardTable R)) (Refusal × Vec (BoardLine R) Global) → Made R (BoardLine R)
  board_made = made board_held board_rest
