-- Lemmas on board banks. Assumes nothing.
use Rattle.std.proofs.Common.{◌≡◌, ℕ, ◌*◌, ◌≤◌, Bool, true, false, cond, ◌&&◌, eqb, List, ◌++◌, length, drop, set, replicate, Some, None, vec_items, sym, refl, ap, ◌∙◌, arith}
use Rattle.banks.proofs.Shared.{cond_map}
use Rattle.std.specs.List.{slice_get}
use Rattle.std.specs.Option.{option_map}
use Rattle.std.proofs.lemmas.Bool.{cond-true, cond-false, eqb-true, ne_eqb, and_parts, and_left, and_from, eq-eqb}
use Rattle.banks.specs.Meanings.{known, at_cell, started, finished}
use Rattle.table_banks.specs.Cells.{cell}
use Rattle.table_banks.specs.Notes.{Noted, seen, fresh, with_reader}
use Rattle.table_banks.specs.Bottoms.{filling, meant}
use Rattle.table_banks.specs.Boards.{on_board, board_held, line_settled, line_open}
use Rattle.table_banks.specs.declared.board.BoardLine.{BoardLine}
use Rattle.table_banks.specs.declared.board.BoardTable.{BoardTable}
use Rattle.table_banks.proofs.Placing.{cell_within, nth_cell}
use Rattle.table_banks.proofs.Noting.{noted_home}
use Rattle.table_banks.proofs.Tables.{front_line}
use Rattle.table_banks.proofs.Bottoms.{Homes, fresh_bottom, bottom_started, bottom_finished, written}

module _ {R : Type 0} where
  -- every line of the cells holds x twice
  pub board_filled : (n : ℕ) (x : R) (ws xs : List (BoardLine R)) → xs ≡ replicate (n * n) (record { settled = x; opened = x }) ++ drop (n * n) ws → on_board (fresh n) xs ≡ filling n x
  board_filled n x ws xs front =
      fresh_bottom (line_settled xs n) (line_open xs n) n x
      (λ w r h. ap (option_map (λ l. l.settled)) (front_line (n * n) (record { settled = x; opened = x }) xs (drop (n * n) ws) front (cell n w r) (cell_within n w r h)))

-- notes k over the lines xs, with the line of cell (w, r) written anew
module _ {R : Type 0} (k : Noted) (homes : Homes k) (xs : List (BoardLine R)) (room : k.stations * k.stations ≤ length xs) (w r : ℕ) (home : known k.stations w r ≡ true) where
  abbrev with_line : BoardLine R → List (BoardLine R)
  with_line l = set xs (cell k.stations w r) l

  -- a part of the lines, as it then stands in the cells
  part_set : (f : BoardLine R → R) (l : BoardLine R) (v q : ℕ) → known k.stations v q ≡ true → option_map f (slice_get (with_line l) (cell k.stations v q)) ≡ at_cell (λ v q. option_map f (slice_get xs (cell k.stations v q))) w r (Some (f l)) v q
  part_set f l v q g =
      ap (option_map f) (nth_cell k.stations xs room w r l home v q g)
      ∙ cond_map (option_map f) (eqb v w && eqb q r) (Some l) (slice_get xs (cell k.stations v q))

  others : (l : BoardLine R) (v q : ℕ) → known k.stations v q ≡ true → (v ≡ w → ⊥) → line_open (with_line l) k.stations v q ≡ line_open xs k.stations v q
  others l v q g apart = part_set (λ l. l.opened) l v q g ∙ cond-false (eqb v w && eqb q r) _ _ (and_left (eqb v w) (eqb q r) (ne_eqb v w apart))

  board_started : (x : R) (l : BoardLine R) → slice_get xs (cell k.stations w r) ≡ Some l → on_board (with_reader k w (Some r)) (with_line (record { settled = l.settled; opened = x })) ≡ started (on_board k xs) w r x
  board_started x l was =
      bottom_started k homes (line_settled xs n) (line_open xs n) (line_settled (with_line new) n) (line_open (with_line new) n) w (others new) r x same
      (part_set (λ l. l.opened) new w r home ∙ cond-true (eqb w w && eqb r r) _ _ (and_from (eqb w w) (eqb r r) (eq-eqb w w refl) (eq-eqb r r refl)))
    where
      n : ℕ
      n = k.stations

      new : BoardLine R
      new = record { settled = l.settled; opened = x }

      same : (v q : ℕ) → known n v q ≡ true → line_settled (with_line new) n v q ≡ line_settled xs n v q
      same v q g = part_set (λ l. l.settled) new v q g ∙ go (eqb v w && eqb q r) refl
        where
          go : (t : Bool) → (eqb v w && eqb q r) ≡ t → cond t (Some l.settled) (line_settled xs n v q) ≡ line_settled xs n v q
          go true e =
              let a = and_parts (eqb v w) (eqb q r) e in
              sym (ap (λ u. line_settled xs n u q) (eqb-true v w a.0) ∙ ap (line_settled xs n w) (eqb-true q r a.1) ∙ ap (option_map (λ l. l.settled)) was)
          go false e = refl

  board_finished : (x y : R) → on_board (with_reader k w None) (with_line (record { settled = x; opened = y })) ≡ finished (on_board k xs) w r x
  board_finished x y =
      bottom_finished k homes (line_settled xs n) (line_open xs n) (line_settled (with_line new) n) (line_open (with_line new) n) w (others new) r x home (part_set (λ l. l.settled) new)
    where
      n : ℕ
      n = k.stations

      new : BoardLine R
      new = record { settled = x; opened = y }

board_room : {R : Type 0} (t : BoardTable R) → t.notes.count * t.notes.count ≤ length (vec_items t.lines)
board_room t = omega (arith, t.room, t.lines.ok.0)

-- the table t of a board, once the line of cell (w, r), at the place i, is written and its notes are m
module _ {R : Type 0} (t : BoardTable R) (w r : ℕ) (home : known t.notes.count w r ≡ true) {i : ℕ} (at : i ≡ cell t.notes.count w r) {m : Noted} (l : BoardLine R) where
  pub board_put_open : (x : R) → slice_get (vec_items t.lines) i ≡ Some l → m ≡ with_reader (seen t.notes) w (Some r) → on_board m (set (vec_items t.lines) i (record { settled = l.settled; opened = x })) ≡ started (meant (board_held t)) w r x
  board_put_open x was noted =
      written on_board (vec_items t.lines) _ at noted
      (board_started (seen t.notes) (noted_home t.notes) (vec_items t.lines) (board_room t) w r home x l (ap (slice_get (vec_items t.lines)) (sym at) ∙ was))

  pub board_settle : (x : R) → m ≡ with_reader (seen t.notes) w None → on_board m (set (vec_items t.lines) i (record { settled = x; opened = l.opened })) ≡ finished (meant (board_held t)) w r x
  board_settle x noted =
      written on_board (vec_items t.lines) _ at noted
      (board_finished (seen t.notes) (noted_home t.notes) (vec_items t.lines) (board_room t) w r home x l.opened)
