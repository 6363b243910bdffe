-- What a pile of three stations means: a split over a renumbered board and a post. Assumes nothing.
--     pile_meaning p      the meaning of the pile p
--     order               which station of the board each station is
--     Held x m            every cell of three stations is settled on x and reachable, and nothing is open
--     Placed m            the cells of writer 1 lie two layers deep, in the board's numbers, those of 2 and 3 one layer deep
--     Piled x m           m is a bank of three stations with cells that are held and placed so
use Rattle.std.specs.Prelude.{◌≡◌, ℕ, true, List, [], ◌∷◌, Some, None}
use Rattle.banks.specs.Meanings.{Meaning, known}
use Rattle.layers.specs.Permutations.{look}
use Rattle.layers.specs.Renumberings.{renumbering_meaning}
use Rattle.layers.specs.Splits.{split_of}
use Rattle.layers.specs.declared.renumbering.Renumbering.{Renumbering}
use Rattle.layers.specs.declared.split.Split.{Split}
use Rattle.table_banks.specs.Boards.{board_meaning}
use Rattle.table_banks.specs.Posts.{post_meaning}
use Rattle.table_banks.specs.declared.bank.TableBank.{TableBank}
use Rattle.table_banks.specs.declared.board.BoardTable.{BoardTable}
use Rattle.table_banks.specs.declared.post.PostTable.{PostTable}

abbrev pub order : List ℕ
order = 2 ∷ 3 ∷ 1 ∷ []

module _ {R : Type 0} where
  abbrev pub pile_meaning : Split (Renumbering (TableBank (BoardTable R))) (TableBank (PostTable R)) → Meaning R
  pile_meaning = split_of (renumbering_meaning board_meaning) post_meaning

  abbrev pub Held : R → Meaning R → Type 0
  Held x m = (w r : ℕ) → known 3 w r ≡ true → (m.settled w r ≡ Some x) × (m.reachable w r ≡ true) × (m.opened w ≡ None)

  abbrev pub Placed : Meaning R → Type 0
  Placed m = (r : ℕ) → (m.place 1 r ≡ (2, 2, look 3 order r)) × (m.place 2 r ≡ (1, 2, r)) × (m.place 3 r ≡ (1, 3, r))

  abbrev pub Piled : R → Meaning R → Type 0
  Piled x m = (m.stations ≡ 3) × Held x m × Placed m
