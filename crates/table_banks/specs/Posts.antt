-- What a post bank means. Assumes nothing.
--     outgoing n w        the place of the writer w's outgoing record, behind the cells of n stations
--     post_needs n        how many lines n stations need
--     post_held t         what the table t of a post holds
--     post_rest t         the lines of the table t behind those
--     post_meaning b      the meaning of the post b
--     post_lines b        the lines of its table
--     post_spare b        the lines behind the first n × n + n, for n stations
--     post_made r         what making a post answered
use Rattle.std.specs.Prelude.{ℕ, ◌+◌, ◌-◌, ◌*◌, List, vec_items, Option, Result, Vec}
use Rattle.std.specs.List.{slice_get}
use Rattle.std.specs.declared.alloc.Global.{Global}
use Rattle.policy.specs.declared.refusal.Refusal.{Refusal}
use Rattle.banks.specs.Meanings.{Meaning}
use Rattle.table_banks.specs.Banks.{made}
use Rattle.table_banks.specs.Cells.{cell}
use Rattle.table_banks.specs.Notes.{Noted, seen}
use Rattle.table_banks.specs.Bottoms.{bottom, Held, spare, Made}
use Rattle.table_banks.specs.declared.bank.TableBank.{TableBank}
use Rattle.table_banks.specs.declared.post.PostTable.{PostTable}

abbrev pub outgoing : ℕ → ℕ → ℕ
outgoing n w = n * n + (w - 1)

abbrev pub post_needs : ℕ → ℕ
post_needs n = n * n + n

module _ {R : Type 0} where
  -- a settled record stands in its cell's line, an open one in its writer's outgoing line
  abbrev pub cell_record : List R → ℕ → ℕ → ℕ → Option R
  cell_record xs n w r = slice_get xs (cell n w r)

  abbrev pub outgoing_record : List R → ℕ → ℕ → ℕ → Option R
  outgoing_record xs n w r = slice_get xs (outgoing n w)

  abbrev pub on_post : Noted → List R → Meaning R
  on_post k xs = bottom k (cell_record xs k.stations) (outgoing_record xs k.stations)

  abbrev pub post_held : PostTable R → Held R
  post_held t =
      record {
        notes = seen t.notes;
        settled = cell_record (vec_items t.lines) t.notes.count;
        opened = outgoing_record (vec_items t.lines) t.notes.count;
      }

  abbrev pub post_rest : PostTable R → List R
  post_rest t = spare (post_needs t.notes.count) (vec_items t.lines)

  abbrev pub post_lines : TableBank (PostTable R) → List R
  post_lines b = vec_items b.table.lines

  abbrev pub post_meaning : TableBank (PostTable R) → Meaning R
  post_meaning b = on_post (seen b.table.notes) (post_lines b)

  abbrev pub post_spare : TableBank (PostTable R) → List R
  post_spare b = post_rest b.table

  abbrev pub post_made : Result (TableBank (PostTable R)) (Refusal × Vec R Global) → Made R R
  post_made = made post_held post_rest
