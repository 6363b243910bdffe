-- Lemmas on post banks. Assumes nothing.
use Rattle.std.proofs.Common.{◌≡◌, ℕ, ◌<◌, ◌≤◌, true, cond, eqb, List, ◌++◌, length, drop, set, replicate, Some, None, vec_items, refl, ◌∙◌, arith}
use Rattle.banks.proofs.Shared.{inside_bounds}
use Rattle.std.specs.List.{slice_get}
use Rattle.std.proofs.lemmas.Bool.{cond-true, cond-false, ne_eqb, eq-eqb, and_parts}
use Rattle.banks.specs.Meanings.{inside, known, started, finished}
use Rattle.table_banks.specs.Cells.{cell}
use Rattle.table_banks.specs.Notes.{Noted, seen, fresh, with_reader}
use Rattle.table_banks.specs.Bottoms.{filling, meant}
use Rattle.table_banks.specs.Posts.{outgoing, post_needs, on_post, post_held, cell_record, outgoing_record}
use Rattle.table_banks.specs.declared.post.PostTable.{PostTable}
use Rattle.table_banks.proofs.Placing.{known_bounds, cell_within, nth_cell, nth_set}
use Rattle.table_banks.proofs.Noting.{noted_home}
use Rattle.table_banks.proofs.Tables.{front_line}
use Rattle.table_banks.proofs.Bottoms.{Homes, fresh_bottom, bottom_started, bottom_finished, written}

cell_needed : (n w r : ℕ) → known n w r ≡ true → cell n w r < post_needs n
cell_needed n w r h = let a = cell_within n w r h in omega arith

pub post_filled : {R : Type 0} (n : ℕ) (x : R) (ws xs : List R) → xs ≡ replicate (post_needs n) x ++ drop (post_needs n) ws → on_post (fresh n) xs ≡ filling n x
post_filled n x ws xs front =
    fresh_bottom (cell_record xs n) (outgoing_record xs n) n x
    (λ w r h. front_line (post_needs n) x xs (drop (post_needs n) ws) front (cell n w r) (cell_needed n w r h))

outgoing_below : (n w : ℕ) → inside n w ≡ true → outgoing n w < post_needs n
outgoing_below n w h = let b = inside_bounds n w h in omega arith

writer_inside : (n w r : ℕ) → known n w r ≡ true → inside n w ≡ true
writer_inside n w r h = (and_parts (inside n w) (inside n r) h).0

-- lines for the cells and the outgoing records of n stations
module _ {R : Type 0} (n : ℕ) (xs : List R) (room : post_needs n ≤ length xs) where
  -- an outgoing record set
  outgoing_set : (w : ℕ) (y : R) → inside n w ≡ true → (j : ℕ) → slice_get (set xs (outgoing n w) y) j ≡ cond (eqb j (outgoing n w)) (Some y) (slice_get xs j)
  outgoing_set w y h j = nth_set xs (outgoing n w) j y (let a = outgoing_below n w h in omega arith)

  cell_beside : (w : ℕ) (y : R) → inside n w ≡ true → (v q : ℕ) → known n v q ≡ true → cell_record (set xs (outgoing n w) y) n v q ≡ cell_record xs n v q
  cell_beside w y h v q g =
      outgoing_set w y h (cell n v q)
      ∙ cond-false (eqb (cell n v q) (outgoing n w)) _ _ (ne_eqb (cell n v q) (outgoing n w) (λ e. let a = cell_within n v q g in omega arith))

  -- a settled record set
  outgoing_beside : (w r : ℕ) (y : R) → known n w r ≡ true → (v : ℕ) → slice_get (set xs (cell n w r) y) (outgoing n v) ≡ slice_get xs (outgoing n v)
  outgoing_beside w r y h v =
      let a = cell_within n w r h in
      nth_set xs (cell n w r) (outgoing n v) y (omega arith)
      ∙ cond-false (eqb (outgoing n v) (cell n w r)) _ _ (ne_eqb (outgoing n v) (cell n w r) (λ e. omega arith))

-- notes k over the lines xs, before a change of cell (w, r) to the record x
module _ {R : Type 0} (k : Noted) (homes : Homes k) (xs : List R) (room : post_needs k.stations ≤ length xs) (w r : ℕ) (home : known k.stations w r ≡ true) (x : R) where
  abbrev n : ℕ
  n = k.stations

  own : inside n w ≡ true
  own = writer_inside n w r home

  post_started : on_post (with_reader k w (Some r)) (set xs (outgoing n w) x) ≡ started (on_post k xs) w r x
  post_started =
      bottom_started k homes (cell_record xs n) (outgoing_record xs n) (cell_record (set xs (outgoing n w) x) n) (outgoing_record (set xs (outgoing n w) x) n) w others r x (cell_beside n xs room w x own)
      (outgoing_set n xs room w x own (outgoing n w) ∙ cond-true (eqb (outgoing n w) (outgoing n w)) _ _ (eq-eqb (outgoing n w) (outgoing n w) refl))
    where
      others : (v q : ℕ) → known n v q ≡ true → (v ≡ w → ⊥) → outgoing_record (set xs (outgoing n w) x) n v q ≡ outgoing_record xs n v q
      others v q g apart =
          let a = known_bounds n v q g in
          let b = inside_bounds n w own in
          outgoing_set n xs room w x own (outgoing n v)
          ∙ cond-false (eqb (outgoing n v) (outgoing n w)) _ _ (ne_eqb (outgoing n v) (outgoing n w) (λ e. apart (omega arith)))

  post_finished : on_post (with_reader k w None) (set xs (cell n w r) x) ≡ finished (on_post k xs) w r x
  post_finished =
      bottom_finished k homes (cell_record xs n) (outgoing_record xs n) (cell_record (set xs (cell n w r) x) n) (outgoing_record (set xs (cell n w r) x) n) w (λ v q g apart. outgoing_beside n xs room w r x home v) r x home
      (nth_cell n xs (omega arith) w r x home)

post_room : {R : Type 0} (t : PostTable R) → post_needs t.notes.count ≤ length (vec_items t.lines)
post_room t = omega (arith, t.room, t.lines.ok.0)

-- the table t of a post, once the line at the place i is written for cell (w, r) and its notes are m
module _ {R : Type 0} (t : PostTable R) (w r : ℕ) (home : known t.notes.count w r ≡ true) (x : R) {i : ℕ} {m : Noted} where
  pub post_put_open : i ≡ outgoing t.notes.count w → m ≡ with_reader (seen t.notes) w (Some r) → on_post m (set (vec_items t.lines) i x) ≡ started (meant (post_held t)) w r x
  post_put_open at noted = written on_post (vec_items t.lines) _ at noted (post_started (seen t.notes) (noted_home t.notes) (vec_items t.lines) (post_room t) w r home x)

  pub post_settle : i ≡ cell t.notes.count w r → m ≡ with_reader (seen t.notes) w None → on_post m (set (vec_items t.lines) i x) ≡ finished (meant (post_held t)) w r x
  post_settle at noted = written on_post (vec_items t.lines) _ at noted (post_finished (seen t.notes) (noted_home t.notes) (vec_items t.lines) (post_room t) w r home x)
