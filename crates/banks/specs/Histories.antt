-- The regular cell, over any list of calls on any bank. Assumes nothing.
--     Call R                  a call on a bank; a read carries the bank's choice
--     left m c, accepted m c  what a call leaves, and whether it is accepted
--     Event R                 what an accepted call did to the records and marks
--     run m h cs              the calls cs on a bank that means m: its history and what it then means
--     underway h w            what writer w started and has not finished since
--     last_finished h w r     the record last finished in cell (w, r), or filled
--     last_marked h w r       how cell (w, r) was last marked; filled: up
--     Regular h n w r a       what a read of cell (w, r) of n stations may answer after the history h
--     RegularFrom m x         filled with x, a bank's reads are regular after every list of calls
--     writer_of c             whose cells a call is on
--     Undisturbed m           a call on one writer's cells leaves what reads of another's may answer
use Rattle.std.specs.Prelude.{◌≡◌, ℕ, Bool, true, false, cond, ◌&&◌, ◌⊎◌, List, [], ◌∷◌, is_ok, Some, None, Ok, Err, Option, Result, ◌==◌, ◌≢◌}
use Rattle.policy.specs.declared.refusal.Refusal.{Refusal}
use Rattle.policy.specs.declared.refusal.Refusal.TheVariants.{UnknownStation, Unreachable}
use Rattle.banks.specs.Meanings.{Meaning, known, filled, read, start, finish, mark}

pub data Call (R : Type 0) : Type 0 where
  fills : R → Call R
  reads : ℕ → ℕ → Bool → Call R
  starts : ℕ → ℕ → R → Call R
  finishes : ℕ → Call R
  marks : ℕ → ℕ → Bool → Call R

pub data Event (R : Type 0) : Type 0 where
  was_filled : R → Event R
  was_read : Event R
  was_started : ℕ → ℕ → R → Event R
  was_finished : ℕ → Event R
  was_marked : ℕ → ℕ → Bool → Event R

module _ {R : Type 0} where
  abbrev pub left : Meaning R → Call R → Meaning R
  left m (fills x) = filled m x
  left m (reads w r c) = (read m c w r).1
  left m (starts w r x) = (start m w r x).1
  left m (finishes w) = (finish m w).1
  left m (marks w r b) = (mark m w r b).1

  abbrev pub accepted : Meaning R → Call R → Bool
  accepted m (fills x) = true
  accepted m (reads w r c) = is_ok (read m c w r).0
  accepted m (starts w r x) = is_ok (start m w r x).0
  accepted m (finishes w) = is_ok (finish m w).0
  accepted m (marks w r b) = is_ok (mark m w r b).0

  abbrev pub event : Call R → Event R
  event (fills x) = was_filled x
  event (reads w r c) = was_read
  event (starts w r x) = was_started w r x
  event (finishes w) = was_finished w
  event (marks w r b) = was_marked w r b

  -- the newest event first
  abbrev pub run : Meaning R → List (Event R) → List (Call R) → List (Event R) × Meaning R
  run m h [] = (h, m)
  run m h (c ∷ cs) = run (left m c) (cond (accepted m c) (event c ∷ h) h) cs

  abbrev pub underway : List (Event R) → ℕ → Option (ℕ × R)
  underway [] w = None
  underway (was_filled x ∷ h) w = None
  underway (was_read ∷ h) w = underway h w
  underway (was_started v r x ∷ h) w = cond (w == v) (Some (r, x)) (underway h w)
  underway (was_finished v ∷ h) w = cond (w == v) None (underway h w)
  underway (was_marked v r b ∷ h) w = underway h w

  -- a finish settles the cell whose record was underway; other cells keep theirs
  abbrev pub settled_by : Option (ℕ × R) → ℕ → Option R → Option R
  settled_by None r old = old
  settled_by (Some o) r old = cond (r == o.0) (Some o.1) old

  abbrev pub last_finished : List (Event R) → ℕ → ℕ → Option R
  last_finished [] w r = None
  last_finished (was_filled x ∷ h) w r = Some x
  last_finished (was_read ∷ h) w r = last_finished h w r
  last_finished (was_started v q x ∷ h) w r = last_finished h w r
  last_finished (was_finished v ∷ h) w r = cond (w == v) (settled_by (underway h w) r (last_finished h w r)) (last_finished h w r)
  last_finished (was_marked v q b ∷ h) w r = last_finished h w r

  abbrev pub last_marked : List (Event R) → ℕ → ℕ → Bool
  last_marked [] w r = false
  last_marked (was_filled x ∷ h) w r = true
  last_marked (was_read ∷ h) w r = last_marked h w r
  last_marked (was_started v q x ∷ h) w r = last_marked h w r
  last_marked (was_finished v ∷ h) w r = last_marked h w r
  last_marked (was_marked v q b ∷ h) w r = cond (w == v && r == q) b (last_marked h w r)

  -- An answered record is the last one finished, or one underway; with none underway for that cell, exactly the last one
  -- finished. A refusal is 4 at an unknown number, or 15 at a cell that was last marked down.
  abbrev pub Regular : List (Event R) → ℕ → ℕ → ℕ → Result R Refusal → Type 0
  Regular h n w r (Ok y) =
      ((last_finished h w r ≡ Some y) ⊎ (underway h w ≡ Some (r, y)))
      × (((x : R) → underway h w ≢ Some (r, x)) → last_finished h w r ≡ Some y)
  Regular h n w r (Err e) =
      ((known n w r ≡ false) × (e ≡ UnknownStation))
      ⊎ ((known n w r ≡ true) × (last_marked h w r ≡ false) × ((p : ℕ × ℕ × ℕ) × (e ≡ Unreachable p)))

  abbrev pub RegularFrom : Meaning R → R → Type 0
  RegularFrom m x =
      (calls : List (Call R)) (c : Bool) (w r : ℕ)
      → Regular (run (filled m x) (was_filled x ∷ []) calls).0 m.stations w r (read (run (filled m x) (was_filled x ∷ []) calls).1 c w r).0

  abbrev pub writer_of : Call R → Option ℕ
  writer_of (fills x) = None
  writer_of (reads w r c) = Some w
  writer_of (starts w r x) = Some w
  writer_of (finishes w) = Some w
  writer_of (marks w r b) = Some w

  abbrev pub Undisturbed : Meaning R → Type 0
  Undisturbed m = (call : Call R) (v w : ℕ) → writer_of call ≡ Some v → (w ≢ v) → (c : Bool) (r : ℕ) → (read (left m call) c w r).0 ≡ (read m c w r).0
