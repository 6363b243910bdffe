-- What the lookup of a station's last finished write answers. Assumes nothing.
--     last_write M s          the lookup for station s: the number of a line, or that there is none
--     FinishedWrite ls u s k line k of ls is one of the u in use, and is a done write of station s
--     LastWrite M s a        what an answer a of the lookup says: line a is a finished write of s, and no higher one is
use Rattle.std.specs.Prelude.{◌≡◌, ℕ, zero, suc, ◌-◌, ◌<◌, ◌≤◌, Bool, true, false, cond, ◌&&◌, List, length, Some, None, Ok, Err, Option, Result, ◌==◌, nat_le}
use Rattle.std.specs.List.{slice_get}
use Rattle.policy.specs.declared.refusal.Refusal.{Refusal}
use Rattle.policy.specs.declared.refusal.Refusal.TheVariants as refusals
use Rattle.banks.specs.Meanings.{inside}
use Rattle.machine.specs.Machines.{Machine}
use Rattle.machine.specs.declared.line.Kind.{Kind}
use Rattle.machine.specs.declared.line.Kind.TheVariants.{Write, Read}
use Rattle.machine.specs.declared.line.LineState.{LineState}
use Rattle.machine.specs.declared.line.LineState.TheVariants.{Collecting, Spreading, Done, Spent}
use Rattle.machine.specs.declared.line.Line.{Line}

abbrev pub done_write : Kind → LineState → Bool
done_write Write Collecting = false
done_write Write Spreading = false
done_write Write Done = true
done_write Write Spent = false
done_write Read state = false

module _ {S V : Type 0} where
  abbrev pub done_write_of : ℕ → Line S V → Bool
  done_write_of s l = done_write l.kind l.state && l.station == s

  abbrev pub found_at : ℕ → Option (Line S V) → Bool
  found_at s None = false
  found_at s (Some l) = done_write_of s l

  -- the highest of the lines 1 to k that is a done write of s
  unfoldable pub last_of : List (Line S V) → ℕ → ℕ → Option ℕ
  last_of lines s zero = None
  last_of lines s (suc k) = cond (found_at s (slice_get lines k)) (Some (suc k)) (last_of lines s k)

  abbrev pub last_write : Machine S V → ℕ → Result (Option ℕ) Refusal
  last_write M s =
      cond (nat_le M.size (length M.lines))
      (cond (inside M.stations s) (Ok (last_of M.lines s M.used)) (Err refusals.UnknownStation))
      (Err refusals.JournalSize)

  pub record FinishedWrite (lines : List (Line S V)) (used s k : ℕ) : Type 0 where
    pub numbered : 1 ≤ k
    pub in_use : k ≤ used
    pub line : Line S V
    pub stands : slice_get lines (k - 1) ≡ Some line
    pub write : line.kind ≡ Write
    pub own : line.station ≡ s
    pub done : line.state ≡ Done

  -- some line k: it is a finished write of s, and no higher one is; none: no line is
  abbrev pub Highest : List (Line S V) → ℕ → ℕ → Option ℕ → Type 0
  Highest lines used s None = (k : ℕ) → FinishedWrite lines used s k → ⊥
  Highest lines used s (Some k) =
      FinishedWrite lines used s k × ((j : ℕ) → k < j → FinishedWrite lines used s j → ⊥)

  abbrev pub LastWrite : Machine S V → ℕ → Result (Option ℕ) Refusal → Type 0
  LastWrite M s (Ok o) = Highest M.lines M.used s o
  LastWrite M s (Err e) = Unit {0}
