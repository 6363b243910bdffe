-- What a bank at the bottom of a pile means, from its notes and where its records stand. Assumes nothing.
--     bottom k s o        notes k, settled records s and open records o, each by writer and reader
--     Held R              what a table holds: these three
--     meant h             what a bank over a table that holds h means
--     filling n x         a bank of n stations made filled with x
--     spare n xs          the lines of a table behind the first n
--     Made R L            what making a bank answers: the meaning and the spare lines, or the refusal and the table
--     making n f xs x     the same of n stations that need f lines, over the lines xs, filled with x
use Rattle.std.specs.Prelude.{ℕ, cond, List, length, drop, Some, None, Ok, Err, Option, Result, nat_le}
use Rattle.std.specs.Option.{option_map}
use Rattle.policy.specs.declared.refusal.Refusal.{Refusal}
use Rattle.policy.specs.declared.refusal.Refusal.TheVariants.{StationCount, TableSize}
use Rattle.banks.specs.Meanings.{Meaning, inside, known}
use Rattle.table_banks.specs.Notes.{Noted}

abbrev pub open_record : {R : Type 0} → Option ℕ → (ℕ → Option R) → Option (ℕ × R)
open_record None o = None
open_record (Some r) o = option_map (λ x. (r, x)) (o r)

abbrev pub bottom : {R : Type 0} → Noted → (ℕ → ℕ → Option R) → (ℕ → ℕ → Option R) → Meaning R
bottom k s o =
    record {
      stations = k.stations;
      settled = λ w r. cond (known k.stations w r) (s w r) None;
      opened = λ w. open_record (k.reader w) (o w);
      reachable = k.up;
      place = λ w r. (0, w, r);
    }

pub record Held (R : Type 0) : Type 0 where
  pub notes : Noted
  pub settled : ℕ → ℕ → Option R
  pub opened : ℕ → ℕ → Option R

abbrev pub meant : {R : Type 0} → Held R → Meaning R
meant h = bottom h.notes h.settled h.opened

abbrev pub filling : {R : Type 0} → ℕ → R → Meaning R
filling n x =
    record {
      stations = n;
      settled = λ w r. cond (known n w r) (Some x) None;
      opened = λ w. None;
      reachable = known n;
      place = λ w r. (0, w, r);
    }

abbrev pub spare : {L : Type 0} → ℕ → List L → List L
spare n xs = drop n xs

abbrev pub Made : Type 0 → Type 0 → Type 0
Made R L = Result (Meaning R × List L) (Refusal × List L)

-- n stations over a table that needs so many lines: refused by 1, then 3
abbrev pub making : {R L : Type 0} → ℕ → ℕ → List L → R → Made R L
making n needed xs x =
    cond (inside 16 n)
    (cond (nat_le needed (length xs)) (Ok (filling n x, spare needed xs)) (Err (TableSize, xs)))
    (Err (StationCount, xs))
