-- What a bank of cells means, and what each call answers and leaves. Assumes nothing.
--     Meaning R                       a bank over records of the type R, as its calls see it
--     Stationed m                     m has 1 to 16 stations
--     inside n w                      w is one of the stations 1 to n
--     filled m x                      m with every cell settled on x, nothing open, all cells reachable
--     read m c w r                    what a read of cell (w, r) answers and leaves; c: of two records, the open one
--     start m w r x, finish m w       what these calls answer and leave
--     mark m w r up, located m w r    the same
use Rattle.std.specs.Prelude.{ℕ, ◌≤◌, Bool, cond, ◌&&◌, Some, None, Ok, Err, Option, Result, ◌==◌, nat_le}
use Rattle.policy.specs.declared.refusal.Refusal.{Refusal}
use Rattle.policy.specs.declared.refusal.Refusal.TheVariants.{UnknownStation, Unreachable, RecordOpen, NothingOpen}

-- depth, writer, reader
abbrev pub Place : Type 0
Place = ℕ × ℕ × ℕ

-- Cell (w, r) is written by station w and read by station r. Every cell has a settled record; every writer at most one
-- open record, for one named reader; every cell is reachable or not, and has a place in the bank at the bottom.
-- Numbers that are no station have no record, nothing open, and are not reachable.
pub record Meaning (R : Type 0) : Type 0 where
  pub stations : ℕ
  pub settled : ℕ → ℕ → Option R
  pub opened : ℕ → Option (ℕ × R)
  pub reachable : ℕ → ℕ → Bool
  pub place : ℕ → ℕ → Place

abbrev pub Stationed : {R : Type 0} → Meaning R → Type 0
Stationed m = (1 ≤ m.stations) × (m.stations ≤ 16)

abbrev pub inside : ℕ → ℕ → Bool
inside n w = nat_le 1 w && nat_le w n

-- both numbers of the cell are stations
abbrev pub known : ℕ → ℕ → ℕ → Bool
known n w r = inside n w && inside n r

-- f with y in the place of what it has at (w, r)
abbrev pub at_cell : {Y : Type 0} → (ℕ → ℕ → Y) → ℕ → ℕ → Y → ℕ → ℕ → Y
at_cell f w r y v q = cond (v == w && q == r) y (f v q)

-- f with y in the place of what it has at w
abbrev pub at_row : {Y : Type 0} → (ℕ → Y) → ℕ → Y → ℕ → Y
at_row f w y v = cond (v == w) y (f v)

module _ {R : Type 0} where
  abbrev pub filled : Meaning R → R → Meaning R
  filled m x =
      record {
        stations = m.stations;
        settled = λ w r. cond (known m.stations w r) (Some x) None;
        opened = λ w. None;
        reachable = known m.stations;
        place = m.place;
      }

  -- the record that a read answers: the settled one, unless o is open for r and the bank chooses it
  abbrev pub chosen : Option (ℕ × R) → ℕ → Bool → Option R → Option R
  chosen None r c settled = settled
  chosen (Some o) r c settled = cond (o.0 == r && c) (Some o.1) settled

  abbrev pub record_or_4 : Option R → Result R Refusal
  record_or_4 None = Err UnknownStation
  record_or_4 (Some x) = Ok x

  abbrev pub read : Meaning R → Bool → ℕ → ℕ → Result R Refusal × Meaning R
  read m c w r = (
    cond (known m.stations w r)
        (cond (m.reachable w r) (record_or_4 (chosen (m.opened w) r c (m.settled w r))) (Err (Unreachable (m.place w r))))
        (Err UnknownStation),
    m,
  )

  abbrev pub started : Meaning R → ℕ → ℕ → R → Meaning R
  started m w r x =
      record {
        stations = m.stations;
        settled = m.settled;
        opened = at_row m.opened w (Some (r, x));
        reachable = m.reachable;
        place = m.place;
      }

  abbrev pub start_at : Option (ℕ × R) → Meaning R → ℕ → ℕ → R → Result (Unit {0}) Refusal × Meaning R
  start_at None m w r x = (Ok tt, started m w r x)
  start_at (Some o) m w r x = (Err RecordOpen, m)

  abbrev pub start : Meaning R → ℕ → ℕ → R → Result (Unit {0}) Refusal × Meaning R
  start m w r x =
      cond (known m.stations w r)
      (cond (m.reachable w r) (start_at (m.opened w) m w r x) (Err (Unreachable (m.place w r)), m))
      (Err UnknownStation, m)

  abbrev pub finished : Meaning R → ℕ → ℕ → R → Meaning R
  finished m w r x =
      record {
        stations = m.stations;
        settled = at_cell m.settled w r (Some x);
        opened = at_row m.opened w None;
        reachable = m.reachable;
        place = m.place;
      }

  abbrev pub finish_at : Option (ℕ × R) → Meaning R → ℕ → Result (Unit {0}) Refusal × Meaning R
  finish_at None m w = (Err NothingOpen, m)
  finish_at (Some o) m w =
      cond (m.reachable w o.0) (Ok tt, finished m w o.0 o.1) (Err (Unreachable (m.place w o.0)), m)

  abbrev pub finish : Meaning R → ℕ → Result (Unit {0}) Refusal × Meaning R
  finish m w = cond (inside m.stations w) (finish_at (m.opened w) m w) (Err UnknownStation, m)

  abbrev pub marked : Meaning R → ℕ → ℕ → Bool → Meaning R
  marked m w r up =
      record {
        stations = m.stations;
        settled = m.settled;
        opened = m.opened;
        reachable = at_cell m.reachable w r up;
        place = m.place;
      }

  abbrev pub mark : Meaning R → ℕ → ℕ → Bool → Result (Unit {0}) Refusal × Meaning R
  mark m w r up = cond (known m.stations w r) (Ok tt, marked m w r up) (Err UnknownStation, m)

  abbrev pub located : Meaning R → ℕ → ℕ → Result Place Refusal
  located m w r = cond (known m.stations w r) (Ok (m.place w r)) (Err UnknownStation)
