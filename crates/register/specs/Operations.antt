-- What a register knows of the operations of its stations, and how an accepted call moves it. Assumes nothing.
--     operation_at n rows s       the operation that station s has open, of n stations with these rows, or the refusal
--     IsOpen n rows o             o is the operation in the row of its station, of n stations, and has steps to take
--     Moves r after k s row       an accepted open or step of station s leads from r to after: k lines in use, and that row of s
use Rattle.std.specs.Prelude.{◌≡◌, ℕ, ◌+◌, ◌-◌, ◌*◌, ◌<◌, ◌≤◌, cond, List, Ok, Err, Result, slice_set}
use Rattle.policy.specs.declared.refusal.Refusal.{Refusal}
use Rattle.policy.specs.declared.refusal.Refusal.TheVariants as refusals
use Rattle.banks.specs.Meanings.{inside}
use Rattle.machine.specs.Machines.{row_of}
use Rattle.machine.specs.declared.row.Row.{Row}
use Rattle.machine.specs.declared.row.Row.TheVariants.{Idle, Busy}
use Rattle.register.specs.declared.register.Register.{Register}
use Rattle.register.specs.declared.register.operation.Operation.{Operation}

abbrev pub operation_in : ℕ → Row → Result Operation Refusal
operation_in s Idle = Err refusals.Idle
operation_in s (Busy i c) = Ok (record { station = s; number = i; progress = c })

abbrev pub operation_at : ℕ → List Row → ℕ → Result Operation Refusal
operation_at n rows s = cond (inside n s) (operation_in s (row_of rows s)) (Err refusals.UnknownStation)

pub record IsOpen (n : ℕ) (rows : List Row) (o : Operation) : Type 0 where
  pub some : 1 ≤ o.station
  pub known : o.station ≤ n
  pub busy : row_of rows o.station ≡ Busy o.number o.progress
  pub before : o.progress < 3 * n

pub record Moves {S V : Type 0} (r after : Register S V) (k s : ℕ) (row : Row) : Type 0 where
  pub stations : after.stations ≡ r.stations
  pub origin : after.origin ≡ r.origin
  pub used : after.used ≡ k
  pub size : after.size ≡ r.size
  pub moment : after.moment ≡ r.moment + 1
  pub rows : after.table.rows ≡ slice_set r.table.rows (s - 1) row
