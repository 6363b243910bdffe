-- How far the operations of the stations have come, in numbers that bound the moment. Assumes nothing.
--     owed n row          how many steps the operation in a row has still to take, of n stations
--     past n row          how far its progress is beyond its last step
use Rattle.std.specs.Prelude.{ℕ, suc, ◌-◌, ◌*◌}
use Rattle.machine.specs.declared.row.Row.{Row}
use Rattle.machine.specs.declared.row.Row.TheVariants.{Idle, Busy}

abbrev pub owed : ℕ → Row → ℕ
owed n Idle = 0
owed n (Busy i c) = 3 * n - c

abbrev pub past : ℕ → Row → ℕ
past n Idle = 0
past n (Busy i c) = suc c - 3 * n
