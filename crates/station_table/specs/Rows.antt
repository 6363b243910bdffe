-- What the contracts on the station table cite. Assumes nothing.
--     advanced row c      the row with its operation at progress c; an idle one stays idle
use Rattle.std.specs.Prelude.{ℕ}
use Rattle.machine.specs.declared.row.Row.{Row}
use Rattle.machine.specs.declared.row.Row.TheVariants.{Idle, Busy}

abbrev pub advanced : Row → ℕ → Row
advanced Idle c = Idle
advanced (Busy i b) c = Busy i c
