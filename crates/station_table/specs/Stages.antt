-- The stage of an operation. Assumes nothing.
--     stage_of n c                the stage at progress c, of n stations
use Rattle.std.specs.Prelude.{ℕ, ◌+◌, ◌-◌, ◌*◌, ◌%◌, cond, ◌==◌, nat_lt}
use Rattle.station_table.specs.declared.stage.Stage.{Stage}
use Rattle.station_table.specs.declared.stage.Stage.TheVariants.{Collecting, Stamping, Starting, Finishing, Ending}

abbrev pub stage_of : ℕ → ℕ → Stage
stage_of n c =
    cond (nat_lt c n) (cond (c + 1 == n) Stamping Collecting)
    (cond ((c - n) % 2 == 0) Starting (cond (c + 1 == 3 * n) Ending Finishing))
