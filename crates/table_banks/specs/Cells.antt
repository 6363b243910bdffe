-- Where the cells of a bank stand in a list, a row of cells to each writer. Assumes nothing.
--     cell n w r          the place of cell (w, r), with n cells to a writer
use Rattle.std.specs.Prelude.{ℕ, ◌+◌, ◌-◌, ◌*◌}

abbrev pub cell : ℕ → ℕ → ℕ → ℕ
cell n w r = (w - 1) * n + (r - 1)
