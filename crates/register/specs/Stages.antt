-- What a bank chooses in a step. Assumes nothing.
--     choice_at f s row           what a bank that chooses by f chooses in the next step of station s
use Rattle.std.specs.Prelude.{ℕ, ◌+◌, Bool}
use Rattle.machine.specs.declared.row.Row.{Row}
use Rattle.machine.specs.declared.row.Row.TheVariants.{Idle, Busy}

-- the writer of the cell that the next step reads, if it reads one
abbrev pub next_writer : Row → ℕ
next_writer Idle = 1
next_writer (Busy i c) = c + 1

abbrev pub choice_at : (ℕ → ℕ → Bool) → ℕ → Row → Bool
choice_at f s row = f (next_writer row) s
