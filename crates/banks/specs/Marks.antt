-- What the contracts on marks cite. Assumes nothing.
--     is_up k             the mark makes a cell reachable
use Rattle.std.specs.Prelude.{Bool, true, false}
use Rattle.banks.specs.declared.bank.Mark.{Mark}
use Rattle.banks.specs.declared.bank.Mark.TheVariants.{Up, Down}

abbrev pub is_up : Mark → Bool
is_up Up = true
is_up Down = false
