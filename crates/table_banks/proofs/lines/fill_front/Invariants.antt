use Rattle.std.proofs.Common.{◌≡◌, ◌++◌, drop, replicate}
use Rattle.table_banks.proofs.lines.fill_front.Given as goal

abbrev pub invariant-loop-slot : goal.invariant-loop-slot
invariant-loop-slot g l = l.slot-items ≡ replicate l.slot-index l.line ++ drop l.slot-index l.initial.slot-items
