use Rattle.std.proofs.Common.{set, ap, ◌∙◌, arith}
use Rattle.table_banks.proofs.Tables.{fill_line_more}
use Rattle.table_banks.proofs.lines.fill_front.Goals as goal

pub loop-slot-preserved : goal.loop-slot-preserved
loop-slot-preserved g c =
    let i = c.loop-slot.slot-index in
    let x = c.args.line in
    ap (λ xs. set xs i x) c.loop-slot.invariant ∙ fill_line_more i x _ (omega arith)
