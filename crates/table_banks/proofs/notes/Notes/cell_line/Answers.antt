use Rattle.std.proofs.Common.{arith}
use Rattle.table_banks.proofs.Placing.{cell_within}
use Rattle.table_banks.proofs.notes.Notes.cell_line.Goals as goal

pub returns : goal.returns
returns c =
    let below = cell_within c.args.self.now.count c.args.writer c.args.reader c.requires in
    record { place = c.place_of.ensures; within = omega (arith, c.place_of.ensures, below) }
