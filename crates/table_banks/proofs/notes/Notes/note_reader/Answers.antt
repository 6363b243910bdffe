use Rattle.std.proofs.Common.{arith}
use Rattle.table_banks.proofs.Noting.{within_set, homed_bounds, noting_reader}
use Rattle.table_banks.proofs.notes.Notes.note_reader.Goals as goal

pub invariant_of-self : goal.invariant_of-self
invariant_of-self c =
    let k = c.args.self.now in
    record { range = k.range; within = within_set k.count k.readers _ _ k.within (homed_bounds k.count c.args.writer c.args.reader c.requires.1) }

pub returns : goal.returns
returns c =
    let k = c.args.self.now in
    noting_reader k.count k.readers k.marks c.args.writer c.args.reader c.requires.0 (omega arith)
