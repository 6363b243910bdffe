use Rattle.std.proofs.Common.{set, ap, ◌∙◌, arith}
use Rattle.table_banks.specs.Notes.{noting}
use Rattle.table_banks.proofs.Noting.{noting_mark}
use Rattle.table_banks.proofs.notes.Notes.note_mark.Goals as goal

pub returns : goal.returns
returns c =
    let k = c.args.self.now in
    ap (λ i. noting k.count k.readers (set k.marks i c.args.mark)) c.place_of-i.ensures
    ∙ noting_mark k.count k.readers k.marks c.args.writer c.args.reader c.args.mark c.requires (omega arith) (omega arith)
