use Rattle.std.proofs.Common.{◌≡◌, ◌-◌, get_or, None, sym, ◌∙◌, rules}
use Rattle.table_banks.specs.Notes.{seen}
use Rattle.table_banks.proofs.Noting.{noted_home, homed_by}
use Rattle.table_banks.proofs.notes.Notes.reader.Goals as goal

pub returns : goal.returns
returns c =
    let k = c.args.self.now in
    let w = c.args.writer in
    let o = get_or k.readers (w - 1) None in
    let e : o ≡ (seen k).reader w = search rules in
    record { value = e; home = homed_by k.count w o (λ r f. noted_home k w r (sym e ∙ f)) }
