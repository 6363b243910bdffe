use Rattle.std.proofs.Common.{ap, ◌∙◌, arith}
use Rattle.table_banks.specs.Notes.{seen}
use Rattle.table_banks.specs.Bottoms.{filling}
use Rattle.table_banks.proofs.Bottoms.{made_over}
use Rattle.table_banks.proofs.bank.TableBank.new.Goals as goal

pub returns : goal.returns
returns g c =
    let k = seen c.in-Ok.notes in
    let f = g.T.Table.needs in
    let x = c.args.x in
    made_over c.args.stations f c.args.lines.items x k _ _ c.in-Ok.ensures (omega (arith, c.args.lines.ok.0))
    (c.refill.ensures.after ∙ ap (λ k. filling k.stations x) c.over-table.ensures.noted)
    (c.refill.ensures.kept ∙ c.over-table.ensures.kept)
