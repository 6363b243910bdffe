use Rattle.std.proofs.Common.{◌≡◌, true, Ok, sym, ap, ◌∙◌, arith}
use Rattle.std.proofs.lemmas.Bool.{cond-true}
use Rattle.std.proofs.lemmas.Bool.Decides.{nat_tests}
use Rattle.banks.specs.Meanings.{inside}
use Rattle.table_banks.proofs.Noting.{fresh_noting}
use Rattle.table_banks.proofs.notes.Notes.new.Goals as goal

pub returns : goal.returns
returns c =
    let n = c.args.stations in
    let here : inside 16 n ≡ true = grind (arith, nat_tests) in
    ap Ok (fresh_noting n) ∙ sym (cond-true (inside 16 n) _ _ here)
