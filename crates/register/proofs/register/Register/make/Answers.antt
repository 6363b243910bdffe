use Rattle.std.proofs.Common.{◌≡◌, None, [], refl, rules}
use Rattle.stamps.specs.Makes.{first_of}
use Rattle.machine.proofs.Whole.{law_of_runs}
use Rattle.register.proofs.Founding.{first_none, made_as}
use Rattle.register.proofs.register.Register.make.Goals as goal

pub returns-in_err-tag-clause-call : goal.returns-in_err-tag-clause-call
returns-in_err-tag-clause-call g c =
    let m = g.S.Stamp.make in
    let none : None ≡ first_of m c.args.count = search rules in
    let above = first_none m g.met.S.Stamp.laws c.args.count none in
    search rules

pub returns-clause-call : goal.returns-clause-call
returns-clause-call g c = search rules

pub returns-clause-law : goal.returns-clause-law
returns-clause-law g c =
    let m = g.S.Stamp.make in
    let bank = g.B.Bank.meaning c.args.bank.now in
    let lines = c.args.journal.now.lines.now in
    let n = c.args.stations in
    let k = c.args.count in
    let v = c.args.value in
    let size = c.args.size in
    let is = made_as bank _ _ _ (returns-clause-call g c) in (
      (λ calls. law_of_runs m g.met.S.Stamp.laws bank n k v lines size _ is calls),
      record { bank = bank; stations = n; count = k; value = v; lines = lines; size = size; first = _; made = is; calls = []; leads = refl },
    )
