use Rattle.std.proofs.Common.{◌≡◌, rules}
use Rattle.stamps.proofs.worked.number_values.Goals as goal

pub returns-then-eq : goal.returns-then-eq
returns-then-eq c =
    let five : c.in_ok-five.five.number ≡ 160 = search rules in
    let next = simp five at c.next.ensures in
    search rules
