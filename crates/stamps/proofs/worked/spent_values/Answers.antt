use Rattle.std.proofs.Common.{◌≡◌, rules}
use Rattle.stamps.proofs.worked.spent_values.Goals as goal

pub returns-else-eq : goal.returns-else-eq
returns-else-eq c =
    let late : c.in_ok-late.late.number ≡ 4294967248 = search rules in
    let next = simp late at c.next.ensures in
    search rules
