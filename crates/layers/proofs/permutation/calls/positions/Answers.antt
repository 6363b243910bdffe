use Rattle.std.proofs.Common.{arith}
use Rattle.layers.proofs.permutation.calls.positions.Goals as goal

pub returns-in_err-place : goal.returns-in_err-place
returns-in_err-place c =
    rw c.from_residual.ensures (λ h. let p = h c.loop-v.v (omega arith) in c.in_err-place.ensures p.0 p.1 p.2)
