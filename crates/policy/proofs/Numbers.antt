-- How large the numbers of refusals are. Assumes nothing.
use Rattle.std.proofs.Common.{◌<◌, arith}
use Rattle.policy.specs.Refusals.{number_of}
use Rattle.policy.specs.declared.refusal.Refusal.{Refusal}

pub number_below : (x : Refusal) → number_of x < 256
number_below x = grind arith
