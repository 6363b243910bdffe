use Rattle.std.proofs.Common.{sym, arith}
use Rattle.stamps.specs.PairsLemmas.{pair_found}
use Rattle.stamps.proofs.pair.PairStamp.new.Goals as goal

pub returns : goal.returns
returns c = sym (pair_found c.args.count c.args.owner (omega arith) _)
