use Rattle.std.proofs.Common.{◌%◌, sym}
use Rattle.stamps.specs.Numbers.{number_at}
use Rattle.stamps.specs.Within.{within}
use Rattle.stamps.proofs.number.NumberStamp.from_number.Goals as goal

pub returns : goal.returns
returns c = sym (within (c.args.number % 32) 16 (number_at c.args.number) _)
