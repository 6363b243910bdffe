use Rattle.std.proofs.Common.{rules}
use Rattle.register.specs.Seen.{seen}
use Rattle.register.proofs.Reaching.{open_reaching}
use Rattle.register.proofs.register.Register.open.Goals as goal

pub returns-clause-call : goal.returns-clause-call
returns-clause-call g c = search rules

pub returns-clause-reached : goal.returns-clause-reached
returns-clause-reached g c = λ m bank opens. open_reaching m (seen c.args.self.now bank c.args.journal.now.lines.now) _ c.args.station c.args.kind c.args.value _ (returns-clause-call g c bank) opens
