use Rattle.table_banks.proofs.Noting.{fresh_noting}
use Rattle.table_banks.proofs.notes.Notes.reset.Goals as goal

pub returns : goal.returns
returns c = fresh_noting c.args.self.now.count
