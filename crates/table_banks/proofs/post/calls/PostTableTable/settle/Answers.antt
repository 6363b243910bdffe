use Rattle.table_banks.proofs.Posts.{post_settle}
use Rattle.table_banks.proofs.post.calls.PostTableTable.settle.Goals as goal

pub returns-clause-after : goal.returns-clause-after
returns-clause-after g c = post_settle c.args.self.now c.args.writer c.args.reader c.requires c.args.x c.cell_line-i.ensures.place c.note_reader.ensures
