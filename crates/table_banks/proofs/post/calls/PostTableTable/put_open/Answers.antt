use Rattle.table_banks.proofs.Posts.{post_put_open}
use Rattle.table_banks.proofs.post.calls.PostTableTable.put_open.Goals as goal

pub returns-clause-after : goal.returns-clause-after
returns-clause-after g c = post_put_open c.args.self.now c.args.writer c.args.reader c.requires c.args.x c.outgoing_line-i.ensures.place c.note_reader.ensures
