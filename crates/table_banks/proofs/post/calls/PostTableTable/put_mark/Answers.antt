use Rattle.std.proofs.Common.{vec_items, ap}
use Rattle.table_banks.specs.Posts.{on_post}
use Rattle.table_banks.proofs.post.calls.PostTableTable.put_mark.Goals as goal

pub returns-clause-after : goal.returns-clause-after
returns-clause-after g c = ap (λ k. on_post k (vec_items c.args.self.now.lines)) c.note_mark.ensures
