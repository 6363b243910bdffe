use Rattle.std.proofs.Common.{vec_items, arith}
use Rattle.table_banks.specs.Posts.{on_post}
use Rattle.table_banks.proofs.Bottoms.{refilled}
use Rattle.table_banks.proofs.Posts.{post_filled}
use Rattle.table_banks.proofs.post.calls.PostTableTable.refill.Goals as goal

pub returns-clause-after : goal.returns-clause-after
returns-clause-after g c =
    let t = c.args.self.now in
    refilled on_post (vec_items t.lines) t.lines.ok.0 (omega arith) c.reset.ensures (post_filled t.notes.count c.args.x (vec_items t.lines) c.fill_front.new.lines cc)
