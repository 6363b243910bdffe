use Rattle.std.proofs.Common.{vec_items, vec_len, arith}
use Rattle.std.proofs.lemmas.Option.{slice_get_read}
use Rattle.table_banks.proofs.Boards.{board_put_open}
use Rattle.table_banks.proofs.board.calls.BoardTableTable.put_open.Goals as goal

pub returns-clause-after : goal.returns-clause-after
returns-clause-after g c =
    let t = c.args.self.now in
    let l = c.index_mut.result.now in
    board_put_open t c.args.writer c.args.reader c.requires c.cell_line-i.ensures.place l c.args.x
    (slice_get_read (vec_items t.lines) (vec_len t.lines) c.cell_line-i.result l t.lines.ok.0 (omega (arith, t.room)) c.index_mut.ensures.value) c.note_reader.ensures
