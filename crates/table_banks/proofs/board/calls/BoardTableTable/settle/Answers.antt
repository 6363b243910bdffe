use Rattle.table_banks.proofs.Boards.{board_settle}
use Rattle.table_banks.proofs.board.calls.BoardTableTable.settle.Goals as goal

pub returns-clause-after : goal.returns-clause-after
returns-clause-after g c =
    board_settle c.args.self.now c.args.writer c.args.reader c.requires c.cell_line-i.ensures.place c.index_mut.result.now c.args.x c.note_reader.ensures
