use Rattle.std.proofs.Common.{vec_items, arith}
use Rattle.table_banks.specs.Boards.{on_board}
use Rattle.table_banks.proofs.Bottoms.{refilled}
use Rattle.table_banks.proofs.Boards.{board_filled}
use Rattle.table_banks.proofs.board.calls.BoardTableTable.refill.Goals as goal

pub returns-clause-after : goal.returns-clause-after
returns-clause-after g c =
    let t = c.args.self.now in
    refilled on_board (vec_items t.lines) t.lines.ok.0 (omega arith) c.reset.ensures (board_filled t.notes.count c.args.x (vec_items t.lines) c.fill_front.new.lines cc)
