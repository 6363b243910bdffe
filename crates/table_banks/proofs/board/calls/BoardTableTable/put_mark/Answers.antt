use Rattle.std.proofs.Common.{vec_items, ap}
use Rattle.table_banks.specs.Boards.{on_board}
use Rattle.table_banks.proofs.board.calls.BoardTableTable.put_mark.Goals as goal

pub returns-clause-after : goal.returns-clause-after
returns-clause-after g c = ap (λ k. on_board k (vec_items c.args.self.now.lines)) c.note_mark.ensures
