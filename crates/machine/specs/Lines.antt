-- What a journal's lines hold before a register writes them. Assumes nothing.
--     unused x        a line that no register has written, with the record x
use Rattle.banks.specs.declared.record.Record.{Record}
use Rattle.machine.specs.declared.line.Kind.TheVariants as kinds
use Rattle.machine.specs.declared.line.LineState.TheVariants as states
use Rattle.machine.specs.declared.line.Line.{Line}

abbrev pub unused : {S V : Type 0} → Record S V → Line S V
unused x = record { kind = kinds.Read; station = 0; state = states.Done; stamp = x.tag; value = x.value; opened = 0; ended = 0 }
