-- A register with its bank and its journal, as the plain machine. Assumes nothing.
--     seen r bank lines       the machine: what the register keeps, the bank's meaning, the lines of the handed journal
use Rattle.std.specs.Prelude.{List}
use Rattle.banks.specs.Meanings.{Meaning}
use Rattle.banks.specs.declared.record.Record.{Record}
use Rattle.machine.specs.Machines.{Machine}
use Rattle.machine.specs.declared.line.Line.{Line}
use Rattle.register.specs.declared.register.Register.{Register}

module _ {S V : Type 0} where
  abbrev pub seen : Register S V → Meaning (Record S V) → List (Line S V) → Machine S V
  seen r bank lines =
      record {
        stations = r.stations;
        bank = bank;
        origin = r.origin;
        lines = lines;
        used = r.used;
        size = r.size;
        moment = r.moment;
        rows = r.table.rows;
      }
