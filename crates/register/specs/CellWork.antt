-- The cell work of one step. Assumes nothing.
--     collect_cell m b c w s l    line l of station s after the read of cell (w, s) of the bank b; c: of two records, the open one
--     collect_into m b c w s l    the same read into line l, which a refused one leaves as it was
--     spread_cell b s r l         the start of the cell that station s writes for r, with the record of line l
use Rattle.std.specs.Prelude.{ℕ, Bool, Ok, Err, Result}
use Rattle.policy.specs.declared.refusal.Refusal.{Refusal}
use Rattle.banks.specs.Meanings.{Meaning, read, start}
use Rattle.banks.specs.declared.record.Record.{Record}
use Rattle.stamps.specs.Makes.{Make}
use Rattle.machine.specs.Machines.{record_of}
use Rattle.machine.specs.Steps.{collected}
use Rattle.machine.specs.declared.line.Line.{Line}

-- whether a read was accepted, without what it answered
abbrev pub accepted : {R : Type 0} → Result R Refusal → Result (Unit {0}) Refusal
accepted (Ok x) = Ok tt
accepted (Err e) = Err e

module _ {S V : Type 0} where
  abbrev pub collected_by : Make S → Line S V → Result (Record S V) Refusal → Result (Line S V) Refusal
  collected_by m l (Ok x) = Ok (collected m l x)
  collected_by m l (Err e) = Err e

  abbrev pub collect_cell : Make S → Meaning (Record S V) → Bool → ℕ → ℕ → Line S V → Result (Line S V) Refusal × Meaning (Record S V)
  collect_cell m bank choice w s l = (collected_by m l (read bank choice w s).0, (read bank choice w s).1)

  abbrev pub taken_by : Make S → Line S V → Result (Record S V) Refusal → Line S V
  taken_by m l (Ok x) = collected m l x
  taken_by m l (Err e) = l

  abbrev pub collect_into : Make S → Meaning (Record S V) → Bool → ℕ → ℕ → Line S V → Result (Unit {0}) Refusal × Line S V × Meaning (Record S V)
  collect_into m bank choice w s l = (accepted (read bank choice w s).0, taken_by m l (read bank choice w s).0, (read bank choice w s).1)

  abbrev pub spread_cell : Meaning (Record S V) → ℕ → ℕ → Line S V → Result (Unit {0}) Refusal × Meaning (Record S V)
  spread_cell bank s r l = start bank s r (record_of l)
