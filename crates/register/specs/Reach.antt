-- What a run leads to. Assumes nothing.
--     Reached m M         some list of calls leads from a new register to M
--     Leads m M N         if M is reached, so is N
--     Opens kind v x      an open of that kind may begin with the value v, where x is the starting value
use Rattle.std.specs.Prelude.{◌≡◌, ℕ, List, Ok}
use Rattle.banks.specs.Meanings.{Meaning}
use Rattle.banks.specs.declared.record.Record.{Record}
use Rattle.stamps.specs.Makes.{Make}
use Rattle.machine.specs.Machines.{Machine, make}
use Rattle.machine.specs.Runs.{Call, act, play}
use Rattle.machine.specs.declared.line.Kind.{Kind}
use Rattle.machine.specs.declared.line.Kind.TheVariants.{Write, Read}
use Rattle.machine.specs.declared.line.Line.{Line}

pub record Reached {S V : Type 0} (m : Make S) (M : Machine S V) : Type 0 where
  pub bank : Meaning (Record S V)
  pub stations : ℕ
  pub count : ℕ
  pub value : V
  pub lines : List (Line S V)
  pub size : ℕ
  pub first : Machine S V
  pub made : make m bank stations count value lines size ≡ Ok first
  pub calls : List (Call V)
  pub leads : (play (act m) first calls).1 ≡ M

abbrev pub Leads : {S V : Type 0} → Make S → Machine S V → Machine S V → Type 0
Leads m M N = Reached m M → Reached m N

-- an open of the kind, with the value v, is a call of a run: a read begins with the starting value
abbrev pub Opens : {V : Type 0} → Kind → V → V → Type 0
Opens Write v starting = Unit {0}
Opens Read v starting = v ≡ starting
