-- What making a bank over a table answered. Assumes nothing.
--     made h l r          the answer r, of a table t that holds h t, with the spare lines l t
use Rattle.std.specs.Prelude.{List, Ok, Err, vec_items, Result, Vec}
use Rattle.std.specs.declared.alloc.Global.{Global}
use Rattle.policy.specs.declared.refusal.Refusal.{Refusal}
use Rattle.table_banks.specs.Bottoms.{Held, meant, Made}
use Rattle.table_banks.specs.declared.bank.TableBank.{TableBank}

abbrev pub made : {R L T : Type 0} → (T → Held R) → (T → List L) → Result (TableBank T) (Refusal × Vec L Global) → Made R L
made holds spared (Ok b) = Ok (meant (holds b.table), spared b.table)
made holds spared (Err e) = Err (e.0, vec_items e.1)
