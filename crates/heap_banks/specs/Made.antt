-- What making a bank over a table of its own answers. Assumes nothing.
--     kept r              what stopped for a refusal, as an answer; what stopped for want of memory stays an error
--     banked f r          what making a bank answered, with its meaning by f in the place of the bank
--     bank_for n x        a bank of n stations filled with the record x, or the refusal of the station count
use Rattle.std.specs.Prelude.{ℕ, cond, Ok, Err, Result}
use Rattle.std.specs.declared.alloc.AllocError.{AllocError}
use Rattle.policy.specs.declared.refusal.Refusal.{Refusal}
use Rattle.policy.specs.declared.refusal.Refusal.TheVariants.{StationCount}
use Rattle.banks.specs.Meanings.{Meaning, inside}
use Rattle.table_banks.specs.Bottoms.{filling}
use Rattle.heap_banks.specs.declared.stop.Stop.{Stop}
use Rattle.heap_banks.specs.declared.stop.Stop.TheVariants.{Refused, NoMemory}

abbrev pub kept : {T : Type 0} → Result T Stop → Result (Result T Refusal) AllocError
kept (Ok x) = Ok (Ok x)
kept (Err (Refused e)) = Ok (Err e)
kept (Err (NoMemory e)) = Err e

module _ {R : Type 0} where
  abbrev pub banked : {B : Type 0} → (B → Meaning R) → Result B Refusal → Result (Meaning R) Refusal
  banked f (Ok b) = Ok (f b)
  banked f (Err e) = Err e

  abbrev pub bank_for : ℕ → R → Result (Meaning R) Refusal
  bank_for n x = cond (inside 16 n) (Ok (filling n x)) (Err StationCount)
