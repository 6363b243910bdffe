-- What the contracts on bank kinds cite. Assumes nothing.
--     bank_kind b         the kind that the byte b names, or the refusal of an unknown byte
--     kind_said k         the name of a kind
use Rattle.std.specs.Prelude.{ℕ, cond, List, Ok, Err, codes, Result, ◌==◌}
use Rattle.policy.specs.declared.refusal.Refusal.{Refusal}
use Rattle.policy.specs.declared.refusal.Refusal.TheVariants.{UnknownByte}
use Rattle.commands.specs.declared.bank.BankKind.{BankKind}
use Rattle.commands.specs.declared.bank.BankKind.TheVariants.{Board, Post}

abbrev pub bank_kind : ℕ → Result BankKind Refusal
bank_kind b = cond (b == 0) (Ok Board) (cond (b == 1) (Ok Post) (Err UnknownByte))

abbrev pub kind_said : BankKind → List ℕ
kind_said Board = codes "board"
kind_said Post = codes "post"
