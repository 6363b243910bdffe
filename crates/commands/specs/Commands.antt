-- What the contracts on commands cite. Assumes nothing.
--     width b             how many operand bytes follow the command byte b
--     decoded bytes       the first command and the bytes behind it, the end, or a refusal
--     encoded c           the bytes of a command
--     Reencoded xs        xs is the bytes of the command decoded from it and then the rest
--     Redecoded c         the bytes of c are decoded to c, whatever follows
--     seen r              a result that borrows the bytes behind the command, with these bytes in the place of the loan
use Rattle.std.specs.Prelude.{◌≡◌, ℕ, ◌+◌, ◌*◌, ◌/◌, ◌%◌, cond, List, [], ◌∷◌, ◌++◌, length, drop, Some, None, Ok, Err, Option, Result, ◌==◌, nat_le, slice_index}
use Rattle.std.specs.Borrow.{Bor}
use Rattle.policy.specs.declared.entry.PolicyNumber.{PolicyNumber}
use Rattle.policy.specs.declared.refusal.Refusal.{Refusal}
use Rattle.policy.specs.declared.refusal.Refusal.TheVariants.{UnknownByte, CutShort}
use Rattle.commands.specs.declared.command.Command.{Command}
use Rattle.commands.specs.declared.command.Command.TheVariants.{Make, Write, Read, Step, Down, Up, List as Lines}

abbrev pub Decoded : Type 0
Decoded = Result (Option (Command × List ℕ)) Refusal

-- four bytes, the highest first
abbrev pub word : List ℕ → ℕ → ℕ
word xs i = slice_index xs i * 16777216 + slice_index xs (i + 1) * 65536 + slice_index xs (i + 2) * 256 + slice_index xs (i + 3)

abbrev pub policy : ℕ → PolicyNumber
policy n = record { 0 = n }

abbrev pub width : ℕ → Option ℕ
width b =
    cond (b == 1) (Some 10)
    (cond (b == 2) (Some 5)
    (cond (b == 3) (Some 1)
    (cond (b == 4) (Some 1)
    (cond (b == 5) (Some 2)
    (cond (b == 6) (Some 2)
    (cond (b == 7) (Some 0) None))))))

-- the command with the byte b and the operands at the front of xs
abbrev pub command : ℕ → List ℕ → Command
command b xs =
    cond (b == 1) (Make (slice_index xs 0) (slice_index xs 1) (word xs 2) (policy (word xs 6)))
    (cond (b == 2) (Write (slice_index xs 0) (policy (word xs 1)))
    (cond (b == 3) (Read (slice_index xs 0))
    (cond (b == 4) (Step (slice_index xs 0))
    (cond (b == 5) (Down (slice_index xs 0) (slice_index xs 1))
    (cond (b == 6) (Up (slice_index xs 0) (slice_index xs 1)) Lines)))))

abbrev pub decoded_at : Option ℕ → ℕ → List ℕ → Decoded
decoded_at None b xs = Err UnknownByte
decoded_at (Some k) b xs = cond (nat_le k (length xs)) (Ok (Some (command b xs, drop k xs))) (Err CutShort)

abbrev pub decoded : List ℕ → Decoded
decoded [] = Ok None
decoded (b ∷ xs) = decoded_at (width b) b xs

-- the four bytes of a word, the highest first
abbrev pub bytes_of : ℕ → List ℕ
bytes_of n = (n / 16777216 % 256) ∷ (n / 65536 % 256) ∷ (n / 256 % 256) ∷ (n % 256) ∷ []

abbrev pub encoded : Command → List ℕ
encoded (Make bank stations count value) = 1 ∷ bank ∷ stations ∷ (bytes_of count ++ bytes_of value.0)
encoded (Write station value) = 2 ∷ station ∷ bytes_of value.0
encoded (Read station) = 3 ∷ station ∷ []
encoded (Step station) = 4 ∷ station ∷ []
encoded (Down writer reader) = 5 ∷ writer ∷ reader ∷ []
encoded (Up writer reader) = 6 ∷ writer ∷ reader ∷ []
encoded Lines = 7 ∷ []

-- xs begins with the bytes of the command that is decoded from it
abbrev pub Reencoded : List ℕ → Type 0
Reencoded xs = (c : Command) (rest : List ℕ) → decoded xs ≡ Ok (Some (c, rest)) → xs ≡ encoded c ++ rest

-- the bytes of c, with anything behind them, are decoded to c and what stands behind
abbrev pub Redecoded : Command → Type 0
Redecoded c = (rest : List ℕ) → decoded (encoded c ++ rest) ≡ Ok (Some (c, rest))

abbrev pub seen_option : Option (Command × Bor (List ℕ)) → Option (Command × List ℕ)
seen_option None = None
seen_option (Some p) = Some (p.0, p.1.now)

abbrev pub seen : Result (Option (Command × Bor (List ℕ))) Refusal → Decoded
seen (Ok o) = Ok (seen_option o)
seen (Err e) = Err e
