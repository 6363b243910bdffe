-- Commands in words. Assumes nothing.
--     field word n        a word and the digits of a number
--     bank_said b         the beginning of a make: its bank kind by name, or by the byte b where no kind has it
--     said c              a command in words
use Rattle.std.specs.Prelude.{ℕ, cond, List, ◌++◌, codes, decimal, ◌==◌}
use Rattle.commands.specs.declared.command.Command.{Command}
use Rattle.commands.specs.declared.command.Command.TheVariants.{Make, Write, Read, Step, Down, Up, List as Lines}

abbrev pub field : List ℕ → ℕ → List ℕ
field word n = word ++ decimal n

abbrev pub bank_said : ℕ → List ℕ
bank_said b = cond (b == 0) (codes "make board") (cond (b == 1) (codes "make post") (field (codes "make bank ") b))

abbrev pub said : Command → List ℕ
said (Make bank stations count value) = bank_said bank ++ (field (codes " stations ") stations ++ (field (codes " count ") count ++ field (codes " value ") value.0))
said (Write station value) = field (codes "write station ") station ++ field (codes " value ") value.0
said (Read station) = field (codes "read station ") station
said (Step station) = field (codes "step station ") station
said (Down writer reader) = field (codes "down writer ") writer ++ field (codes " reader ") reader
said (Up writer reader) = field (codes "up writer ") writer ++ field (codes " reader ") reader
said Lines = codes "list"
