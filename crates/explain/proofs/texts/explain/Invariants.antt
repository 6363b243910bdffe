use Rattle.std.proofs.Common.{◌≡◌, ◌+◌, ◌^◌, ◌<◌, ◌++◌, length}
use Rattle.std.specs.Iterator.Adapters.{zip_first, zip_second}
use Rattle.std.specs.String.{string_bytes}
use Rattle.commands.specs.Files.{unread}
use Rattle.explain.specs.Texts.{explained}
use Rattle.explain.proofs.Lines.{lines_of}
use Rattle.explain.proofs.texts.explain.Given as goal

-- the lines so far and those of what is left make the text, and the numbers last for what is left
abbrev pub invariant-loop-number : goal.invariant-loop-number
invariant-loop-number l = record {
  room : (zip_first l.number-iterator).start + length (unread (zip_second l.number-iterator)) < 2 ^ 64;
  text : string_bytes l.out ++ lines_of (zip_first l.number-iterator).start (unread (zip_second l.number-iterator)) ≡ explained l.input;
}
