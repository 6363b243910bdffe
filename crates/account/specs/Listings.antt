-- A printed list, read back by its format. Assumes nothing.
--     Printed             what is printed of a journal line
--     printed l           the same of the line l
--     read_line xs        what a line of text prints: seven words, with a blank between two of them
--     read_list xs        what a list prints: `lines` and how many are in use, and on every further line a journal line
--     Sized l             the numbers of l have 64 bits, as all numbers of the code have
--     ReadsBack used ls  reading the text of a list gives `used`, and what is printed of the first `used` lines of ls, in their order
--     ListsAt xs cs g    a list that follows the commands cs in the file xs prints the journal of the game g, and is read back
--     ListsBack          the law: reading a printed list gives back its lines, so its text tells them; and so at every list of every file
use Rattle.std.specs.Prelude.{◌≡◌, ℕ, ◌+◌, ◌^◌, ◌<◌, ◌≤◌, cond, List, [], ◌∷◌, ◌++◌, map, length, take, drop, Some, None, codes, slice_index_or}
use Rattle.std.specs.List.{AllByRecursion}
use Rattle.std.specs.Str.{bytes_eq}
use Rattle.text.specs.Pieces.{pieces, number}
use Rattle.policy.specs.declared.entry.PolicyNumber.{PolicyNumber}
use Rattle.commands.specs.Readings.{Bytes, reading}
use Rattle.commands.specs.declared.command.Command.{Command}
use Rattle.commands.specs.declared.command.Command.TheVariants.{List as Lines}
use Rattle.stamps.specs.declared.pair.PairStamp.{PairStamp}
use Rattle.machine.specs.declared.line.Kind.{Kind}
use Rattle.machine.specs.declared.line.Kind.TheVariants.{Write, Read}
use Rattle.machine.specs.declared.line.LineState.{LineState}
use Rattle.machine.specs.declared.line.LineState.TheVariants.{Collecting, Spreading, Done, Spent}
use Rattle.machine.specs.declared.line.Line.{Line}
use Rattle.account.specs.Laws.{game_after}
use Rattle.account.specs.Texts.{Game, text, account}
use Rattle.account.specs.Words.{line, list_said}

pub record Printed : Type 0 where
  pub kind : Kind
  pub station : ℕ
  pub state : LineState
  -- the stamp
  pub count : ℕ
  pub owner : ℕ
  pub value : ℕ
  pub opened : ℕ
  pub ended : ℕ

abbrev pub Entry : Type 0
Entry = Line PairStamp PolicyNumber

abbrev pub printed : Entry → Printed
printed l =
    record {
      kind = l.kind;
      station = l.station;
      state = l.state;
      count = l.stamp.count;
      owner = l.stamp.owner;
      value = l.value.0;
      opened = l.opened;
      ended = l.ended;
    }

abbrev pub word : List (List ℕ) → ℕ → List ℕ
word ws i = slice_index_or ws i []

abbrev pub read_kind : List ℕ → Kind
read_kind w = cond (bytes_eq w (codes "W")) Write Read

abbrev pub read_state : List ℕ → LineState
read_state w =
    cond (bytes_eq w (codes "collecting")) Collecting
    (cond (bytes_eq w (codes "spreading")) Spreading
    (cond (bytes_eq w (codes "done")) Done Spent))

-- from the words of a line, and the parts of its stamp before and behind the full stop
abbrev pub read_words : List (List ℕ) → List (List ℕ) → Printed
read_words ws stamp =
    record {
      kind = read_kind (word ws 0);
      station = number (word ws 1);
      state = read_state (word ws 2);
      count = number (word stamp 0);
      owner = number (word stamp 1);
      value = number (word ws 4);
      opened = number (word ws 5);
      ended = number (word ws 6);
    }

-- words stand between blanks, 32, and the parts of a stamp between full stops, 46
abbrev pub read_line : List ℕ → Printed
read_line xs = let ws = pieces 32 xs in read_words ws (pieces 46 (word ws 3))

-- lines stand between line ends, 10; what it gives of a text that is no list means nothing
abbrev pub read_list : List ℕ → ℕ × List Printed
read_list xs = let ls = pieces 10 xs in (number (word (pieces 32 (word ls 0)) 1), map read_line (drop 1 ls))

abbrev pub Sized : Entry → Type 0
Sized l = (l.station < 2 ^ 64) × (l.stamp.count < 2 ^ 64) × (l.value.0 < 2 ^ 64) × (l.opened < 2 ^ 64) × (l.ended < 2 ^ 64)

-- where there are fewer lines than `used`, all of them
abbrev pub ReadsBack : ℕ → List Entry → Type 0
ReadsBack used ls = read_list (list_said used ls) ≡ (used, map printed (take used ls))

pub record ListsAt (xs : List ℕ) (cs : List Command) (g : Game) : Type 0 where
  -- the account of xs is the text of cs, the line of the list, and the rest
  pub behind : List ℕ
  pub whole : account xs ≡ text cs None 1 None ++ (line (length cs + 1) (list_said g.machine.used g.machine.lines) ++ behind)
  -- the list in it is read back as the lines in use
  pub back : ReadsBack g.machine.used g.machine.lines
  -- and as many lines follow
  pub full : g.machine.used ≤ length g.machine.lines

-- the list that examples/lost-link.hex prints at its command 24
abbrev pub Worked : Type 0
Worked =
    read_list (codes "lines 3\nW 1 spreading 1.1 9 1 0\nR 2 done 1.1 9 9 18\nR 3 collecting 0.0 7 19 0")
    ≡ (
      3,
      record { kind = Write; station = 1; state = Spreading; count = 1; owner = 1; value = 9; opened = 1; ended = 0 }
          ∷ record { kind = Read; station = 2; state = Done; count = 1; owner = 1; value = 9; opened = 9; ended = 18 }
          ∷ record { kind = Read; station = 3; state = Collecting; count = 0; owner = 0; value = 7; opened = 19; ended = 0 }
          ∷ [],
    )

pub record ListsBack : Type 0 where
  pub worked : Worked
  -- every list is read back
  pub any : (used : ℕ) (ls : List Entry) → used < 2 ^ 64 → AllByRecursion Sized (take used ls) → ReadsBack used ls
  -- two lines of which the same is printed are the same line
  pub apart : (k l : Entry) → printed k ≡ printed l → k ≡ l
  -- so two lists with the same text are lists of the same lines
  pub tells : (m n : ℕ) (ks ls : List Entry) → m < 2 ^ 64 → n < 2 ^ 64 → AllByRecursion Sized (take m ks) → AllByRecursion Sized (take n ls) → list_said m ks ≡ list_said n ls → (m ≡ n) × (take m ks ≡ take n ls)
  -- so at every list of every file, since the numbers of a game that is played from bytes have 64 bits
  pub in_files : (xs : List ℕ) → Bytes xs → length xs < 2 ^ 64 → (cs ds : List Command) (g : Game) → (reading xs).commands ≡ cs ++ (Lines ∷ ds) → game_after cs None ≡ Some g → ListsAt xs cs g
