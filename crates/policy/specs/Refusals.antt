-- What the contracts on refusals cite. Assumes nothing.
--     number_of x         the number of a refusal, every case listed
--     place_of x          the place that 15 carries
--     Tells x n           n tells the case of x: whatever refusal has n, and x's place, is x
--     shown_refusal x     what is printed of x
use Rattle.std.specs.Prelude.{◌≡◌, ℕ, List, [], ◌++◌, Some, None, codes, decimal, Option}
use Rattle.policy.specs.declared.refusal.Refusal.{Refusal}
use Rattle.policy.specs.declared.refusal.Refusal.TheVariants.{StationCount, StartingCount, TableSize, UnknownStation, CountsDiffer, NotRenumbering, SplitPoint, JournalSize, UnknownByte, CutShort, Busy, JournalFull, Idle, Spent, Unreachable, RecordOpen, NothingOpen, NoRegister, AlreadyMade}

abbrev pub number_of : Refusal → ℕ
number_of StationCount = 1
number_of StartingCount = 2
number_of TableSize = 3
number_of UnknownStation = 4
number_of CountsDiffer = 5
number_of NotRenumbering = 6
number_of SplitPoint = 7
number_of JournalSize = 8
number_of UnknownByte = 9
number_of CutShort = 10
number_of Busy = 11
number_of JournalFull = 12
number_of Idle = 13
number_of Spent = 14
number_of (Unreachable p) = 15
number_of RecordOpen = 16
number_of NothingOpen = 17
number_of NoRegister = 18
number_of AlreadyMade = 19

abbrev pub place_of : Refusal → Option (ℕ × ℕ × ℕ)
place_of StationCount = None
place_of StartingCount = None
place_of TableSize = None
place_of UnknownStation = None
place_of CountsDiffer = None
place_of NotRenumbering = None
place_of SplitPoint = None
place_of JournalSize = None
place_of UnknownByte = None
place_of CutShort = None
place_of Busy = None
place_of JournalFull = None
place_of Idle = None
place_of Spent = None
place_of (Unreachable p) = Some p
place_of RecordOpen = None
place_of NothingOpen = None
place_of NoRegister = None
place_of AlreadyMade = None

abbrev pub Tells : Refusal → ℕ → Type 0
Tells x n = (y : Refusal) → number_of y ≡ n → place_of y ≡ place_of x → y ≡ x

abbrev shown_place : Option (ℕ × ℕ × ℕ) → List ℕ
shown_place None = []
shown_place (Some p) = codes " " ++ (decimal p.0 ++ (codes " " ++ (decimal p.1 ++ (codes " " ++ decimal p.2))))

abbrev pub shown_refusal : Refusal → List ℕ
shown_refusal x = decimal (number_of x) ++ shown_place (place_of x)
