-- How outcomes are written. Assumes nothing.
--     line k words            the line of the command with the number k
--     refusal_said e          a refusal: no, its number, and behind 15 the place
--     journal_said ls         journal lines, each on a line of its own, with the line's end before it
--     said used ls a          the words of what a command came to, or of its refusal, which left so many lines of ls in use
use Rattle.std.specs.Prelude.{ℕ, List, [], ◌∷◌, ◌++◌, take, Ok, Err, codes, decimal, Result}
use Rattle.policy.specs.Refusals.{shown_refusal}
use Rattle.policy.specs.declared.entry.PolicyNumber.{PolicyNumber}
use Rattle.policy.specs.declared.refusal.Refusal.{Refusal}
use Rattle.stamps.specs.Makes.{shown_stamp}
use Rattle.stamps.specs.Pairs.{pair_make}
use Rattle.stamps.specs.declared.pair.PairStamp.{PairStamp}
use Rattle.machine.specs.declared.line.Kind.{Kind}
use Rattle.machine.specs.declared.line.Kind.TheVariants.{Write, Read}
use Rattle.machine.specs.declared.line.LineState.{LineState}
use Rattle.machine.specs.declared.line.LineState.TheVariants as states
use Rattle.machine.specs.declared.line.Line.{Line}
use Rattle.account.specs.declared.outcome.Outcome.{Outcome}
use Rattle.account.specs.declared.outcome.Outcome.TheVariants.{Accepted, Done, Listed}

abbrev pub line : ℕ → List ℕ → List ℕ
line k words = decimal k ++ (codes " " ++ (words ++ codes "\n"))

abbrev pub kind_said : Kind → List ℕ
kind_said Write = codes "W"
kind_said Read = codes "R"

abbrev pub state_said : LineState → List ℕ
state_said states.Collecting = codes "collecting"
state_said states.Spreading = codes "spreading"
state_said states.Done = codes "done"
state_said states.Spent = codes "spent"

-- count, full stop, owner; a blank; the value
abbrev pub record_said : PairStamp → PolicyNumber → List ℕ
record_said s v = shown_stamp pair_make s ++ (codes " " ++ decimal v.0)

-- kind, station, state, stamp, value, opened, ended
abbrev pub line_said : Line PairStamp PolicyNumber → List ℕ
line_said l =
    kind_said l.kind ++ (codes " " ++ (decimal l.station ++ (codes " " ++ (state_said l.state ++ (codes " "
    ++ (record_said l.stamp l.value ++ (codes " " ++ (decimal l.opened ++ (codes " " ++ decimal l.ended)))))))))

abbrev pub journal_said : List (Line PairStamp PolicyNumber) → List ℕ
journal_said [] = []
journal_said (l ∷ ls) = codes "\n" ++ (line_said l ++ journal_said ls)

abbrev pub list_said : ℕ → List (Line PairStamp PolicyNumber) → List ℕ
list_said used ls = codes "lines " ++ (decimal used ++ journal_said (take used ls))

abbrev pub refusal_said : Refusal → List ℕ
refusal_said e = codes "no " ++ shown_refusal e

abbrev pub said : ℕ → List (Line PairStamp PolicyNumber) → Result Outcome Refusal → List ℕ
said used ls (Ok Accepted) = codes "ok"
said used ls (Ok (Done x)) = codes "done " ++ record_said x.tag x.value
said used ls (Ok Listed) = list_said used ls
said used ls (Err e) = refusal_said e
