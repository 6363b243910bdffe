-- How lines are printed. Assumes nothing.
--     shown_kind k        W or R
--     shown_state s       the name of the state in small letters
--     shown_line ts vs l  line l, where ts and vs say how its stamp and its value are printed: kind, station, state, stamp, value,
--                         the moments of its opening and its end, with a blank between each two
use Rattle.std.specs.Prelude.{ℕ, List, Some, Option, ◌++◌, codes, decimal}
use Rattle.std.specs.Fmt.{◌++?◌}
use Rattle.machine.specs.declared.line.Kind.{Kind}
use Rattle.machine.specs.declared.line.Kind.TheVariants.{Write, Read}
use Rattle.machine.specs.declared.line.LineState.{LineState}
use Rattle.machine.specs.declared.line.LineState.TheVariants.{Collecting, Spreading, Done, Spent}
use Rattle.machine.specs.declared.line.Line.{Line}

abbrev pub shown_kind : Kind → List ℕ
shown_kind Write = codes "W"
shown_kind Read = codes "R"

abbrev pub shown_state : LineState → List ℕ
shown_state Collecting = codes "collecting"
shown_state Spreading = codes "spreading"
shown_state Done = codes "done"
shown_state Spent = codes "spent"

module _ {S V : Type 0} where
  abbrev pub shown_line : (S → Option (List ℕ)) → (V → Option (List ℕ)) → Line S V → Option (List ℕ)
  shown_line ts vs l =
      Some (shown_kind l.kind ++ (codes " " ++ (decimal l.station ++ (codes " " ++ (shown_state l.state ++ codes " ")))))
      ++? (ts l.stamp ++? (Some (codes " ") ++? (vs l.value ++? Some (codes " " ++ (decimal l.opened ++ (codes " " ++ decimal l.ended))))))
