-- What the commands of a file begin with, and what is left behind it. Assumes nothing.
use Rattle.std.proofs.Common.{◌≡◌, ℕ, List, [], ◌∷◌, ◌++◌, map, Some, None, Ok, Err, Result, sym, refl, ap, ◌∙◌}
use Rattle.policy.specs.declared.refusal.Refusal.{Refusal}
use Rattle.commands.specs.declared.command.Command.{Command}
use Rattle.commands.specs.Commands.{decoded}
use Rattle.commands.specs.Readings.{Reading}
use Rattle.commands.specs.Files.{stopped, outcomes}
use Rattle.commands.proofs.ReadingLaws.{reading_end, reading_stop, reading_more}

abbrev outcomes_of : Reading → List (Result Command Refusal)
outcomes_of r = map Ok r.commands ++ stopped r.stop

pub outcomes_end : (xs : List ℕ) → decoded xs ≡ Ok None → outcomes xs ≡ []
outcomes_end xs e = ap outcomes_of (reading_end xs e)

pub outcomes_more : (xs : List ℕ) (c : Command) (rest : List ℕ) → decoded xs ≡ Ok (Some (c, rest)) → outcomes xs ≡ Ok c ∷ outcomes rest
outcomes_more xs c rest e = ap outcomes_of (reading_more xs c rest e)

-- behind a refusal there is nothing
pub outcomes_stop : (xs : List ℕ) (x : Refusal) → decoded xs ≡ Err x → outcomes xs ≡ Err x ∷ outcomes []
outcomes_stop xs x e = ap outcomes_of (reading_stop xs x e) ∙ ap (λ os. Err x ∷ os) (sym (outcomes_end [] refl))
