-- The law of every run. Assumes nothing.
use Rattle.std.proofs.Common.{ℕ, sym, subst}
use Rattle.std.specs.List.{AllByRecursion}
use Rattle.banks.specs.declared.record.Record.{Record}
use Rattle.stamps.specs.Makes.{Make, Laws}
use Rattle.machine.specs.Machines.{Machine}
use Rattle.machine.specs.Runs.{act, play}
use Rattle.machine.specs.Histories.{empty_book, observed}
use Rattle.machine.specs.Rules.{History, Clean, Law, LawOfRuns}
use Rattle.machine.proofs.Lawful.{lawful}
use Rattle.machine.proofs.Making.{making}
use Rattle.machine.proofs.Playing.{play_kept}

pub law_of_runs : {S V : Type 0} (m : Make S) → Laws m → LawOfRuns V m
law_of_runs {S} {V} m laws bank n k v lines size M made calls =
    let p = play_kept m laws calls M M empty_book (making m laws bank n k v lines size M made) in
    let notes = (play (act m) M calls).0 in
    let N : Machine S V = (play (act m) M calls).1 in
    let book = observed M.stations empty_book notes in
    let at : ℕ → Record S V → History S V = λ q x. record { stations = q; origin = x; notes = notes; book = book; moment = N.moment; before = M.lines; lines = N.lines; used = N.used } in
    let told = p.1.told in
    let clean = subst (λ q. AllByRecursion (Clean q) notes) (sym told.same_stations) p.0 in
    subst (λ q. Law m (at q M.origin)) told.same_stations (subst (λ x. Law m (at N.stations x)) told.same_origin (lawful m laws N book notes p.1 clean))
