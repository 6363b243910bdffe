-- Every call and every run keeps what is kept. Assumes nothing.
use Rattle.std.proofs.Common.{ℕ, Bool, List, [], ◌∷◌, Some, None, Ok, Result, refl, subst}
use Rattle.std.specs.List.{AllByRecursion}
use Rattle.std.proofs.lemmas.Bool.{cond_both}
use Rattle.policy.specs.declared.refusal.Refusal.{Refusal}
use Rattle.banks.specs.declared.record.Record.{Record}
use Rattle.banks.specs.Meanings.{Meaning, marked, mark, known}
use Rattle.stamps.specs.Makes.{Make, Laws}
use Rattle.machine.specs.Machines.{Machine, with_bank}
use Rattle.machine.specs.Runs.{Call, write_call, read_call, step_call, mark_call, act, play}
use Rattle.machine.specs.Histories.{Book, note, observed}
use Rattle.machine.specs.Rules.{Clean}
use Rattle.machine.specs.declared.line.Kind.TheVariants.{Write, Read}
use Rattle.machine.proofs.Entries.{Kept}
use Rattle.machine.proofs.Acting.{step_kept}
use Rattle.machine.proofs.Opened.{open_kept}

module _ {S V : Type 0} (m : Make S) (laws : Laws m) where
  mark_kept : (old M : Machine S V) (b : Book S V) (w r : ℕ) (up : Bool) → Kept m old M b → Kept m old (with_bank M (mark M.bank w r up).1) b
  mark_kept old M b w r up k = cond_both {A = Result (Unit {0}) Refusal × Meaning (Record S V)} (known M.bank.stations w r) (Ok tt, marked M.bank w r up) _ (λ p. Kept m old (with_bank M p.1) b) (λ _. same) (λ _. k)
    where
      same : Kept m old (with_bank M (marked M.bank w r up)) b
      same =
          let t = k.told in
          record {
            ent = k.ent;
            inv = k.inv;
            told = record { same_stations = t.same_stations; same_origin = t.same_origin; rest = t.rest; some = t.some; stations = t.stations; bank = t.bank; moments = t.moments; counts = t.counts; room = t.room; size = t.size; rows = t.rows; operations = t.operations; lines = t.lines; latest = t.latest };
          }

  act_kept : (old M : Machine S V) (b : Book S V) (c : Call V) → Kept m old M b → Clean M.stations (act m M c).0 × Kept m old (act m M c).1 (note M.stations b (act m M c).0)
  act_kept old M b (write_call s v) k = (tt, open_kept laws k s Write (Some v) v (λ e. cc) (λ e. cc) (λ u e. cc))
  act_kept old M b (read_call s) k = (tt, open_kept laws k s Read None M.origin.value (λ e. refl) (λ e. refl) (λ u e. cc))
  act_kept old M b (step_call s choice) k = step_kept laws k s choice
  act_kept old M b (mark_call w r up) k = (tt, mark_kept old M b w r up k)

  pub play_kept : (calls : List (Call V)) (old M : Machine S V) (b : Book S V) → Kept m old M b → AllByRecursion (Clean old.stations) (play (act m) M calls).0 × Kept m old (play (act m) M calls).1 (observed old.stations b (play (act m) M calls).0)
  play_kept [] old M b k = (tt, k)
  play_kept (c ∷ cs) old M b k =
      let one = subst (λ n. Clean n (act m M c).0 × Kept m old (act m M c).1 (note n b (act m M c).0)) k.told.same_stations (act_kept old M b c k) in
      let rest = play_kept cs old (act m M c).1 (note old.stations b (act m M c).0) one.1 in
      ((one.0, rest.0), rest.1)
