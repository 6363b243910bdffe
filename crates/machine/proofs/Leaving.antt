-- A call that is refused with another refusal than 14 changes nothing. Assumes nothing.
use Rattle.std.proofs.Common.{arith, ◌≡◌, ℕ, ◌+◌, ◌-◌, ◌/◌, ◌%◌, Bool, eqb, ltb, Some, None, Err, Option, Result, refl}
use Rattle.std.specs.List.{slice_get}
use Rattle.std.proofs.lemmas.Bool.{cond_both}
use Rattle.policy.specs.Refusals.{number_of}
use Rattle.policy.specs.declared.refusal.Refusal.{Refusal}
use Rattle.banks.specs.declared.record.Record.{Record}
use Rattle.banks.specs.Meanings.{Meaning, read, start, finish}
use Rattle.stamps.specs.Makes.{Make}
use Rattle.machine.specs.Machines.{Machine, row_of, record_of}
use Rattle.machine.specs.Steps.{spread_to, collect, spread, settle, step_line, step_row}
use Rattle.machine.specs.Runs.{write_call, read_call, step_call, mark_call}
use Rattle.machine.specs.Rules.{RefusalsLeave}
use Rattle.machine.specs.declared.line.Line.{Line}
use Rattle.machine.specs.declared.row.Row.{Row}
use Rattle.machine.specs.declared.row.Row.TheVariants.{Idle, Busy}

module _ {R : Type 0} (b : Meaning R) where
  -- a refused call leaves the bank
  record Leaves {X : Type 0} (p : Result X Refusal × Meaning R) : Type 0 where
    leaves : (e : Refusal) → p.0 ≡ Err e → p.1 ≡ b

  start_leaves : (w r : ℕ) (x : R) → Leaves (start b w r x)
  start_leaves w r x = record { leaves = λ e q. grind arith }

  finish_leaves : (w : ℕ) → Leaves (finish b w)
  finish_leaves w = record { leaves = λ e q. grind arith }

module _ {S V : Type 0} (m : Make S) (M : Machine S V) where
  record Fixed {X : Type 0} (p : Result X Refusal × Machine S V) : Type 0 where
    unmoved : (e : Refusal) → p.0 ≡ Err e → (number_of e ≡ 14 → ⊥) → p.1 ≡ M

  refused : {X : Type 0} (e : Refusal) → Fixed {X = X} (Err e, M)
  refused e = record { unmoved = λ _ _ _. refl }

  collect_fixed : (s i c : ℕ) (l : Line S V) (a : Result (Record S V) Refusal) → Fixed (collect m M s i c l a M.bank)
  collect_fixed s i c l a = record { unmoved = λ e q not-14. grind arith }

  spread_fixed : (s i c : ℕ) (p : Result (Unit {0}) Refusal × Meaning (Record S V)) → Leaves M.bank p → Fixed (spread M s i c p.0 p.1)
  spread_fixed s i c p left = record { unmoved = λ e q _. grind (arith, left.leaves) }

  settle_fixed : (s i c : ℕ) (l : Line S V) (p : Result (Unit {0}) Refusal × Meaning (Record S V)) → Leaves M.bank p → Fixed (settle M s i c l p.0 p.1)
  settle_fixed s i c l p left = record { unmoved = λ e q _. grind (arith, left.leaves) }

  line_fixed : (choice : Bool) (s i c : ℕ) (o : Option (Line S V)) → Fixed (step_line m M choice s i c o)
  line_fixed choice s i c None = refused _
  line_fixed choice s i c (Some l) =
      cond_both (ltb c M.stations) _ _ Fixed (λ _. collect_fixed s i c l (read M.bank choice (c + 1) s).0)
      (λ _. cond_both (eqb ((c - M.stations) % 2) 0) _ _ Fixed (λ _. spread_fixed s i c _ (start_leaves M.bank s (spread_to s ((c - M.stations) / 2)) (record_of l))) (λ _. settle_fixed s i c l _ (finish_leaves M.bank s)))

  row_fixed : (choice : Bool) (s : ℕ) (r : Row) → Fixed (step_row m M choice s r)
  row_fixed choice s Idle = refused _
  row_fixed choice s (Busy i c) = line_fixed choice s i c (slice_get M.lines (i - 1))

pub refusals_leave : {S V : Type 0} (m : Make S) → RefusalsLeave V m
refusals_leave m M (write_call s v) e q not-14 = grind arith
refusals_leave m M (read_call s) e q not-14 = grind arith
refusals_leave m M (step_call s choice) e q not-14 =
    let by_row = row_fixed m M choice s (row_of M.rows s) in grind (arith, by_row.unmoved e)
refusals_leave m M (mark_call w r up) e q not-14 = grind arith
