-- Each accepted step of the machine is one cell operation of its station. Assumes nothing.
use Rattle.std.proofs.Common.{◌≡◌, ℕ, ◌+◌, ◌-◌, ◌*◌, ◌/◌, ◌%◌, Bool, ◌&&◌, eqb, ltb, leb, length, Some, None, Ok, Err, Option, Result, sym, refl, ap, subst, arith}
use Rattle.std.specs.List.{slice_get}
use Rattle.std.proofs.lemmas.Bool.{cond_both, cond-false, ne_eqb, and_left}
use Rattle.policy.specs.Refusals.{number_of}
use Rattle.policy.specs.declared.refusal.Refusal.{Refusal}
use Rattle.banks.specs.Meanings.{Meaning, inside, known, read, start, finish, record_or_4, start_at, finish_at}
use Rattle.banks.specs.declared.record.Record.{Record}
use Rattle.stamps.specs.Makes.{Make}
use Rattle.machine.specs.Machines.{Machine, row_of, record_of}
use Rattle.machine.specs.Steps.{step, step_row, step_line, step_stage, collect, collected, stamp_line, stamp_write, spread, settle, spread_to}
use Rattle.machine.specs.declared.line.Kind.{Kind}
use Rattle.machine.specs.declared.line.Kind.TheVariants.{Write, Read}
use Rattle.machine.specs.declared.line.Line.{Line}
use Rattle.machine.specs.declared.row.Row.{Row}
use Rattle.machine.specs.declared.row.Row.TheVariants.{Idle, Busy}
use Rattle.register.specs.Single.{OneCell, one_read, one_start, one_finish, OwnRow, Single}

-- not refused by 14
abbrev Unspent : {T : Type 0} → Result T Refusal → Type 0
Unspent (Ok x) = Unit {0}
Unspent (Err e) = number_of e ≡ 14 → ⊥

module _ {R : Type 0} where
  -- a bank never refuses by 14
  record_unspent : (o : Option R) → Unspent (record_or_4 o)
  record_unspent None = λ e. omega arith
  record_unspent (Some x) = tt

  read_unspent : (b : Meaning R) (choice : Bool) (w r : ℕ) → Unspent (read b choice w r).0
  read_unspent b choice w r =
      cond_both (known b.stations w r) _ _ Unspent
      (λ yes. cond_both (b.reachable w r) _ _ Unspent (λ up. record_unspent _) (λ down e. omega arith))
      (λ no e. omega arith)

  -- what a start and a finish leave
  module _ (b : Meaning R) (s : ℕ) where
    abbrev Kept : Result (Unit {0}) Refusal × Meaning R → Type 0
    Kept p = Unspent p.0 × OwnRow s b p.1

    as_it_was : OwnRow s b b
    as_it_was = λ w apart. (refl, λ r. refl)

    start_at_keeps : (o : Option (ℕ × R)) (r : ℕ) (x : R) → Kept (start_at o b s r x)
    start_at_keeps None r x = (tt, λ w apart. (cond-false (eqb w s) _ _ (ne_eqb w s apart), λ q. refl))
    start_at_keeps (Some o) r x = (λ e. omega arith, as_it_was)

    start_keeps : (r : ℕ) (x : R) → Kept (start b s r x)
    start_keeps r x =
        cond_both (known b.stations s r) _ _ Kept
        (λ yes. cond_both (b.reachable s r) _ _ Kept (λ up. start_at_keeps (b.opened s) r x) (λ down. (λ e. omega arith, as_it_was)))
        (λ no. (λ e. omega arith, as_it_was))

    finish_at_keeps : (o : Option (ℕ × R)) → Kept (finish_at o b s)
    finish_at_keeps None = (λ e. omega arith, as_it_was)
    finish_at_keeps (Some o) =
        cond_both (b.reachable s o.0) _ _ Kept
        (λ up. (tt, λ w apart. (cond-false (eqb w s) _ _ (ne_eqb w s apart), λ q. cond-false (eqb w s && eqb q o.0) _ _ (and_left (eqb w s) (eqb q o.0) (ne_eqb w s apart)))))
        (λ down. (λ e. omega arith, as_it_was))

    finish_keeps : Kept (finish b s)
    finish_keeps = cond_both (inside b.stations s) _ _ Kept (λ yes. finish_at_keeps (b.opened s)) (λ no. (λ e. omega arith, as_it_was))

module _ {S V : Type 0} (m : Make S) (M : Machine S V) (choice : Bool) (s : ℕ) where
  abbrev Answer : Type 0
  Answer = Result (Option (Record S V)) Refusal × Machine S V

  abbrev IsSingle : Answer → Type 0
  IsSingle p = Single s p.0 M.bank p.1.bank

  stamped_single : (i c : ℕ) (l : Line S V) (kind : Kind) (o : Option S) → OneCell s M.bank M.bank → IsSingle (stamp_write M s i l c o)
  stamped_single i c l kind None one = λ e. (one, as_it_was M.bank s)
  stamped_single i c l kind (Some t) one = (one, as_it_was M.bank s)

  line_single : (i c : ℕ) (l : Line S V) (kind : Kind) → OneCell s M.bank M.bank → IsSingle (stamp_line m M s i l c kind)
  line_single i c l Write one = stamped_single i c l Write (m.next l.stamp s) one
  line_single i c l Read one = (one, as_it_was M.bank s)

  collect_single : (i c : ℕ) (l : Line S V) (a : Result (Record S V) Refusal) → (read M.bank choice (c + 1) s).0 ≡ a → Unspent a → IsSingle (collect m M s i c l a M.bank)
  collect_single i c l (Err e) is unspent = λ spent. absurd (unspent spent)
  collect_single i c l (Ok x) is unspent =
      let one : OneCell s M.bank M.bank = one_read (c + 1) choice x (ap (λ (k : Result (Record S V) Refusal). (k, M.bank)) is) refl in
      cond_both (eqb (c + 1) M.stations) _ _ IsSingle
      (λ last. line_single i (c + 1) (collected m l x) l.kind one)
      (λ more. (one, as_it_was M.bank s))

  spread_single : (i c r : ℕ) (x : Record S V) (a : Result (Unit {0}) Refusal) (b : Meaning (Record S V)) → start M.bank s r x ≡ (a, b) → Unspent a × OwnRow s M.bank b → IsSingle (spread M s i c a b)
  spread_single i c r x (Err e) b is kept = λ spent. absurd (kept.0 spent)
  spread_single i c r x (Ok u) b is kept = (one_start r x is, kept.1)

  settle_single : (i c : ℕ) (l : Line S V) (a : Result (Unit {0}) Refusal) (b : Meaning (Record S V)) → finish M.bank s ≡ (a, b) → Unspent a × OwnRow s M.bank b → IsSingle (settle M s i c l a b)
  settle_single i c l (Err e) b is kept = λ spent. absurd (kept.0 spent)
  settle_single i c l (Ok u) b is kept =
      cond_both (eqb (c + 1) (3 * M.stations)) _ _ IsSingle (λ last. (one_finish is, kept.1)) (λ more. (one_finish is, kept.1))

  stage_single : (i c : ℕ) (l : Line S V) → IsSingle (step_stage m M choice s i c l)
  stage_single i c l =
      let r = spread_to s ((c - M.stations) / 2) in
      cond_both (ltb c M.stations) _ _ IsSingle
      (λ early. collect_single i c l _ refl (read_unspent M.bank choice (c + 1) s))
      (λ late.
      cond_both (eqb ((c - M.stations) % 2) 0) _ _ IsSingle
      (λ even. spread_single i c r (record_of l) _ _ refl (start_keeps M.bank s r (record_of l)))
      (λ odd. settle_single i c l _ _ refl (finish_keeps M.bank s)))

  at_line_single : (i c : ℕ) (o : Option (Line S V)) → IsSingle (step_line m M choice s i c o)
  at_line_single i c None = λ e. absurd (omega arith)
  at_line_single i c (Some l) = stage_single i c l

  row_single : (row : Row) → IsSingle (step_row m M choice s row)
  row_single Idle = λ e. absurd (omega arith)
  row_single (Busy i c) = at_line_single i c (slice_get M.lines (i - 1))

  step_single : IsSingle (step m M choice s)
  step_single =
      cond_both (leb M.size (length M.lines)) _ _ IsSingle
      (λ long. cond_both (inside M.stations s) _ _ IsSingle (λ yes. row_single (row_of M.rows s)) (λ no e. absurd (omega arith)))
      (λ short e. absurd (omega arith))

  pub single_as : (p : Answer) → p ≡ step m M choice s → IsSingle p
  single_as p is = subst IsSingle (sym is) step_single
