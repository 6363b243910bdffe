-- Every step keeps what is kept. Assumes nothing.
use Rattle.std.proofs.Common.{◌≡◌, ℕ, ◌+◌, ◌-◌, ◌*◌, ◌/◌, ◌%◌, ◌<◌, Bool, true, eqb, ltb, leb, length, Some, Ok, Option, sym, refl, ◌∙◌, subst, arith}
use Rattle.std.proofs.lemmas.Bool.Decides.{nat_tests}
use Rattle.std.proofs.lemmas.Bool.{cond_both, and_from, ltb-true, ltb-false, eqb-true, eqb-false}
use Rattle.banks.specs.declared.record.Record.{Record}
use Rattle.banks.specs.Meanings.{Meaning, inside, known, read, start, finish, started, finished}
use Rattle.stamps.specs.Makes.{Make, Laws}
use Rattle.machine.specs.Machines.{Machine, row_of}
use Rattle.machine.specs.Steps.{collect, spread, settle, step_stage, step_line, step_row, step}
use Rattle.machine.specs.Histories.{End, as_done, Operation, Book, with_step, stamped_by}
use Rattle.machine.specs.Rules.{account}
use Rattle.machine.specs.declared.line.Line.{Line}
use Rattle.machine.specs.declared.row.Row.{Row}
use Rattle.machine.specs.declared.row.Row.TheVariants.{Idle, Busy}
use Rattle.machine.proofs.Banking.{read_cases, start_cases, finish_cases}
use Rattle.machine.proofs.Entries.{Entry, Held, cells_of, point_of, rec, Kept}
use Rattle.machine.proofs.Finishing.{finish_move, last_move, open_here, spreads_once}
use Rattle.machine.proofs.Rows.{Here, fits, closed_again}
use Rattle.machine.proofs.Spreading.{Past, start_move, stamped_since, spread_on, reader}
use Rattle.machine.proofs.Stepping.{After, unreachable, op_is, now, same_row, no_row, collect_kept}
use Rattle.machine.proofs.Telling.{line_set, line_stays, moved_told}

module _ {S V : Type 0} {m : Make S} (laws : Laws m) {M : Machine S V} {b : Book S V} {old : Machine S V} (kept : Kept m old M b) {i s c : ℕ} (h : Here m (point_of M kept.ent) i s c) where
  abbrev n : ℕ
  n = M.stations

  abbrev e : Entry S V
  e = kept.ent i

  abbrev l : Line S V
  l = account e.op e.stamp e.value

  known_cell : (w r : ℕ) → inside n w ≡ true → inside n r ≡ true → known M.bank.stations w r ≡ true
  known_cell w r p q = grind (arith, nat_tests, kept.told.bank)

  reading : (choice : Bool) → c < n → After kept s (collect m M s i c l (read M.bank choice (c + 1) s).0 M.bank)
  reading choice early =
      read_cases M.bank choice (c + 1) s cell.0 (known_cell (c + 1) s inside_c h.known) cell.1 (λ a. After kept s (collect m M s i c l a M.bank))
      (λ x held. collect_kept laws kept (record { here = h; early = early; held = subst (λ k. Held k (cells_of M.bank) (c + 1) x) kept.told.bank held }))
      (unreachable kept s)
    where
      inside_c : inside n (c + 1) ≡ true
      inside_c = grind (arith, nat_tests)

      cell : (x : Record S V) × (M.bank.settled (c + 1) s ≡ Some x)
      cell = kept.inv.full (c + 1) s (and_from (inside n (c + 1)) (inside n s) inside_c h.known)

  module _ (late : Past m (point_of M kept.ent) i s c) where
    -- a step past the collecting stamps nothing
    noted : (en : ℕ → Operation S V → Option (ℕ × End S V)) → with_step (b.operation (b.latest s)) (stamped_by n (b.moment + 1) (b.operation (b.latest s))) (en (b.moment + 1) (b.operation (b.latest s))) ≡ with_step e.op e.op.stamped (en (M.moment + 1) e.op)
    noted en =
        let g = (fits h).taken in
        grind (arith, nat_tests, g, op_is kept h, now kept h)

    starting : (c - n) % 2 ≡ 0 → After kept s (spread M s i c (start M.bank s (reader late) (rec e)).0 (start M.bank s (reader late) (rec e)).1)
    starting even =
        let g = (fits h).taken in
        let q = (stamped_since late).3 in
        let lt : (c - n) / 2 < n = omega arith in
        start_cases M.bank s (reader late) (rec e) (known_cell s _ h.known ((spreads_once n s).known _ lt)) ((fits h).middle ∙ closed_again n s e (omega arith) (omega arith)) (λ a. After kept s (spread M s i c a.0 a.1))
        (tt, moved_told M b kept h (spread_on late e.op.ended) (started M.bank s (reader late) (rec e)) M.lines _ _ kept.told.bank (line_stays M b kept h _ refl) (noted (λ _ o. o.ended)) (same_row kept h) (start_move late even))
        (unreachable kept s)

    module _ (odd : (c - n) % 2 ≡ 1) where
      abbrev bank : Meaning (Record S V)
      bank = finished M.bank s (reader late) (rec e)

      settled : After kept s (settle M s i c l (Ok tt) bank)
      settled =
          cond_both (eqb (c + 1) (3 * n)) _ _ (After kept s)
          (λ eq. (tt, moved_told M b kept h (spread_on late (Some (M.moment + 1, as_done e.stamp e.value))) bank _ _ _ kept.told.bank (line_set M b kept h _ _ refl) (noted (λ t _. Some (t, as_done e.stamp e.value))) (no_row kept h) (last_move laws late odd (eqb-true _ _ eq))))
          (λ ne. let a = eqb-false _ _ ne in let q = (stamped_since late).3 in (tt, moved_told M b kept h (spread_on late e.op.ended) bank M.lines _ _ kept.told.bank (line_stays M b kept h _ refl) (noted (λ _ o. o.ended)) (same_row kept h) (finish_move laws late odd (omega arith))))

      finishing : After kept s (settle M s i c l (finish M.bank s).0 (finish M.bank s).1)
      finishing =
          finish_cases M.bank s (reader late) (rec e) (subst (λ k. inside k s ≡ true) (sym kept.told.bank) h.known) (open_here laws late odd) (λ a. After kept s (settle M s i c l a.0 a.1)) settled (unreachable kept s)

  staged : (choice : Bool) → After kept s (step_stage m M choice s i c l)
  staged choice =
      cond_both (ltb c n) _ _ (After kept s) (λ lt. reading choice (ltb-true _ _ lt))
      (λ ge. let late : Past m (point_of M kept.ent) i s c = record { here = h; past = ltb-false _ _ ge } in cond_both (eqb ((c - n) % 2) 0) _ _ (After kept s) (λ even. starting late (eqb-true _ _ even)) (λ odd. finishing late (let o = eqb-false _ _ odd in omega arith)))

module _ {S V : Type 0} {m : Make S} (laws : Laws m) {M : Machine S V} {b : Book S V} {old : Machine S V} (kept : Kept m old M b) (s : ℕ) where
  by_row : (choice : Bool) (r : Row) → row_of M.rows s ≡ r → inside M.stations s ≡ true → After kept s (step_row m M choice s r)
  by_row choice Idle q k = ((λ q. absurd (omega arith), λ q. omega arith, λ q. omega arith), kept)
  by_row choice (Busy i c) q k = subst (λ o. After kept s (step_line m M choice s i c o)) (sym (kept.told.lines i (fits h).low (fits h).high)) (staged laws kept h choice)
    where
      h : Here m (point_of M kept.ent) i s c
      h = record { inv = kept.inv; known = k; busy = q }

  pub step_kept : (choice : Bool) → After kept s (step m M choice s)
  step_kept choice =
      cond_both (leb M.size (length M.lines)) _ _ (After kept s)
      (λ _. cond_both (inside M.stations s) _ _ (After kept s) (λ k. by_row choice (row_of M.rows s) refl k) (λ k. ((λ _. k, λ q. omega arith, λ q. omega arith), kept)))
      (λ _. ((λ q. absurd (omega arith), λ q. omega arith, λ q. omega arith), kept))
