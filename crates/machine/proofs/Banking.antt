-- What the bank's calls can answer a step. Assumes nothing.
use Rattle.std.proofs.Common.{◌≡◌, ℕ, Bool, true, ◌&&◌, eqb, Some, None, Ok, Err, Option, Result, sym, refl, subst}
use Rattle.std.proofs.lemmas.Bool.{cond_both, both_ways, and_parts}
use Rattle.policy.specs.declared.refusal.Refusal.{Refusal}
use Rattle.policy.specs.declared.refusal.Refusal.TheVariants.{UnknownStation, Unreachable}
use Rattle.banks.specs.declared.record.Record.{Record}
use Rattle.banks.specs.Meanings.{Meaning, Place, inside, known, chosen, record_or_4, read, started, start_at, start, finished, finish_at, finish}
use Rattle.machine.proofs.Entries.{Held, as_settled, as_open, cells_of}

module _ {S V : Type 0} (bank : Meaning (Record S V)) where
  -- what a read answers is held
  pub read_cases : (choice : Bool) (w r : ℕ) (y : Record S V) → known bank.stations w r ≡ true → bank.settled w r ≡ Some y → (P : Result (Record S V) Refusal → Type 0) → ((x : Record S V) → Held bank.stations (cells_of bank) w x → P (Ok x)) → ((p : Place) → P (Err (Unreachable p))) → P (read bank choice w r).0
  read_cases choice w r y k full P ok err =
      cond_both (known bank.stations w r) _ (Err UnknownStation) P
      (λ _. cond_both (bank.reachable w r) (record_or_4 (chosen (bank.opened w) r choice (bank.settled w r))) _ P (λ _. by_open (bank.opened w) refl) (λ _. err (bank.place w r)))
      (λ f. absurd (both_ways _ f k))
    where
      settled : P (record_or_4 (bank.settled w r))
      settled = subst (λ o. P (record_or_4 o)) (sym full) (ok y (as_settled r (and_parts (inside bank.stations w) _ k).1 full))

      by_open : (o : Option (ℕ × Record S V)) → bank.opened w ≡ o → P (record_or_4 (chosen o r choice (bank.settled w r)))
      by_open None e = settled
      by_open (Some o) e = cond_both (eqb o.0 r && choice) (Some o.1) (bank.settled w r) (λ u. P (record_or_4 u)) (λ _. ok o.1 (as_open o.0 e)) (λ _. settled)

  pub start_cases : (w r : ℕ) (x : Record S V) → known bank.stations w r ≡ true → bank.opened w ≡ None → (P : Result (Unit {0}) Refusal × Meaning (Record S V) → Type 0) → P (Ok tt, started bank w r x) → ((p : Place) → P (Err (Unreachable p), bank)) → P (start bank w r x)
  start_cases w r x k none P ok err =
      cond_both (known bank.stations w r) _ (Err UnknownStation, bank) P
      (λ _. cond_both (bank.reachable w r) (start_at (bank.opened w) bank w r x) _ P (λ _. subst (λ o. P (start_at o bank w r x)) (sym none) ok) (λ _. err (bank.place w r)))
      (λ f. absurd (both_ways _ f k))

  pub finish_cases : (w r : ℕ) (x : Record S V) → inside bank.stations w ≡ true → bank.opened w ≡ Some (r, x) → (P : Result (Unit {0}) Refusal × Meaning (Record S V) → Type 0) → P (Ok tt, finished bank w r x) → ((p : Place) → P (Err (Unreachable p), bank)) → P (finish bank w)
  finish_cases w r x k some P ok err =
      cond_both (inside bank.stations w) (finish_at (bank.opened w) bank w) (Err UnknownStation, bank) P
      (λ _. subst (λ o. P (finish_at o bank w)) (sym some) (cond_both (bank.reachable w r) _ _ P (λ _. ok) (λ _. err (bank.place w r))))
      (λ f. absurd (both_ways _ f k))
