-- What the history of a run shows of a stamped operation is what its entry has. Assumes nothing.
--     seen e t            a stamped entry, as the law sees it
--     Shown               the entry behind a stamped operation of the history
use Rattle.std.proofs.Common.{◌≡◌, ℕ, ◌-◌, ◌<◌, ◌≤◌, List, Some, None, Option, sym, refl, ap, ◌∙◌, ⊎_elim, arith}
use Rattle.std.specs.List.{slice_get}
use Rattle.std.proofs.lemmas.Bool.Decides.{nat_tests}
use Rattle.std.proofs.lemmas.Option.{same_Some}
use Rattle.std.proofs.lemmas.Bool.{cases_lt}
use Rattle.stamps.specs.Makes.{Make}
use Rattle.machine.specs.Machines.{Machine}
use Rattle.machine.specs.Runs.{Note}
use Rattle.machine.specs.Histories.{End, as_done, Book}
use Rattle.machine.specs.Rules.{History, Stamped, end_moment, stamped_with, stamped, account}
use Rattle.machine.proofs.Basics.{some_pair}
use Rattle.machine.proofs.Entries.{Entry, DoneAt, collecting, spreading, finished, refused, Kept}

module _ {S V : Type 0} where
  abbrev pub seen : Entry S V → ℕ → Stamped S V
  seen e t =
      record { kind = e.op.kind; opened = e.op.opened; stamped_at = t; ended = end_moment e.op.ended; stamp = e.stamp; value = e.value }

  abbrev view : Entry S V → Option ℕ → Option (Stamped S V)
  view e None = None
  view e (Some t) = Some (seen e t)

  -- an operation with its account shows its entry
  with_account : (e : Entry S V) → ((v : V) → e.op.given ≡ Some v → e.value ≡ v) → (q : Option ℕ) → stamped_with e.op q (Some (account e.op e.stamp e.value)) ≡ view e q
  with_account e own q = grind (arith, own)

  pub ended_in : (o : Option (ℕ × End S V)) (t : ℕ) → end_moment o ≡ Some t → (g : End S V) × (o ≡ Some (t, g))
  ended_in None t e = cc
  ended_in (Some p) t e = (p.1, ap (λ u. Some (u, p.1)) (same_Some p.0 t e))

module _ {S V : Type 0} (m : Make S) (M : Machine S V) (b : Book S V) (notes : List (Note S V)) {old : Machine S V} (kept : Kept m old M b) where
  abbrev pub told_history : History S V
  told_history =
      record { stations = M.stations; origin = M.origin; notes = notes; book = b; moment = M.moment; before = old.lines; lines = M.lines; used = M.used }

  pub record Shown (k : ℕ) (x : Stamped S V) : Type 0 where
    pub low : k ≤ M.used
    pub at : ℕ
    pub stamped : (kept.ent k).op.stamped ≡ Some at
    pub is : seen (kept.ent k) at ≡ x

  stamped_is : (k : ℕ) → k ≤ M.used → stamped told_history k ≡ view (kept.ent k) (kept.ent k).op.stamped
  stamped_is k le =
      grind (arith, nat_tests, kept.told.counts, kept.inv.zeroth, inner)
    where
      inner : 1 ≤ k → stamped_with (b.operation k) (b.operation k).stamped (slice_get M.lines (k - 1)) ≡ view (kept.ent k) (kept.ent k).op.stamped
      inner lo =
          cc (kept.told.operations k lo le, kept.told.lines k lo le, with_account (kept.ent k) (kept.inv.sound k le).own (kept.ent k).op.stamped)

  none_past : (k : ℕ) → M.used < k → stamped told_history k ≡ None
  none_past k gt = grind (arith, nat_tests, kept.told.counts)

  pub shown : (k : ℕ) (x : Stamped S V) → stamped told_history k ≡ Some x → Shown k x
  shown k x e = ⊎_elim (λ gt. cc (none_past k gt)) (λ le. by (kept.ent k).op.stamped refl le) (cases_lt M.used k)
    where
      by : (q : Option ℕ) → (kept.ent k).op.stamped ≡ q → k ≤ M.used → Shown k x
      by None eq le = cc (stamped_is k le ∙ ap (view (kept.ent k)) eq)
      by (Some t) eq le = record { low = le; at = t; stamped = eq; is = same_Some _ _ (sym (stamped_is k le ∙ ap (view (kept.ent k)) eq) ∙ e) }

  pub shows : (k t : ℕ) → k ≤ M.used → (kept.ent k).op.stamped ≡ Some t → stamped told_history k ≡ Some (seen (kept.ent k) t)
  shows k t le e = stamped_is k le ∙ ap (view (kept.ent k)) e

  -- a stamped operation has taken n steps; one that is over is done
  pub past : (k t : ℕ) → k ≤ M.used → (kept.ent k).op.stamped ≡ Some t → M.stations ≤ (kept.ent k).op.steps
  past k t le e =
      elim (kept.inv.sound k le).phase [
        | collecting a q l ↦ cc
        | spreading u a q l f g ↦ f
        | finished u w a q l f g ↦ omega arith
        | refused u a q l f g ↦ cc
      ]

  pub over : (k t u : ℕ) (g : End S V) → k ≤ M.used → (kept.ent k).op.stamped ≡ Some t → (kept.ent k).op.ended ≡ Some (u, g) → DoneAt (kept.ent k) u
  over k t u g le e d =
      elim (kept.inv.sound k le).phase [
        | collecting a q l ↦ cc
        | spreading v a q l f h ↦ cc
        | finished v w a q l f h ↦ a ∙ ap (λ x. Some (x, as_done (kept.ent k).stamp (kept.ent k).value)) (some_pair _ _ _ _ (sym a ∙ d)).0
        | refused v a q l f h ↦ cc
      ]
