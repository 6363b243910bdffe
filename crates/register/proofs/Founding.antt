-- Which makes are accepted, and what they leave. Assumes nothing.
use Rattle.std.proofs.Common.{◌≡◌, ℕ, Bool, true, false, leb, None, Ok, Err, Result, sym, refl, ap, ◌∙◌}
use Rattle.std.proofs.lemmas.Bool.{cond-true, leb-true}
use Rattle.policy.specs.declared.refusal.Refusal.{Refusal}
use Rattle.banks.specs.Meanings.{Meaning}
use Rattle.banks.specs.declared.record.Record.{Record}
use Rattle.stamps.specs.Makes.{Make, Laws, first_of}
use Rattle.machine.specs.Machines.{Machine}
use Rattle.register.specs.Makings.{left_by}

-- a call for a first stamp that found none: the count is above the greatest
pub first_none : {S : Type 0} (m : Make S) (laws : Laws m) (k : ℕ) → None ≡ first_of m k → leb k m.greatest ≡ false
first_none m laws k e = go (leb k m.greatest) refl
  where
    go : (b : Bool) → leb k m.greatest ≡ b → leb k m.greatest ≡ false
    go false is = is
    go true is =
        let s = laws.first_stamp k (leb-true k m.greatest is) in
        cc (e ∙ cond-true (leb k m.greatest) _ _ is ∙ s.1)

-- a make that answered a machine made it
pub made_as : {S V : Type 0} (bank after : Meaning (Record S V)) (M : Machine S V) (r : Result (Machine S V) Refusal) → ◌≡◌ {A = Result (Machine S V) Refusal × Meaning (Record S V)} (Ok M, after) (left_by bank r) → r ≡ Ok M
made_as bank after M (Ok N) e = sym (ap (λ q. q.0) e)
made_as bank after M (Err y) e = sym (ap (λ q. q.0) e)
