-- One call more leads on. Assumes nothing.
use Rattle.std.proofs.Common.{◌≡◌, ℕ, List, [], ◌∷◌, ◌++◌, Result, sym, refl, ap, ◌∙◌}
use Rattle.policy.specs.declared.refusal.Refusal.{Refusal}
use Rattle.stamps.specs.Makes.{Make}
use Rattle.machine.specs.Machines.{Machine, open_line}
use Rattle.machine.specs.Runs.{Call, write_call, read_call, act, play}
use Rattle.machine.specs.declared.line.Kind.{Kind}
use Rattle.machine.specs.declared.line.Kind.TheVariants.{Write, Read}
use Rattle.register.specs.Reach.{Reached, Opens}

module _ {S V : Type 0} (m : Make S) where
  one_more : (M : Machine S V) (cs : List (Call V)) (c : Call V) → (play (act m) M (cs ++ (c ∷ []))).1 ≡ (act m (play (act m) M cs).1 c).1
  one_more M [] c = refl
  one_more M (b ∷ cs) c = one_more (act m M b).1 cs c

  pub reaching : (M N : Machine S V) (c : Call V) → (act m M c).1 ≡ N → Reached m M → Reached m N
  reaching M N c is reached =
      record {
        bank = reached.bank;
        stations = reached.stations;
        count = reached.count;
        value = reached.value;
        lines = reached.lines;
        size = reached.size;
        first = reached.first;
        made = reached.made;
        calls = reached.calls ++ (c ∷ []);
        leads = one_more reached.first reached.calls c ∙ ap (λ M. (act m M c).1) reached.leads ∙ is;
      }

  -- an open leads on, whatever it answers
  pub open_reaching : (M N : Machine S V) (s : ℕ) (kind : Kind) (v : V) (a : Result ℕ Refusal) → ◌≡◌ {A = Result ℕ Refusal × Machine S V} (a, N) (open_line M s kind v) → Opens kind v M.origin.value → Reached m M → Reached m N
  open_reaching M N s Write v a is opens = reaching M N (write_call s v) (sym (ap (λ p. p.1) is))
  open_reaching M N s Read v a is opens = reaching M N (read_call s) (sym (ap (λ p. p.1) (is ∙ ap (open_line M s Read) opens)))
