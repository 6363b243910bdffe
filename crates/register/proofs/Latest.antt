-- The highest finished write of a station, among the first lines. Assumes nothing.
use Rattle.std.proofs.Common.{◌≡◌, ℕ, zero, suc, ◌-◌, true, false, cond, eqb, List, Some, None, Option, refl, ap, ◌∙◌, subst, inl, inr, arith}
use Rattle.std.specs.List.{find, slice_get}
use Rattle.std.proofs.lemmas.Bool.Decides.{nat_tests}
use Rattle.std.proofs.lemmas.Bool.{eqb-true, and_parts, cases_lt, cond_both}
use Rattle.machine.specs.declared.line.Kind.{Kind}
use Rattle.machine.specs.declared.line.Kind.TheVariants.{Write}
use Rattle.machine.specs.declared.line.LineState.{LineState}
use Rattle.machine.specs.declared.line.LineState.TheVariants.{Done}
use Rattle.machine.specs.declared.line.Line.{Line}
use Rattle.register.proofs.Downward.{down}
use Rattle.register.specs.Lookups.{done_write, found_at, last_of, FinishedWrite, Highest}

-- what the test says
is_done_write_lem : (kind : Kind) (state : LineState) → done_write kind state ≡ true → (kind ≡ Write) × (state ≡ Done)
is_done_write_lem kind state e = grind arith

module _ {S V : Type 0} (lines : List (Line S V)) (s : ℕ) where
  found_line : (k : ℕ) (o : Option (Line S V)) → slice_get lines k ≡ o → found_at s o ≡ true → FinishedWrite lines (suc k) s (suc k)
  found_line k None at e = cc
  found_line k (Some l) at e =
      let parts = and_parts (done_write l.kind l.state) (eqb l.station s) e in
      let is = is_done_write_lem l.kind l.state parts.0 in
      let back : suc k - 1 ≡ k = omega arith in
      record {
        numbered = omega arith;
        in_use = omega arith;
        line = l;
        stands = ap (slice_get lines) back ∙ at;
        write = is.0;
        own = eqb-true l.station s parts.1;
        done = is.1;
      }

  finished_found : (used k : ℕ) (f : FinishedWrite lines used s (suc k)) → found_at s (slice_get lines k) ≡ true
  finished_found used k f =
      let back : suc k - 1 ≡ k = omega arith in
      let at : slice_get lines k ≡ Some f.line = cc (f.stands) in
      grind (arith, nat_tests, f.write, f.done, f.own)

  none_there : (k j : ℕ) → j ≡ suc k → found_at s (slice_get lines k) ≡ false → FinishedWrite lines (suc k) s j → ⊥
  none_there k j is none f =
      cc (none, finished_found (suc k) k (subst (FinishedWrite lines (suc k) s) is f))

  -- a finished write among one line more
  narrowed : (k j : ℕ) → found_at s (slice_get lines k) ≡ false → FinishedWrite lines (suc k) s j → FinishedWrite lines k s j
  narrowed k j none f =
      record {
        numbered = f.numbered;
        in_use = elim (cases_lt k j) [ inr below ↦ below | inl above ↦ absurd (none_there k j (omega arith) none f) ];
        line = f.line;
        stands = f.stands;
        write = f.write;
        own = f.own;
        done = f.done;
      }

  widened : (k j : ℕ) → FinishedWrite lines k s j → FinishedWrite lines (suc k) s j
  widened k j f =
      record {
        numbered = f.numbered;
        in_use = omega arith;
        line = f.line;
        stands = f.stands;
        write = f.write;
        own = f.own;
        done = f.done;
      }

  one_line_more : (k : ℕ) (o : Option ℕ) → found_at s (slice_get lines k) ≡ false → Highest lines k s o → Highest lines (suc k) s o
  one_line_more k None none high = λ j f. high j (narrowed k j none f)
  one_line_more k (Some i) none high = (widened k i high.0, λ j above f. high.1 j above (narrowed k j none f))

  pub highest_of : (k : ℕ) → Highest lines k s (last_of lines s k)
  unfolding last_of
  highest_of zero = λ j f. omega (arith, f.numbered, f.in_use)
  highest_of (suc k) =
      cond_both (found_at s (slice_get lines k)) (Some (suc k)) (last_of lines s k) (λ o. Highest lines (suc k) s o)
      (λ found. (found_line k (slice_get lines k) refl found, λ j above f. omega (arith, f.in_use)))
      (λ none. one_line_more k (last_of lines s k) none (highest_of k))

  -- what the highest is says that it is the highest
  pub highest_as : (used : ℕ) (o : Option ℕ) → last_of lines s used ≡ o → Highest lines used s o
  highest_as used o is = subst (Highest lines used s) is (highest_of used)

  -- a search from line k down finds the highest
  pub found_down : (k : ℕ) → find (λ i. found_at s (slice_get lines (i - 1))) (down k k) ≡ last_of lines s k
  unfolding last_of
  found_down zero = refl
  found_down (suc k) =
      let back : suc k - 1 ≡ k = omega arith in
      rw back (ap (cond (found_at s (slice_get lines k)) (Some (suc k))) (found_down k))
