-- One lemma for each call, for every layer: cells that lie in a bank below, under other numbers. Assumes nothing.
use Rattle.std.proofs.Common.{◌≡◌, ℕ, Bool, true, false, cond, ◌&&◌, eqb, Some, None, Ok, Err, Option, Result, sym, refl, ap, ◌∙◌}
use Rattle.banks.proofs.Shared.{Left, cond_map, cond_same, same_meaning}
use Rattle.std.specs.Option.{option_map}
use Rattle.std.proofs.lemmas.Bool.{eqb-true, eqb-false, eq-eqb, ne_eqb, and_parts}
use Rattle.policy.specs.declared.refusal.Refusal.{Refusal}
use Rattle.policy.specs.declared.refusal.Refusal.TheVariants.{UnknownStation, Unreachable}
use Rattle.banks.specs.Meanings.{Meaning, Place, inside, known, at_cell, at_row, filled, chosen, record_or_4, read, start, start_at, started, finish, finish_at, finished, mark, marked}
use Rattle.layers.specs.Layers.{deepen, deepened}
use Rattle.layers.proofs.Permuting.{Renumbers}

-- an update, and a choice of two, in either order
within_choice : {X : Type 0} (u t : Bool) (y a b : X) → (u ≡ true → t ≡ true) → cond u y (cond t a b) ≡ cond t (cond u y a) b
within_choice true true y a b h = refl
within_choice true false y a b h = ap (λ t. cond t y b) (sym (h refl))
within_choice false true y a b h = refl
within_choice false false y a b h = refl

module _ {R : Type 0} where
  -- the cells of the writers that t names lie in b, under the numbers p, with q back; the others are those of e
  abbrev pub laid : (ℕ → Bool) → (ℕ → ℕ) → (ℕ → ℕ) → Meaning R → Meaning R → Meaning R
  laid t p q b e =
      record {
        stations = b.stations;
        settled = λ w r. cond (t w) (b.settled (p w) (p r)) (e.settled w r);
        opened = λ w. cond (t w) (option_map (λ o. (q o.0, o.1)) (b.opened (p w))) (e.opened w);
        reachable = λ w r. cond (t w) (b.reachable (p w) (p r)) (e.reachable w r);
        place = λ w r. cond (t w) (deepen (b.place (p w) (p r))) (e.place w r);
      }

-- a number is met under its number there, by ways there and back
eqb_there : (p q : ℕ → ℕ) → ((x : ℕ) → q (p x) ≡ x) → ((x : ℕ) → p (q x) ≡ x) → (v w : ℕ) → eqb (p v) w ≡ eqb v (q w)
eqb_there p q back forth v w = go (eqb v (q w)) refl
  where
    go : (t : Bool) → eqb v (q w) ≡ t → eqb (p v) w ≡ t
    go true e = eq-eqb (p v) w (ap p (eqb-true v (q w) e) ∙ forth w)
    go false e = ne_eqb (p v) w (λ h. eqb-false v (q w) e (sym (back v) ∙ ap q h))

module _ {n : ℕ} {p q : ℕ → ℕ} (s : Renumbers n p q) where
  same_known : (w r : ℕ) → known n w r ≡ known n (p w) (p r)
  same_known w r = ap (λ t. t && inside n r) (sym (s.stays w)) ∙ ap (λ t. inside n (p w) && t) (sym (s.stays r))

  eqb_back : (v w : ℕ) → eqb (p v) w ≡ eqb v (q w)
  eqb_back = eqb_there p q s.back s.forth

  eqb_forth : (v w : ℕ) → eqb (q v) w ≡ eqb v (p w)
  eqb_forth = eqb_there q p s.forth s.back

  pub eqb_same : (v w : ℕ) → eqb (p v) (p w) ≡ eqb v w
  eqb_same v w = eqb_back v (p w) ∙ ap (eqb v) (s.back w)

-- the calls' answers, over what they look at
module _ {R : Type 0} where
  abbrev read_of : Bool → Bool → Option R → Place → Result R Refusal
  read_of kn up x pl = cond kn (cond up (record_or_4 x) (Err (Unreachable pl))) (Err UnknownStation)

  abbrev start_of : Bool → Bool → Option (ℕ × R) → Place → Meaning R → ℕ → ℕ → R → Left (Meaning R)
  start_of kn up o pl m w r x = cond kn (cond up (start_at o m w r x) (Err (Unreachable pl), m)) (Err UnknownStation, m)

  read_deepened : (kn up : Bool) (x : Option R) (pl : Place) → read_of kn up x (deepen pl) ≡ deepened (read_of kn up x pl)
  read_deepened true true None pl = refl
  read_deepened true true (Some x) pl = refl
  read_deepened true false x pl = refl
  read_deepened false up x pl = refl

module _ {R : Type 0} (t : ℕ → Bool) (p q : ℕ → ℕ) (b e : Meaning R) (s : Renumbers b.stations p q) where
  abbrev above : Meaning R
  above = laid t p q b e

  -- what comes up from the bank below
  abbrev pub up : {X : Type 0} → Result X Refusal × Meaning R → Result X Refusal × Meaning R
  up z = (deepened z.0, laid t p q z.1 e)

  abbrev moved : ℕ × R → ℕ × R
  moved o = (q o.0, o.1)

  chosen_moved : (o : Option (ℕ × R)) (r : ℕ) (c : Bool) (x : Option R) → chosen (option_map moved o) r c x ≡ chosen o (p r) c x
  chosen_moved None r c x = refl
  chosen_moved (Some o) r c x = ap (λ z. cond (z && c) (Some o.1) x) (eqb_forth s o.0 r)

  pub read_laid : (c : Bool) (w r : ℕ) → t w ≡ true → read above c w r ≡ up (read b c (p w) (p r))
  read_laid c w r h = ap (λ a. (a, above)) (here ∙ known_here ∙ open_here ∙ read_deepened kn (b.reachable (p w) (p r)) (chosen (b.opened (p w)) (p r) c (b.settled (p w) (p r))) (b.place (p w) (p r)))
    where
      kn : Bool
      kn = known b.stations (p w) (p r)

      at : Bool → Bool → Result R Refusal
      at k z = read_of k (cond z (b.reachable (p w) (p r)) (e.reachable w r)) (chosen (cond z (option_map moved (b.opened (p w))) (e.opened w)) r c (cond z (b.settled (p w) (p r)) (e.settled w r))) (cond z (deepen (b.place (p w) (p r))) (e.place w r))

      here : at (known b.stations w r) (t w) ≡ at (known b.stations w r) true
      here = ap (at (known b.stations w r)) h

      known_here : at (known b.stations w r) true ≡ at kn true
      known_here = ap (λ k. at k true) (same_known s w r)

      open_here : at kn true ≡ read_of kn (b.reachable (p w) (p r)) (chosen (b.opened (p w)) (p r) c (b.settled (p w) (p r))) (deepen (b.place (p w) (p r)))
      open_here = ap (λ x. read_of kn (b.reachable (p w) (p r)) x (deepen (b.place (p w) (p r)))) (chosen_moved (b.opened (p w)) r c (b.settled (p w) (p r)))

  started_laid : (w r : ℕ) (x : R) → t w ≡ true → started above w r x ≡ laid t p q (started b (p w) (p r) x) e
  started_laid w r x h =
      same_meaning (started above w r x) (laid t p q (started b (p w) (p r) x) e) refl (λ v k. refl) row (λ v k. refl) (λ v k. refl)
    where
      inner : (v : ℕ) → option_map moved (at_row b.opened (p w) (Some (p r, x)) (p v)) ≡ cond (eqb v w) (Some (r, x)) (option_map moved (b.opened (p v)))
      inner v =
          cond_map (option_map moved) (eqb (p v) (p w)) (Some (p r, x)) (b.opened (p v))
          ∙ ap (λ z. cond z (Some (q (p r), x)) (option_map moved (b.opened (p v)))) (eqb_same s v w)
          ∙ ap (λ k. cond (eqb v w) (Some (k, x)) (option_map moved (b.opened (p v)))) (s.back r)

      row : (v : ℕ) → at_row above.opened w (Some (r, x)) v ≡ cond (t v) (option_map moved (at_row b.opened (p w) (Some (p r, x)) (p v))) (e.opened v)
      row v =
          within_choice (eqb v w) (t v) (Some (r, x)) (option_map moved (b.opened (p v))) (e.opened v) (λ z. ap t (eqb-true v w z) ∙ h)
          ∙ ap (λ y. cond (t v) y (e.opened v)) (sym (inner v))

  pub start_laid : (w r : ℕ) (x : R) → t w ≡ true → start above w r x ≡ up (start b (p w) (p r) x)
  start_laid w r x h = ap (at (known b.stations w r)) h ∙ ap (λ k. at k true) (same_known s w r) ∙ go (known b.stations (p w) (p r)) (b.reachable (p w) (p r)) (b.opened (p w))
    where
      at : Bool → Bool → Left (Meaning R)
      at k z = start_of k (cond z (b.reachable (p w) (p r)) (e.reachable w r)) (cond z (option_map moved (b.opened (p w))) (e.opened w)) (cond z (deepen (b.place (p w) (p r))) (e.place w r)) above w r x

      go : (k u : Bool) (o : Option (ℕ × R)) → start_of k u (option_map moved o) (deepen (b.place (p w) (p r))) above w r x ≡ up (start_of k u o (b.place (p w) (p r)) b (p w) (p r) x)
      go true true None = ap (λ m. (Ok tt, m)) (started_laid w r x h)
      go true true (Some o) = refl
      go true false o = refl
      go false u o = refl

  -- the test of a cell above, and of the same cell below
  cell_same : (v k w r : ℕ) → (eqb (p v) (p w) && eqb (p k) r) ≡ (eqb v w && eqb k (q r))
  cell_same v k w r = ap (λ z. z && eqb (p k) r) (eqb_same s v w) ∙ ap (λ z. eqb v w && z) (eqb_back s k r)

  -- a part of the meaning that one cell has anew
  cell_laid : {Y : Type 0} (f g : ℕ → ℕ → Y) (w r : ℕ) (y : Y) → t w ≡ true → (v k : ℕ) → at_cell (λ v k. cond (t v) (f (p v) (p k)) (g v k)) w (q r) y v k ≡ cond (t v) (at_cell f (p w) r y (p v) (p k)) (g v k)
  cell_laid f g w r y h v k =
      within_choice (eqb v w && eqb k (q r)) (t v) y (f (p v) (p k)) (g v k) (λ z. ap t (eqb-true v w (and_parts (eqb v w) (eqb k (q r)) z).0) ∙ h)
      ∙ ap (λ z. cond (t v) (cond z y (f (p v) (p k))) (g v k)) (sym (cell_same v k w r))

  finished_laid : (w r : ℕ) (x : R) → t w ≡ true → finished above w (q r) x ≡ laid t p q (finished b (p w) r x) e
  finished_laid w r x h =
      same_meaning (finished above w (q r) x) (laid t p q (finished b (p w) r x) e) refl (cell_laid b.settled e.settled w r (Some x) h) row (λ v k. refl) (λ v k. refl)
    where
      row : (v : ℕ) → at_row above.opened w None v ≡ cond (t v) (option_map moved (at_row b.opened (p w) None (p v))) (e.opened v)
      row v =
          within_choice (eqb v w) (t v) None (option_map moved (b.opened (p v))) (e.opened v) (λ z. ap t (eqb-true v w z) ∙ h)
          ∙ ap (λ y. cond (t v) y (e.opened v)) (sym (cond_map (option_map moved) (eqb (p v) (p w)) None (b.opened (p v)) ∙ ap (λ z. cond z None (option_map moved (b.opened (p v)))) (eqb_same s v w)))

  pub finish_laid : (w : ℕ) → t w ≡ true → finish above w ≡ up (finish b (p w))
  finish_laid w h = ap (at (inside b.stations w)) h ∙ ap (λ k. at k true) (sym (s.stays w)) ∙ go (inside b.stations (p w)) (b.opened (p w))
    where
      at : Bool → Bool → Left (Meaning R)
      at k z = cond k (finish_at (cond z (option_map moved (b.opened (p w))) (e.opened w)) above w) (Err UnknownStation, above)

      one : (u : Bool) (o : ℕ × R) → cond {A = Left (Meaning R)} u (Ok tt, finished above w (q o.0) o.1) (Err (Unreachable (deepen (b.place (p w) o.0))), above) ≡ up (cond u (Ok tt, finished b (p w) o.0 o.1) (Err (Unreachable (b.place (p w) o.0)), b))
      one true o = ap (λ m. (Ok tt, m)) (finished_laid w o.0 o.1 h)
      one false o = refl

      go : (k : Bool) (o : Option (ℕ × R)) → cond k (finish_at (option_map moved o) above w) (Err UnknownStation, above) ≡ up (cond k (finish_at o b (p w)) (Err UnknownStation, b))
      go true None = refl
      go true (Some o) =
          ap (λ z. on z (p (q o.0))) h ∙ ap (on true) (s.forth o.0) ∙ one (b.reachable (p w) o.0) o
        where
          on : Bool → ℕ → Left (Meaning R)
          on z i = cond (cond z (b.reachable (p w) i) (e.reachable w (q o.0))) (Ok tt, finished above w (q o.0) o.1) (Err (Unreachable (cond z (deepen (b.place (p w) i)) (e.place w (q o.0)))), above)
      go false o = refl

  marked_laid : (w r : ℕ) (k : Bool) → t w ≡ true → marked above w r k ≡ laid t p q (marked b (p w) (p r) k) e
  marked_laid w r k h =
      same_meaning (marked above w r k) (laid t p q (marked b (p w) (p r) k) e) refl (λ v i. refl) (λ v. refl)
      (λ v i. ap (λ j. at_cell above.reachable w j k v i) (sym (s.back r)) ∙ cell_laid b.reachable e.reachable w (p r) k h v i) (λ v i. refl)

  pub mark_laid : (w r : ℕ) (k : Bool) → t w ≡ true → mark above w r k ≡ up (mark b (p w) (p r) k)
  mark_laid w r k h = ap (λ z. cond z (Ok tt, marked above w r k) (Err UnknownStation, above)) (same_known s w r) ∙ go (known b.stations (p w) (p r))
    where
      go : (z : Bool) → cond {A = Left (Meaning R)} z (Ok tt, marked above w r k) (Err UnknownStation, above) ≡ up (cond z (Ok tt, marked b (p w) (p r) k) (Err UnknownStation, b))
      go true = ap (λ m. (Ok tt, m)) (marked_laid w r k h)
      go false = refl

  pub filled_laid : (x : R) → ((w : ℕ) → t w ≡ false → e.stations ≡ b.stations) → filled above x ≡ laid t p q (filled b x) (filled e x)
  filled_laid x same =
      same_meaning (filled above x) (laid t p q (filled b x) (filled e x)) refl (λ w r. settles w r (t w) refl) (λ w. sym (cond_same (t w) None)) (λ w r. reaches w r (t w) refl) (λ w r. refl)
    where
      settles : (w r : ℕ) (z : Bool) → t w ≡ z → cond (known b.stations w r) (Some x) None ≡ cond z (cond (known b.stations (p w) (p r)) (Some x) None) (cond (known e.stations w r) (Some x) None)
      settles w r true h = ap (λ k. cond k (Some x) None) (same_known s w r)
      settles w r false h = ap (λ n. cond (known n w r) (Some x) None) (sym (same w h))

      reaches : (w r : ℕ) (z : Bool) → t w ≡ z → known b.stations w r ≡ cond z (known b.stations (p w) (p r)) (known e.stations w r)
      reaches w r true h = same_known s w r
      reaches w r false h = ap (λ n. known n w r) (sym (same w h))
