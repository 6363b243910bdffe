-- From the invariant to the law. Assumes nothing.
use Rattle.std.proofs.Common.{◌≡◌, ℕ, ◌+◌, ◌*◌, ◌<◌, ◌≤◌, true, false, ◌↔◌, List, Some, None, Option, unwrap_or, sym, refl, ap, ◌∙◌, subst, ⊎_elim, arith}
use Rattle.std.specs.List.{AllByRecursion}
use Rattle.std.proofs.lemmas.Option.{same_Some}
use Rattle.std.proofs.lemmas.Bool.{cases_order}
use Rattle.stamps.specs.Makes.{Make, Laws}
use Rattle.machine.specs.Machines.{Machine}
use Rattle.machine.specs.Runs.{Note}
use Rattle.machine.specs.Histories.{End, as_done, as_spent, Book}
use Rattle.machine.specs.Rules.{History, Stamped, stamped, RestsBy, Rests, Accounted, Clean, Law}
use Rattle.machine.specs.declared.line.Kind.{Kind}
use Rattle.machine.specs.declared.line.Kind.TheVariants.{Write, Read}
use Rattle.machine.proofs.Basics.{some_pair}
use Rattle.machine.proofs.Entries.{Entry, DoneAt, Phase, collecting, spreading, finished, refused, Sound, Above, Kept}
use Rattle.machine.proofs.Orders.{smaller_not_same}
use Rattle.machine.proofs.Seen as at

-- what the phase of an entry says of its steps and its end
module _ {S V : Type 0} {n moment : ℕ} {e : Entry S V} where
  within : Phase n moment e → e.op.steps ≤ 3 * n
  within (collecting a b c) = omega arith
  within (spreading t a b c d f) = omega arith
  within (finished t u a b c d f) = omega arith
  within (refused u a b c d f) = omega arith

  done_at : (t : ℕ) (s : S) (v : V) → e.op.ended ≡ Some (t, as_done s v) → Phase n moment e → (e.op.steps ≡ 3 * n) × (s ≡ e.stamp) × (v ≡ e.value)
  done_at t s v q (collecting a b c) = cc
  done_at t s v q (spreading u a b c d f) = cc
  done_at t s v q (finished u w a b c d f) = let p = (some_pair _ _ _ _ (sym q ∙ a)).1 in (f, cc, cc)
  done_at t s v q (refused u a b c d f) = cc (some_pair _ _ _ _ (sym q ∙ a)).1

  at_done : 1 ≤ n → e.op.steps ≡ 3 * n → Phase n moment e → (t : ℕ) × DoneAt e t
  at_done some q (collecting a b c) = absurd (omega arith)
  at_done some q (spreading u a b c d f) = absurd (omega arith)
  at_done some q (finished u w a b c d f) = (w, a)
  at_done some q (refused u a b c d f) = absurd (omega arith)

  spent_at : (t : ℕ) → e.op.ended ≡ Some (t, as_spent) → Phase n moment e → (e.op.kind ≡ Write) × (e.op.steps ≡ n) × (e.op.stamped ≡ None)
  spent_at t q (collecting a b c) = cc
  spent_at t q (spreading u a b c d f) = cc
  spent_at t q (finished u w a b c d f) = cc (some_pair _ _ _ _ (sym a ∙ q)).1
  spent_at t q (refused u a b c d f) = (f, d, b)

module _ {S V : Type 0} (m : Make S) (laws : Laws m) (M : Machine S V) (b : Book S V) (notes : List (Note S V)) {old : Machine S V} (kept : Kept m old M b) where
  abbrev h : History S V
  h = at.told_history m M b notes kept

  abbrev ent : ℕ → Entry S V
  ent = kept.ent

  -- operation w is a stamped write with the stamp s
  record Writes (w : ℕ) (s : S) : Type 0 where
    low : w ≤ M.used
    write : (ent w).op.kind ≡ Write
    when : ℕ
    stamped : (ent w).op.stamped ≡ Some when
    stamp : (ent w).stamp ≡ s

  -- d was over before e was opened
  after : (a c t u : ℕ) (g : End S V) → a ≤ M.used → c ≤ M.used → (ent a).op.stamped ≡ Some t → (ent a).op.ended ≡ Some (u, g) → u < (ent c).op.opened → (w : ℕ) → (ent c).op.stamped ≡ Some w → Above m (ent a) (ent c)
  after a c t u g la lc st d lt w sc =
      let high = (kept.inv.sound a la).high in
      let p = at.past m M b notes kept c w lc sc in
      kept.inv.later a c la lc u (at.over m M b notes kept a t u g la st d) lt (omega arith)

  -- the later of two writes of one station has the greater stamp
  apart : (a c : ℕ) (s : S) → a < c → Writes a s → Writes c s → ⊥
  apart a c s lt x y =
      let oa = (kept.inv.sound a x.low).owned x.when x.write x.stamped in
      let oc = (kept.inv.sound c y.low).owned y.when y.write y.stamped in
      let st : (ent a).op.station ≡ (ent c).op.station = sym oa ∙ ap m.owner (x.stamp ∙ sym y.stamp) ∙ oc in
      let o = kept.inv.order a c x.low y.low lt st in
      let above = after a c x.when o.at o.how x.low y.low x.stamped o.ended o.before y.when y.stamped in
      smaller_not_same m laws _ _ (above.greater y.when y.write y.stamped) (x.stamp ∙ sym y.stamp)

  unique : (a c : ℕ) (s : S) → Writes a s → Writes c s → a ≡ c
  unique a c s x y = ⊎_elim (λ e. e) (⊎_elim (λ lt. absurd (apart a c s lt x y)) (λ gt. absurd (apart c a s gt y x))) (cases_order a c)

  -- what rests on w has w's stamp
  rests_on : (a w : ℕ) (x : Stamped S V) → stamped h a ≡ Some x → Rests h a w → Writes w x.stamp
  rests_on a w x e r = record { low = sw.low; write = ap (λ (z : Stamped S V). z.kind) sw.is ∙ r.4; when = sw.at; stamped = sw.stamped; stamp = ap (λ (z : Stamped S V). z.stamp) sw.is ∙ by r.0.kind refl ∙ ap (λ (z : Stamped S V). z.stamp) same }
    where
      sw : at.Shown m M b notes kept w r.1
      sw = at.shown m M b notes kept w r.1 r.3

      same : r.0 ≡ x
      same = same_Some _ _ (sym r.2 ∙ e)

      by : (k : Kind) → r.0.kind ≡ k → r.1.stamp ≡ r.0.stamp
      by Write k = let aw : a ≡ w = subst (λ q. RestsBy q a w r.0 r.1) k r.5 in let is : r.1 ≡ r.0 = cc (r.2, r.3) in cc
      by Read k = (subst (λ q. RestsBy q a w r.0 r.1) k r.5).1

  rests : (a : ℕ) (x : Stamped S V) → stamped h a ≡ Some x → (w : ℕ) × Rests h a w
  rests a x e = by x.kind refl
    where
      sa : at.Shown m M b notes kept a x
      sa = at.shown m M b notes kept a x e

      by : (k : Kind) → x.kind ≡ k → (w : ℕ) × Rests h a w
      by Write k = (a, (x, x, e, e, k, subst (λ q. RestsBy q a a x x) (sym k) refl))
      by Read k =
          let read = ap (λ (z : Stamped S V). z.kind) sa.is ∙ k in
          let w = kept.inv.reads a sa.low read in
          let z = at.seen (ent w.by) w.at in
          let earlier : w.at < sa.at = subst (λ (t : Option ℕ). w.at < unwrap_or t (M.moment + 1)) sa.stamped w.before in
          (w.by, (x, z, e, at.shows m M b notes kept w.by w.at w.low w.stamped, w.write, subst (λ q. RestsBy q a w.by x z) (sym k) (subst (λ (y : Stamped S V). (w.at < y.stamped_at) × ((ent w.by).stamp ≡ y.stamp) × ((ent w.by).value ≡ y.value)) sa.is (earlier, w.stamp, w.value))))

  one_write : (a : ℕ) (x : Stamped S V) → stamped h a ≡ Some x → (w : ℕ) × Rests h a w × ((v : ℕ) → Rests h a v → v ≡ w)
  one_write a x e =
      let r = rests a x e in
      (r.0, r.1, λ v q. unique v r.0 x.stamp (rests_on a v x e q) (rests_on a r.0 x e r.1))

  same_stamp : (a c : ℕ) (x y : Stamped S V) → stamped h a ≡ Some x → stamped h c ≡ Some y → (x.stamp ≡ y.stamp) ↔ ((w : ℕ) × Rests h a w × Rests h c w)
  same_stamp a c x y ea ec =
      (λ s. let p = rests a x ea in let q = rests c y ec in let w : q.0 ≡ p.0 = unique q.0 p.0 y.stamp (rests_on c q.0 y ec q.1) (subst (Writes p.0) s (rests_on a p.0 x ea p.1)) in (p.0, p.1, subst (Rests h c) w q.1), λ r. sym (rests_on a r.0 x ea r.1).stamp ∙ (rests_on c r.0 y ec r.2).stamp)

  -- a stamped operation that was over before another was opened
  later : (a c : ℕ) (x y : Stamped S V) (t : ℕ) → stamped h a ≡ Some x → stamped h c ≡ Some y → x.ended ≡ Some t → t < y.opened → (m.smaller y.stamp x.stamp ≡ false) × (y.kind ≡ Write → m.smaller x.stamp y.stamp ≡ true)
  later a c x y t ea ec d lt =
      let sa = at.shown m M b notes kept a x ea in
      let sc = at.shown m M b notes kept c y ec in
      let over = at.ended_in (ent a).op.ended t (ap (λ (z : Stamped S V). z.ended) sa.is ∙ d) in
      let above = after a c sa.at t over.0 sa.low sc.low sa.stamped over.1 (subst (λ o. t < o) (sym (ap (λ (z : Stamped S V). z.opened) sc.is)) lt) sc.at sc.stamped in
      grind (arith, sa.is, sc.is, sc.stamped, above.at_most, above.greater sc.at)

  account : (k : ℕ) → 1 ≤ k → k ≤ M.used → Accounted M.stations M.lines k (ent k).op
  account k lo hi =
      record {
        number = sound.number;
        stamp = (ent k).stamp;
        value = (ent k).value;
        told = kept.told.lines k lo hi;
        own_value = sound.own;
        within = within sound.phase;
        done_at = λ t s v e. (done_at t s v e sound.phase).0;
        at_done = λ e. at_done kept.told.some e sound.phase;
        done_says = λ t s v e. let p = done_at t s v e sound.phase in (p.1, p.2);
        spent_at = λ t e. spent_at t e sound.phase;
      }
    where
      sound : Sound m M.stations M.moment k (ent k)
      sound = kept.inv.sound k hi

  pub lawful : AllByRecursion (Clean M.stations) notes → Law m h
  lawful clean =
      record {
        same_stamp = same_stamp;
        one_write = one_write;
        never_smaller = λ a c x y t ea ec d lt. (later a c x y t ea ec d lt).0;
        write_greater = λ a c x y t ea ec d lt. (later a c x y t ea ec d lt).1;
        moments = kept.told.moments;
        in_use = kept.told.counts;
        accounts = λ k lo hi. let le : k ≤ M.used = omega arith in subst (Accounted M.stations M.lines k) (sym (kept.told.operations k lo le)) (account k lo le);
        clean = clean;
        rest = kept.told.rest;
      }
