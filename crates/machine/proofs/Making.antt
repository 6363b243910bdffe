-- A new register: what is kept holds before the first call. Assumes nothing.
use Rattle.std.proofs.Common.{◌≡◌, ℕ, ◌-◌, ◌≤◌, true, List, length, replicate, Some, None, Ok, sym, refl, subst, le_refl, arith}
use Rattle.std.proofs.lemmas.Bool.Decides.{nat_tests}
use Rattle.std.proofs.lemmas.List.{get_or-replicate}
use Rattle.std.proofs.lemmas.Bool.{cond-true}
use Rattle.banks.specs.declared.record.Record.{Record}
use Rattle.banks.specs.Meanings.{Meaning, inside, known, filled}
use Rattle.stamps.specs.Makes.{Make, Laws}
use Rattle.machine.specs.Machines.{Machine, row_of, made, make}
use Rattle.machine.specs.Histories.{empty_book}
use Rattle.machine.specs.declared.line.Line.{Line}
use Rattle.machine.specs.declared.row.Row.TheVariants.{Idle}
use Rattle.banks.proofs.Shared.{inside_bounds}
use Rattle.machine.proofs.Entries.{Entry, Point, Held, as_settled, as_open, point_of, start_entry, finished, Backed, RowFits, Kept}

module _ {S V : Type 0} (m : Make S) (laws : Laws m) (bank : Meaning (Record S V)) (n size : ℕ) (lines : List (Line S V)) (x : Record S V) (some : 1 ≤ n) (few : n ≤ 16) (stations : n ≡ bank.stations) (room : size ≤ length lines) (nobody : m.owner x.tag ≡ 0) where
  abbrev ent : ℕ → Entry S V
  ent k = start_entry n x

  abbrev new : Machine S V
  new = record { stations = n; bank = filled bank x; origin = x; lines = lines; used = 0; size = size; moment = 0; rows = replicate 16 Idle }

  abbrev σ : Point S V
  σ = point_of new ent

  held : (w : ℕ) (y : Record S V) → Held n σ.cells w y → Backed σ 1 y.tag y.value
  held w y (as_settled r k p) =
      let is : x ≡ y = grind arith in
      subst (λ (z : Record S V). Backed σ 1 z.tag z.value) is (record { by = 0; low = le_refl 0; write = refl; at = 0; stamped = refl; before = omega arith; stamp = refl; value = refl })
  held w y (as_open r p) = cc

  idle : (s : ℕ) → inside n s ≡ true → row_of (replicate 16 Idle) s ≡ Idle
  idle s k = let p = inside_bounds n s k in get_or-replicate 16 (s - 1) Idle Idle (omega arith)

  base : Kept m new new empty_book
  base =
      record {
        ent = ent;
        inv =
            record {
              zeroth = refl;
              sound = λ k le. record { number = omega arith; low = λ lo. absurd (omega arith); high = omega arith; opened = le_refl 0; phase = finished 0 0 refl refl (le_refl 0) (le_refl 0) refl; own = λ v e. cc; reading = λ e. cc; owned = λ t _ _. nobody };
              order = λ a b la lb lt. absurd (omega arith);
              later = λ a b la lb u d lt. absurd (omega arith);
              reads = λ k le e. cc;
              kept = held;
              above = λ a u lo hi. absurd (omega arith);
              rows = λ s k. subst (RowFits σ s) (sym (idle s k)) (refl, λ j le e. let p = (inside_bounds n s k).0 in absurd (omega arith));
              full = λ w r k. (x, cond-true (known bank.stations w r) (Some x) None (subst (λ q. known q w r ≡ true) stations k));
            };
        told =
            record {
              same_stations = refl;
              same_origin = refl;
              rest = λ k _. refl;
              some = some;
              stations = few;
              bank = sym stations;
              moments = refl;
              counts = refl;
              room = omega arith;
              size = room;
              rows = refl;
              operations = λ k lo hi. absurd (omega arith);
              lines = λ k lo hi. absurd (omega arith);
              latest = λ s i c k q. cc (idle s k);
            };
      }

pub making : {S V : Type 0} (m : Make S) (laws : Laws m) (bank : Meaning (Record S V)) (n k : ℕ) (v : V) (lines : List (Line S V)) (size : ℕ) (M : Machine S V) → make m bank n k v lines size ≡ Ok M → Kept m M M empty_book
making {S} {V} m laws bank n k v lines size M e =
    let p : (1 ≤ n) × (n ≤ 16) × (n ≡ bank.stations) × (k ≤ m.greatest) × (size ≤ length lines) × (made bank n v lines size (m.first k) ≡ Ok M) = grind (arith, nat_tests) in
    let f = laws.first_stamp k p.3 in
    let x : Record S V = record { tag = f.0; value = v } in
    let is : new m laws bank n size lines x p.0 p.1 p.2 p.4 f.3 ≡ M = cc (p.5, f.1) in
    subst (λ N. Kept m N N empty_book) is (base m laws bank n size lines x p.0 p.1 p.2 p.4 f.3)
