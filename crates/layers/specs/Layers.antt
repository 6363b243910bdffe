-- What the layers over banks mean. Assumes nothing.
--     deepen p                a place seen through one more layer: 255 stands for 255 or more
--     deeper e, deepened a    a refusal, and an answer, seen through one more layer
--     beside t a b            the cells of the writers that t names lie in a, the others in b
--     in_first k a b w        with the split point k, writer w lies in the first of two banks
--     split_meaning k a b     two banks split at k
--     sunk m                  m with its places one layer deeper
--     renumbered p q m        cell (w, r) is cell (p w, p r) of m; q goes back
use Rattle.std.specs.Prelude.{ℕ, ◌+◌, min, Bool, cond, not, ◌||◌, Ok, Err, Result, ◌==◌, nat_le}
use Rattle.std.specs.Option.{option_map}
use Rattle.policy.specs.declared.refusal.Refusal.{Refusal}
use Rattle.policy.specs.declared.refusal.Refusal.TheVariants.{Unreachable}
use Rattle.banks.specs.Meanings.{Meaning, Place}

abbrev pub deepen : Place → Place
deepen p = (min (p.0 + 1) 255, p.1, p.2)

abbrev pub deeper : Refusal → Refusal
deeper (Unreachable p) = Unreachable (deepen p)
deeper e = e

abbrev pub deepened : {X : Type 0} → Result X Refusal → Result X Refusal
deepened (Ok x) = Ok x
deepened (Err e) = Err (deeper e)

-- a place that was answered, seen through one more layer
abbrev pub raised : Result Place Refusal → Result Place Refusal
raised (Ok p) = Ok (deepen p)
raised (Err e) = Err e

module _ {R : Type 0} where
  abbrev pub beside : (ℕ → Bool) → Meaning R → Meaning R → Meaning R
  beside t a b =
      record {
        stations = a.stations;
        settled = λ w r. cond (t w) (a.settled w r) (b.settled w r);
        opened = λ w. cond (t w) (a.opened w) (b.opened w);
        reachable = λ w r. cond (t w) (a.reachable w r) (b.reachable w r);
        place = λ w r. deepen (cond (t w) (a.place w r) (b.place w r));
      }

  -- banks that differ in their station counts are not made into one; the first would hold all
  abbrev pub in_first : ℕ → Meaning R → Meaning R → ℕ → Bool
  in_first k a b w = nat_le w k || not (a.stations == b.stations)

  abbrev pub split_meaning : ℕ → Meaning R → Meaning R → Meaning R
  split_meaning k a b = beside (in_first k a b) a b

  abbrev pub renumbered : (ℕ → ℕ) → (ℕ → ℕ) → Meaning R → Meaning R
  renumbered p q m =
      record {
        stations = m.stations;
        settled = λ w r. m.settled (p w) (p r);
        opened = λ w. option_map (λ o. (q o.0, o.1)) (m.opened (p w));
        reachable = λ w r. m.reachable (p w) (p r);
        place = λ w r. deepen (m.place (p w) (p r));
      }

  abbrev pub sunk : Meaning R → Meaning R
  sunk m =
      record {
        stations = m.stations;
        settled = m.settled;
        opened = m.opened;
        reachable = m.reachable;
        place = λ w r. deepen (m.place w r);
      }
