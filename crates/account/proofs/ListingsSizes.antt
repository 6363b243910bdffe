-- A machine whose numbers have 64 bits keeps to that over calls whose numbers do. Assumes nothing.
use Rattle.std.proofs.Common.{ℕ, zero, suc, ◌+◌, ◌-◌, ◌*◌, ◌/◌, ◌%◌, ◌^◌, ◌<◌, ◌≤◌, Bool, true, false, T, eqb, ltb, leb, List, [], ◌∷◌, length, set, IfSome, IfOk, Some, None, Ok, Err, Option, Result, arith, leb→le}
use Rattle.std.specs.List.{AllByRecursion, slice_get}
use Rattle.std.proofs.ByRecursion.{All-set}
use Rattle.std.proofs.lemmas.List.{length-set}
use Rattle.std.proofs.lemmas.Bool.{cond_both, leb-true, ltb-true}
use Rattle.policy.specs.declared.entry.PolicyNumber.{PolicyNumber}
use Rattle.policy.specs.declared.refusal.Refusal.{Refusal}
use Rattle.banks.specs.Meanings.{Meaning, inside, read, start, finish}
use Rattle.stamps.specs.Bounds.{when_so}
use Rattle.stamps.specs.Pairs.{pair, pair_at, pair_make}
use Rattle.stamps.specs.declared.pair.PairStamp.{PairStamp}
use Rattle.machine.specs.Machines.{next_machine, with_bank, row_of, record_of, fresh, open_row, open_line}
use Rattle.machine.specs.Steps.{step, step_row, step_line, step_stage, collect, collected, stamp_line, stamp_write, going, spread, settle, spread_to, value_of}
use Rattle.machine.specs.declared.line.Kind.{Kind}
use Rattle.machine.specs.declared.line.Kind.TheVariants.{Write, Read}
use Rattle.machine.specs.declared.row.Row.{Row}
use Rattle.machine.specs.declared.row.Row.TheVariants.{Idle, Busy}
use Rattle.account.specs.Games.{Played}
use Rattle.account.specs.Listings.{Entry, Sized}
use Rattle.account.proofs.ListingsCells.{Cell, Held, Banked, read_held, start_held, finish_held}

-- M is a machine of such numbers after at most t calls
pub record Within (t : ℕ) (M : Played) : Type 0 where
  pub origin : Held M.origin
  pub bank : Banked M.bank
  pub lines : AllByRecursion Sized M.lines
  pub used : M.used ≤ M.moment
  pub full : M.used ≤ length M.lines
  pub moment : M.moment ≤ t

pub later : (t u : ℕ) (M : Played) → t ≤ u → Within t M → Within u M
later t u M more w =
    record { origin = w.origin; bank = w.bank; lines = w.lines; used = w.used; full = w.full; moment = omega (arith, w.moment) }

abbrev pub Counted : Option PairStamp → Type 0
Counted o = IfSome o (λ s. s.count < 2 ^ 64)

counted_when : (k w : ℕ) (b : Bool) (f : T b → w ≤ 16) → k < 2 ^ 64 → Counted (when_so b (λ t. pair_at k w (f t)))
counted_when k w true f few = few
counted_when k w false f few = tt

pub pair_counted : (k w : ℕ) → Counted (pair k w)
pair_counted k w =
    cond_both (leb k 4294967295) _ None Counted
    (λ e. counted_when k w (leb w 16) (λ t. leb→le w 16 t) (omega (arith, leb-true k 4294967295 e))) (λ _. tt)

nth_all : {X : Type 0} (P : X → Type 0) (xs : List X) (i : ℕ) → AllByRecursion P xs → IfSome (slice_get xs i) P
nth_all P [] i all = tt
nth_all P (x ∷ xs) zero all = all.0
nth_all P (x ∷ xs) (suc i) all = nth_all P xs i all.1

-- a line after a cell with such numbers
collected_sized : (l : Entry) (x : Cell) → Sized l → Held x → Sized (collected pair_make l x)
collected_sized l x sized held =
    cond_both (pair_make.smaller l.stamp x.tag) _ _ Sized
    (λ _. (sized.0, held.0, met l.kind, sized.3, sized.4)) (λ _. sized)
  where
    met : (k : Kind) → (value_of k l.value x.value).0 < 2 ^ 64
    met Write = sized.2
    met Read = held.1

module _ (t : ℕ) (M : Played) (w : Within t M) (short : t + 1 < 2 ^ 64) where
  abbrev Answer : Type 0
  Answer = Result (Option Cell) Refusal × Played

  abbrev Leaves : Answer → Type 0
  Leaves a = Within (t + 1) a.1

  -- an accepted call
  next : (b : Meaning Cell) (ls : List Entry) (used s : ℕ) (row : Row) → Banked b → AllByRecursion Sized ls → used ≤ M.moment + 1 → used ≤ length ls → Within (t + 1) (next_machine M b ls used s row)
  next b ls used s row banked sized few full =
      record { origin = w.origin; bank = banked; lines = sized; used = few; full = full; moment = omega (arith, w.moment) }

  -- an accepted step: line i is now l
  put : (i s : ℕ) (l : Entry) (row : Row) → (b : Meaning Cell) → Banked b → Sized l → Within (t + 1) (next_machine M b (set M.lines (i - 1) l) M.used s row)
  put i s l row b banked sized =
      next b _ M.used s row banked (All-set Sized M.lines (i - 1) l sized w.lines) (omega (arith, w.used)) (omega (arith, w.full, length-set M.lines (i - 1) l))

  -- an accepted step that changed no line
  pass : (b : Meaning Cell) (s : ℕ) (row : Row) → Banked b → Within (t + 1) (next_machine M b M.lines M.used s row)
  pass b s row banked = next b M.lines M.used s row banked w.lines (omega (arith, w.used)) w.full

  pub unmoved : Within (t + 1) M
  unmoved = later t (t + 1) M (omega arith) w

  -- a call that changed the bank alone
  pub with_bank_within : (b : Meaning Cell) → Banked b → Within (t + 1) (with_bank M b)
  with_bank_within b banked = record { origin = w.origin; bank = banked; lines = w.lines; used = w.used; full = w.full; moment = omega (arith, w.moment) }

  now_fits : M.moment + 1 < 2 ^ 64
  now_fits = omega (arith, w.moment)

  going_within : (s i : ℕ) (l : Entry) (c : ℕ) → Sized l → Leaves (going M s i l c)
  going_within s i l c sized = put i s l _ M.bank w.bank sized

  stamp_write_within : (s i : ℕ) (l : Entry) (c : ℕ) (o : Option PairStamp) → Sized l → Counted o → Leaves (stamp_write M s i l c o)
  stamp_write_within s i l c None sized counted = put i s _ _ M.bank w.bank (sized.0, sized.1, sized.2, sized.3, now_fits)
  stamp_write_within s i l c (Some x) sized counted = going_within s i _ c (sized.0, counted, sized.2, sized.3, sized.4)

  stamp_line_within : (s i : ℕ) (l : Entry) (c : ℕ) (k : Kind) → Sized l → Leaves (stamp_line pair_make M s i l c k)
  stamp_line_within s i l c Write sized = stamp_write_within s i l c (pair (l.stamp.count + 1) s) sized (pair_counted (l.stamp.count + 1) s)
  stamp_line_within s i l c Read sized = going_within s i _ c sized

  collect_within : (s i c : ℕ) (l : Entry) (a : Result Cell Refusal) → Sized l → IfOk a Held → Leaves (collect pair_make M s i c l a M.bank)
  collect_within s i c l (Err e) sized held = with_bank_within M.bank w.bank
  collect_within s i c l (Ok x) sized held =
      let taken = collected_sized l x sized held in
      cond_both (eqb (c + 1) M.stations) _ _ Leaves (λ _. stamp_line_within s i (collected pair_make l x) (c + 1) l.kind taken) (λ _. going_within s i (collected pair_make l x) (c + 1) taken)

  spread_within : (s i c : ℕ) (a : Result (Unit {0}) Refusal) (b : Meaning Cell) → Banked b → Leaves (spread M s i c a b)
  spread_within s i c (Err e) b banked = with_bank_within b banked
  spread_within s i c (Ok u) b banked = pass b s _ banked

  settle_within : (s i c : ℕ) (l : Entry) (a : Result (Unit {0}) Refusal) (b : Meaning Cell) → Sized l → Banked b → Leaves (settle M s i c l a b)
  settle_within s i c l (Err e) b sized banked = with_bank_within b banked
  settle_within s i c l (Ok u) b sized banked =
      cond_both (eqb (c + 1) (3 * M.stations)) _ _ Leaves
      (λ _. put i s _ _ b banked (sized.0, sized.1, sized.2, sized.3, now_fits)) (λ _. pass b s _ banked)

  stage_within : (choice : Bool) (s i c : ℕ) (l : Entry) → Sized l → Leaves (step_stage pair_make M choice s i c l)
  stage_within choice s i c l sized =
      let r = spread_to s ((c - M.stations) / 2) in
      cond_both (ltb c M.stations) _ _ Leaves
      (λ _. collect_within s i c l (read M.bank choice (c + 1) s).0 sized (read_held M.bank choice (c + 1) s w.bank))
      (λ _. cond_both (eqb ((c - M.stations) % 2) 0) _ _ Leaves
      (λ _. spread_within s i c (start M.bank s r (record_of l)).0 _ (start_held M.bank s r (record_of l) (sized.1, sized.2) w.bank))
      (λ _. settle_within s i c l (finish M.bank s).0 _ sized (finish_held M.bank s w.bank)))

  line_within : (choice : Bool) (s i c : ℕ) (o : Option Entry) → IfSome o Sized → Leaves (step_line pair_make M choice s i c o)
  line_within choice s i c None sized = unmoved
  line_within choice s i c (Some l) sized = stage_within choice s i c l sized

  row_within : (choice : Bool) (s : ℕ) (row : Row) → Leaves (step_row pair_make M choice s row)
  row_within choice s Idle = unmoved
  row_within choice s (Busy i c) = line_within choice s i c (slice_get M.lines (i - 1)) (nth_all Sized M.lines (i - 1) w.lines)

  pub step_within : (choice : Bool) (s : ℕ) → Within (t + 1) (step pair_make M choice s).1
  step_within choice s =
      cond_both (leb M.size (length M.lines)) _ _ Leaves
      (λ _. cond_both (inside M.stations s) _ _ Leaves (λ _. row_within choice s (row_of M.rows s)) (λ _. unmoved)) (λ _. unmoved)

  abbrev Opens : Result ℕ Refusal × Played → Type 0
  Opens a = Within (t + 1) a.1

  open_row_within : (s : ℕ) (kind : Kind) (v : PolicyNumber) (row : Row) → s < 2 ^ 64 → v.0 < 2 ^ 64 → M.size ≤ length M.lines → Opens (open_row M s kind v row)
  open_row_within s kind v (Busy i c) s_fits v_fits long = unmoved
  open_row_within s kind v Idle s_fits v_fits long =
      let l = fresh M s kind v in
      let sized : Sized l = (s_fits, w.origin.0, v_fits, now_fits, omega arith) in
      cond_both (ltb M.used M.size) _ _ Opens
      (λ e.
      next M.bank _ (M.used + 1) s _ w.bank (All-set Sized M.lines M.used l sized w.lines) (omega (arith, w.used))
      (omega (arith, ltb-true M.used M.size e, length-set M.lines M.used l)))
      (λ _. unmoved)

  pub open_within : (s : ℕ) (kind : Kind) (v : PolicyNumber) → s < 2 ^ 64 → v.0 < 2 ^ 64 → Within (t + 1) (open_line M s kind v).1
  open_within s kind v s_fits v_fits =
      cond_both (leb M.size (length M.lines)) _ _ Opens
      (λ e. cond_both (inside M.stations s) _ _ Opens (λ _. open_row_within s kind v (row_of M.rows s) s_fits v_fits (leb-true M.size (length M.lines) e)) (λ _. unmoved))
      (λ _. unmoved)
