-- Records with numbers of 64 bits: what a bank of them answers and keeps. Assumes nothing.
use Rattle.std.proofs.Common.{ℕ, ◌^◌, ◌<◌, Bool, ◌&&◌, eqb, IfSome, IfOk, Some, None, Option, Result}
use Rattle.std.proofs.lemmas.Bool.{cond_both}
use Rattle.policy.specs.declared.entry.PolicyNumber.{PolicyNumber}
use Rattle.policy.specs.declared.refusal.Refusal.{Refusal}
use Rattle.banks.specs.Meanings.{Meaning, inside, known, filled, read, chosen, record_or_4, start, start_at, finish, finish_at, mark}
use Rattle.banks.specs.declared.record.Record.{Record}
use Rattle.stamps.specs.declared.pair.PairStamp.{PairStamp}

abbrev pub Cell : Type 0
Cell = Record PairStamp PolicyNumber

abbrev pub Held : Cell → Type 0
Held x = (x.tag.count < 2 ^ 64) × (x.value.0 < 2 ^ 64)

abbrev Settled : Option Cell → Type 0
Settled x = IfSome x Held

abbrev Opened : Option (ℕ × Cell) → Type 0
Opened o = IfSome o (λ p. Held p.1)

-- all records of a bank
abbrev pub Banked : Meaning Cell → Type 0
Banked b = ((w r : ℕ) → Settled (b.settled w r)) × ((w : ℕ) → Opened (b.opened w))

-- what a call leaves
abbrev Left : Result (Unit {0}) Refusal × Meaning Cell → Type 0
Left a = Banked a.1

pub filled_held : (b : Meaning Cell) (x : Cell) → Held x → Banked (filled b x)
filled_held b x held = (λ w r. cond_both (known b.stations w r) (Some x) None Settled (λ _. held) (λ _. tt), λ w. tt)

chosen_held : (o : Option (ℕ × Cell)) (r : ℕ) (c : Bool) (x : Option Cell) → Opened o → Settled x → Settled (chosen o r c x)
chosen_held None r c x mid settled = settled
chosen_held (Some o) r c x mid settled = cond_both (eqb o.0 r && c) (Some o.1) x Settled (λ _. mid) (λ _. settled)

answered_held : (x : Option Cell) → Settled x → IfOk (record_or_4 x) Held
answered_held None held = tt
answered_held (Some x) held = held

abbrev Answered : Result Cell Refusal → Type 0
Answered a = IfOk a Held

pub read_held : (b : Meaning Cell) (c : Bool) (w r : ℕ) → Banked b → IfOk (read b c w r).0 Held
read_held b c w r banked =
    cond_both (known b.stations w r) _ _ Answered
    (λ _. cond_both (b.reachable w r) _ _ Answered
    (λ _. answered_held _ (chosen_held (b.opened w) r c (b.settled w r) (banked.1 w) (banked.0 w r))) (λ _. tt))
    (λ _. tt)

start_at_held : (o : Option (ℕ × Cell)) (b : Meaning Cell) (w r : ℕ) (x : Cell) → Held x → Banked b → Left (start_at o b w r x)
start_at_held None b w r x held banked =
    (banked.0, λ v. cond_both (eqb v w) (Some (r, x)) (b.opened v) Opened (λ _. held) (λ _. banked.1 v))
start_at_held (Some o) b w r x held banked = banked

pub start_held : (b : Meaning Cell) (w r : ℕ) (x : Cell) → Held x → Banked b → Banked (start b w r x).1
start_held b w r x held banked =
    cond_both (known b.stations w r) _ _ Left
    (λ _. cond_both (b.reachable w r) _ _ Left (λ _. start_at_held (b.opened w) b w r x held banked) (λ _. banked))
    (λ _. banked)

finish_at_held : (o : Option (ℕ × Cell)) (b : Meaning Cell) (w : ℕ) → Opened o → Banked b → Left (finish_at o b w)
finish_at_held None b w mid banked = banked
finish_at_held (Some o) b w mid banked =
    cond_both (b.reachable w o.0) _ _ Left
    (λ _. (
      λ v q. cond_both (eqb v w && eqb q o.0) (Some o.1) (b.settled v q) Settled (λ _. mid) (λ _. banked.0 v q),
      λ v. cond_both (eqb v w) None (b.opened v) Opened (λ _. tt) (λ _. banked.1 v),
    ))
    (λ _. banked)

pub finish_held : (b : Meaning Cell) (w : ℕ) → Banked b → Banked (finish b w).1
finish_held b w banked =
    cond_both (inside b.stations w) _ _ Left (λ _. finish_at_held (b.opened w) b w (banked.1 w) banked) (λ _. banked)

pub mark_held : (b : Meaning Cell) (w r : ℕ) (up : Bool) → Banked b → Banked (mark b w r up).1
mark_held b w r up banked = cond_both (known b.stations w r) _ _ Left (λ _. banked) (λ _. banked)
