-- The law of the register's stamps, over whole runs. Assumes nothing.
--     History S V         what the law speaks of: the notes, the book made from them, the starting record, the journal
--     stamped h k         operation k, if it is stamped; number 0 is the starting record, a write by nobody
--     Rests h a w         the stamped operation a rests on the write w
--     account o s v       the journal line of operation o, with stamp s and value v
--     Accounted n ls k o  what the law says of operation k and its line
--     Law m h             the law
--     LawOfRuns V m     the law of every run of every register whose make was accepted
--     RefusalsLeave V m  a refused call changes nothing, unless the refusal is 14
use Rattle.std.specs.Prelude.{◌≡◌, ℕ, ◌-◌, ◌*◌, ◌<◌, ◌≤◌, true, false, cond, ◌↔◌, List, Some, None, Ok, Err, Option, ◌==◌, ◌≢◌, nat_le}
use Rattle.std.specs.Option.{unwrap_or}
use Rattle.std.specs.List.{AllByRecursion, slice_get}
use Rattle.policy.specs.Refusals.{number_of}
use Rattle.policy.specs.declared.refusal.Refusal.{Refusal}
use Rattle.banks.specs.declared.record.Record.{Record}
use Rattle.banks.specs.Meanings.{Meaning, inside}
use Rattle.stamps.specs.Makes.{Make}
use Rattle.machine.specs.Machines.{Machine, make}
use Rattle.machine.specs.Runs.{Call, Note, write_note, read_note, step_note, mark_note, act, play}
use Rattle.machine.specs.Histories.{End, as_done, as_spent, Operation, Book, empty_book, observed}
use Rattle.machine.specs.declared.line.Kind.{Kind}
use Rattle.machine.specs.declared.line.Kind.TheVariants.{Write, Read}
use Rattle.machine.specs.declared.line.LineState.{LineState}
use Rattle.machine.specs.declared.line.LineState.TheVariants.{Collecting, Spreading, Done, Spent}
use Rattle.machine.specs.declared.line.Line.{Line}

-- The journal: the handed lines before and after the run, and how many are in use.
pub record History (S V : Type 0) : Type 0 where
  pub stations : ℕ
  pub origin : Record S V
  pub notes : List (Note S V)
  pub book : Book S V
  pub moment : ℕ
  pub before : List (Line S V)
  pub lines : List (Line S V)
  pub used : ℕ

-- A stamped operation: ended, once it is done, has the moment of its end.
pub record Stamped (S V : Type 0) : Type 0 where
  pub kind : Kind
  pub opened : ℕ
  pub stamped_at : ℕ
  pub ended : Option ℕ
  pub stamp : S
  pub value : V

module _ {S V : Type 0} where
  -- the history of a run from M, where acts says what a call does
  abbrev pub history : (Machine S V → Call V → Note S V × Machine S V) → Machine S V → List (Call V) → History S V
  history acts M calls =
      let run = play acts M calls in
      record {
        stations = M.stations;
        origin = M.origin;
        notes = run.0;
        book = observed M.stations empty_book run.0;
        moment = run.1.moment;
        before = M.lines;
        lines = run.1.lines;
        used = run.1.used;
      }

  -- the starting record counts as a write by nobody, opened, stamped and ended at moment 0
  abbrev pub starting : Record S V → Stamped S V
  starting x = record { kind = Write; opened = 0; stamped_at = 0; ended = Some 0; stamp = x.tag; value = x.value }

  abbrev pub end_moment : Option (ℕ × End S V) → Option ℕ
  end_moment None = None
  end_moment (Some e) = Some e.0

  -- the stamp, and a read's value, are those in the line; a write's value is the one handed to its open
  abbrev pub stamped_with : Operation S V → Option ℕ → Option (Line S V) → Option (Stamped S V)
  stamped_with o None l = None
  stamped_with o (Some t) None = None
  stamped_with o (Some t) (Some l) =
      Some (record {
        kind = o.kind;
        opened = o.opened;
        stamped_at = t;
        ended = end_moment o.ended;
        stamp = l.stamp;
        value = unwrap_or o.given l.value;
      })

  abbrev pub stamped : History S V → ℕ → Option (Stamped S V)
  stamped h k =
      cond (k == 0)
      (Some (starting h.origin))
      (cond (nat_le k h.book.count)
      (stamped_with (h.book.operation k) (h.book.operation k).stamped (slice_get h.lines (k - 1)))
      None)

  -- x, which has number a, rests on the write z, which has number w: a write on itself; a read on every write that was
  -- stamped at an earlier moment and whose stamp and value are the read's
  abbrev pub RestsBy : Kind → ℕ → ℕ → Stamped S V → Stamped S V → Type 0
  RestsBy Write a w x z = a ≡ w
  RestsBy Read a w x z = (z.stamped_at < x.stamped_at) × (z.stamp ≡ x.stamp) × (z.value ≡ x.value)

  abbrev pub Rests : History S V → ℕ → ℕ → Type 0
  Rests h a w =
      (x : Stamped S V) × (z : Stamped S V) × (stamped h a ≡ Some x) × (stamped h w ≡ Some z)
      × (z.kind ≡ Write) × RestsBy x.kind a w x z

  abbrev pub state_at_end : End S V → LineState
  state_at_end (as_done s v) = Done
  state_at_end as_spent = Spent

  abbrev pub state_of : Option (ℕ × End S V) → Option ℕ → LineState
  state_of None None = Collecting
  state_of None (Some t) = Spreading
  state_of (Some e) t = state_at_end e.1

  abbrev pub account : Operation S V → S → V → Line S V
  account o s v =
      record {
        kind = o.kind;
        station = o.station;
        state = state_of o.ended o.stamped;
        stamp = s;
        value = v;
        opened = o.opened;
        ended = unwrap_or (end_moment o.ended) 0;
      }

  -- Of operation k, which is o, at any point of a run of n stations. As it holds at every point, "exactly when it has
  -- taken 3 × n accepted steps" says "exactly at its accepted step 3 × n".
  pub record Accounted (n : ℕ) (lines : List (Line S V)) (k : ℕ) (o : Operation S V) : Type 0 where
    -- its open answered its number
    pub number : o.line ≡ k
    pub stamp : S
    pub value : V
    -- its line is its account
    pub told : slice_get lines (k - 1) ≡ Some (account o stamp value)
    pub own_value : (v : V) → o.given ≡ Some v → value ≡ v
    pub within : o.steps ≤ 3 * n
    -- it has ended as done exactly when it has taken 3 × n accepted steps
    pub done_at : (t : ℕ) (s : S) (v : V) → o.ended ≡ Some (t, as_done s v) → o.steps ≡ 3 * n
    pub at_done : o.steps ≡ 3 * n → (t : ℕ) × (o.ended ≡ Some (t, as_done stamp value))
    -- the stamp and the value that its last step answered are those of its line
    pub done_says : (t : ℕ) (s : S) (v : V) → o.ended ≡ Some (t, as_done s v) → (s ≡ stamp) × (v ≡ value)
    -- the one other ending is a write refused as spent, when it has taken n accepted steps; it is not stamped
    pub spent_at : (t : ℕ) → o.ended ≡ Some (t, as_spent) → (o.kind ≡ Write) × (o.steps ≡ n) × (o.stamped ≡ None)

  -- a step meets no refusal 4, 16 or 17 of its bank
  abbrev pub Clean : ℕ → Note S V → Type 0
  Clean n (write_note s v a) = Unit {0}
  Clean n (read_note s a) = Unit {0}
  Clean n (step_note s (Ok a)) = Unit {0}
  Clean n (step_note s (Err e)) =
      (number_of e ≡ 4 → inside n s ≡ false) × (number_of e ≢ 16) × (number_of e ≢ 17)
  Clean n (mark_note w r up a) = Unit {0}

  pub record Law (m : Make S) (h : History S V) : Type 0 where
    -- two stamped operations are equal in stamp exactly when they rest on the same write
    pub same_stamp : (a b : ℕ) (x y : Stamped S V) → stamped h a ≡ Some x → stamped h b ≡ Some y → (x.stamp ≡ y.stamp) ↔ ((w : ℕ) × Rests h a w × Rests h b w)
    -- every stamped operation rests on exactly one write (and gives its value)
    pub one_write : (a : ℕ) (x : Stamped S V) → stamped h a ≡ Some x → (w : ℕ) × Rests h a w × ((v : ℕ) → Rests h a v → v ≡ w)
    -- a stamped operation opened after another stamped one had ended never has the smaller stamp
    pub never_smaller : (a b : ℕ) (x y : Stamped S V) (t : ℕ) → stamped h a ≡ Some x → stamped h b ≡ Some y → x.ended ≡ Some t → t < y.opened → m.smaller y.stamp x.stamp ≡ false
    -- and if it is a write it has the greater
    pub write_greater : (a b : ℕ) (x y : Stamped S V) (t : ℕ) → stamped h a ≡ Some x → stamped h b ≡ Some y → x.ended ≡ Some t → t < y.opened → y.kind ≡ Write → m.smaller x.stamp y.stamp ≡ true
    -- the moment counts the accepted opens and steps; the lines in use are the operations' accounts, in the order of opening
    pub moments : h.moment ≡ h.book.moment
    pub in_use : h.used ≡ h.book.count
    pub accounts : (k : ℕ) → 1 ≤ k → k ≤ h.book.count → Accounted h.stations h.lines k (h.book.operation k)
    -- the lines not in use keep what they held
    pub rest : (k : ℕ) → h.used ≤ k → slice_get h.lines k ≡ slice_get h.before k
    pub clean : AllByRecursion (Clean h.stations) h.notes

-- for every bank of n stations, 1 to 16; every starting count k up to the greatest; every starting value; every journal of
-- at least size lines, size up to 4096; and every list of calls, with every choice
abbrev pub LawOfRuns : {S : Type 0} (V : Type 0) → Make S → Type 0
LawOfRuns {S} V m =
    (bank : Meaning (Record S V)) (n k : ℕ) (v : V) (lines : List (Line S V)) (size : ℕ) (M : Machine S V) → make m bank n k v lines size ≡ Ok M → (calls : List (Call V)) → Law m (history (act m) M calls)

-- the call of this note was refused with e
abbrev pub RefusedBy : {S V : Type 0} → Refusal → Note S V → Type 0
RefusedBy e (write_note s v a) = a ≡ Err e
RefusedBy e (read_note s a) = a ≡ Err e
RefusedBy e (step_note s a) = a ≡ Err e
RefusedBy e (mark_note w r up a) = a ≡ Err e

-- a refusal changes nothing, unless it is 14
abbrev pub RefusalsLeave : {S : Type 0} (V : Type 0) → Make S → Type 0
RefusalsLeave {S} V m =
    (M : Machine S V) (c : Call V) (e : Refusal) → RefusedBy e (act m M c).0 → (number_of e ≢ 14) → (act m M c).1 ≡ M
