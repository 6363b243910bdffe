-- The invariant of a run: what holds of the operations, the cells and the rows at every point. Assumes nothing.
--     Entry S V           an operation with the stamp and the value of its line; entry 0 is the starting record
--     Point S V           a point of a run: station count, moment, cells, rows, entries
--     Held n c w x          row w of the cells holds the record x, settled or open
--     Backed              a write stamped before t has this stamp and value
--     Sound               what holds of one entry; Phase: how far it has come
--     Order, Later        what holds of two entries
--     RowFits            what holds of a station's row and its cells
--     Inv                 the invariant;  Told: how machine and book tell the entries
use Rattle.std.proofs.Common.{◌≡◌, ℕ, ◌+◌, ◌-◌, ◌*◌, ◌/◌, ◌%◌, ◌<◌, ◌≤◌, true, false, cond, eqb, ltb, length, Some, None, Option, unwrap_or}
use Rattle.std.specs.List.{slice_get}
use Rattle.banks.specs.declared.record.Record.{Record}
use Rattle.banks.specs.Meanings.{Meaning, inside, known}
use Rattle.stamps.specs.Makes.{Make}
use Rattle.machine.specs.Machines.{Machine, row_of}
use Rattle.machine.specs.Steps.{spread_to}
use Rattle.machine.specs.Histories.{End, as_done, as_spent, Operation, Book}
use Rattle.machine.specs.Rules.{account}
use Rattle.machine.specs.declared.line.Kind.TheVariants.{Write, Read}
use Rattle.machine.specs.declared.row.Row.{Row}
use Rattle.machine.specs.declared.row.Row.TheVariants.{Idle, Busy}

pub record Entry (S V : Type 0) : Type 0 where
  pub op : Operation S V
  pub stamp : S
  pub value : V

pub record Cells (R : Type 0) : Type 0 where
  pub settled : ℕ → ℕ → Option R
  pub opened : ℕ → Option (ℕ × R)

-- of n readers
pub data Held {R : Type 0} (n : ℕ) (c : Cells R) (w : ℕ) (x : R) : Type 0 where
  as_settled : (r : ℕ) → inside n r ≡ true → c.settled w r ≡ Some x → Held n c w x
  as_open : (r : ℕ) → c.opened w ≡ Some (r, x) → Held n c w x

-- a point of a run, as the proof sees it: the entries 0 to count are in use
pub record Point (S V : Type 0) : Type 0 where
  pub origin : Record S V
  pub stations : ℕ
  pub count : ℕ
  pub moment : ℕ
  pub cells : Cells (Record S V)
  pub row : ℕ → Row
  pub ent : ℕ → Entry S V

-- s is at most t
abbrev pub AtMost : {S : Type 0} → Make S → S → S → Type 0
AtMost m s t = m.smaller t s ≡ false

module _ {S V : Type 0} where
  abbrev pub cells_of : Meaning (Record S V) → Cells (Record S V)
  cells_of b = record { settled = b.settled; opened = b.opened }

  abbrev pub rec : Entry S V → Record S V
  rec e = record { tag = e.stamp; value = e.value }

  -- the entry of the starting record, of n stations
  abbrev pub start_entry : ℕ → Record S V → Entry S V
  start_entry n x =
      record {
        op =
            record {
              line = 0;
              kind = Write;
              station = 0;
              given = Some x.value;
              opened = 0;
              steps = 3 * n;
              stamped = Some 0;
              ended = Some (0, as_done x.tag x.value);
            };
        stamp = x.tag;
        value = x.value;
      }

  abbrev pub point_of : Machine S V → (ℕ → Entry S V) → Point S V
  point_of M ent = record { origin = M.origin; stations = M.stations; count = M.used; moment = M.moment; cells = cells_of M.bank; row = row_of M.rows; ent = ent }

  -- e is done since the moment u
  abbrev pub DoneAt : Entry S V → ℕ → Type 0
  DoneAt e u = e.op.ended ≡ Some (u, as_done e.stamp e.value)

  pub data Phase (n moment : ℕ) (e : Entry S V) : Type 0 where
    collecting : e.op.ended ≡ None → e.op.stamped ≡ None → e.op.steps < n → Phase n moment e
    spreading : (t : ℕ) → e.op.ended ≡ None → e.op.stamped ≡ Some t → t ≤ moment → n ≤ e.op.steps → e.op.steps < 3 * n → Phase n moment e
    finished : (t u : ℕ) → DoneAt e u → e.op.stamped ≡ Some t → t ≤ moment → u ≤ moment → e.op.steps ≡ 3 * n → Phase n moment e
    refused : (u : ℕ) → e.op.ended ≡ Some (u, as_spent) → e.op.stamped ≡ None → u ≤ moment → e.op.steps ≡ n → e.op.kind ≡ Write → Phase n moment e

  pub record Sound (m : Make S) (n moment k : ℕ) (e : Entry S V) : Type 0 where
    pub number : e.op.line ≡ k
    pub low : 1 ≤ k → 1 ≤ e.op.station
    pub high : e.op.station ≤ n
    pub opened : e.op.opened ≤ moment
    pub phase : Phase n moment e
    pub own : (v : V) → e.op.given ≡ Some v → e.value ≡ v
    pub reading : e.op.kind ≡ Read → e.op.given ≡ None
    pub owned : (t : ℕ) → e.op.kind ≡ Write → e.op.stamped ≡ Some t → m.owner e.stamp ≡ e.op.station

  -- a write stamped before t has the stamp s and the value v
  pub record Backed (σ : Point S V) (t : ℕ) (s : S) (v : V) : Type 0 where
    pub by : ℕ
    pub low : by ≤ σ.count
    pub write : (σ.ent by).op.kind ≡ Write
    pub at : ℕ
    pub stamped : (σ.ent by).op.stamped ≡ Some at
    pub before : at < t
    pub stamp : (σ.ent by).stamp ≡ s
    pub value : (σ.ent by).value ≡ v

  pub record Ended (moment : ℕ) (e : Entry S V) : Type 0 where
    pub at : ℕ
    pub how : End S V
    pub ended : e.op.ended ≡ Some (at, how)
    pub before : at < moment

  -- two operations of one station: the earlier is over before the later is opened
  abbrev pub Order : ℕ → Entry S V → ℕ → Entry S V → Type 0
  Order a d b e = a < b → d.op.station ≡ e.op.station → Ended e.op.opened d

  -- d was done before e was opened, and e has read the cell of d's station: e has no smaller stamp, and a greater as a write
  pub record Above (m : Make S) (d e : Entry S V) : Type 0 where
    pub at_most : AtMost m d.stamp e.stamp
    pub greater : (t : ℕ) → e.op.kind ≡ Write → e.op.stamped ≡ Some t → m.smaller d.stamp e.stamp ≡ true

  abbrev pub Later : Make S → ℕ → Entry S V → ℕ → Entry S V → Type 0
  Later m a d b e = (u : ℕ) → DoneAt d u → u < e.op.opened → d.op.station ≤ e.op.steps → Above m d e

  -- the open record of station s whose operation is e
  abbrev pub open_record : ℕ → ℕ → Entry S V → Option (ℕ × Record S V)
  open_record n s e =
      cond (ltb e.op.steps n) None
      (cond (eqb ((e.op.steps - n) % 2) 0) None (Some (spread_to s ((e.op.steps - n) / 2), rec e)))

  -- the row of s holds line i, which is entry e
  pub record BusyFits (σ : Point S V) (s i steps : ℕ) (e : Entry S V) : Type 0 where
    pub low : 1 ≤ i
    pub high : i ≤ σ.count
    pub station : e.op.station ≡ s
    pub going : e.op.ended ≡ None
    pub taken : e.op.steps ≡ steps
    -- between a start and its finish the open record is the line's
    pub middle : σ.cells.opened s ≡ open_record σ.stations s e
    -- the cells passed hold the line's record
    pub spread : (j : ℕ) → σ.stations + 2 * j + 2 ≤ e.op.steps → σ.cells.settled s (spread_to s j) ≡ Some (rec e)

  abbrev pub RowFits : Point S V → ℕ → Row → Type 0
  RowFits σ s Idle = (σ.cells.opened s ≡ None) × ((k : ℕ) → k ≤ σ.count → (σ.ent k).op.station ≡ s → Ended (σ.moment + 1) (σ.ent k))
  RowFits σ s (Busy i steps) = BusyFits σ s i steps (σ.ent i)

  pub record Inv (m : Make S) (σ : Point S V) : Type 0 where
    pub zeroth : σ.ent 0 ≡ start_entry σ.stations σ.origin
    pub sound : (k : ℕ) → k ≤ σ.count → Sound m σ.stations σ.moment k (σ.ent k)
    pub order : (a b : ℕ) → a ≤ σ.count → b ≤ σ.count → Order a (σ.ent a) b (σ.ent b)
    pub later : (a b : ℕ) → a ≤ σ.count → b ≤ σ.count → Later m a (σ.ent a) b (σ.ent b)
    -- a read's stamp and value are those of a write stamped before it
    pub reads : (k : ℕ) → k ≤ σ.count → (σ.ent k).op.kind ≡ Read → Backed σ (unwrap_or (σ.ent k).op.stamped (σ.moment + 1)) (σ.ent k).stamp (σ.ent k).value
    -- and so are those of every record that a row holds
    pub kept : (w : ℕ) (x : Record S V) → Held σ.stations σ.cells w x → Backed σ (σ.moment + 1) x.tag x.value
    -- a done operation's stamp is at most that of every record its row holds
    pub above : (a u : ℕ) → 1 ≤ a → a ≤ σ.count → DoneAt (σ.ent a) u → (x : Record S V) → Held σ.stations σ.cells (σ.ent a).op.station x → AtMost m (σ.ent a).stamp x.tag
    pub rows : (s : ℕ) → inside σ.stations s ≡ true → RowFits σ s (σ.row s)
    pub full : (w r : ℕ) → known σ.stations w r ≡ true → (x : Record S V) × (σ.cells.settled w r ≡ Some x)

  -- how the machine and the book tell the entries, in a run from old
  pub record Told (old M : Machine S V) (b : Book S V) (ent : ℕ → Entry S V) : Type 0 where
    pub same_stations : M.stations ≡ old.stations
    pub same_origin : M.origin ≡ old.origin
    -- the lines not in use
    pub rest : (k : ℕ) → M.used ≤ k → slice_get M.lines k ≡ slice_get old.lines k
    pub some : 1 ≤ M.stations
    pub stations : M.stations ≤ 16
    pub bank : M.bank.stations ≡ M.stations
    pub moments : M.moment ≡ b.moment
    pub counts : M.used ≡ b.count
    pub room : M.used ≤ M.size
    pub size : M.size ≤ length M.lines
    pub rows : length M.rows ≡ 16
    pub operations : (k : ℕ) → 1 ≤ k → k ≤ M.used → b.operation k ≡ (ent k).op
    pub lines : (k : ℕ) → 1 ≤ k → k ≤ M.used → slice_get M.lines (k - 1) ≡ Some (account (ent k).op (ent k).stamp (ent k).value)
    pub latest : (s i c : ℕ) → inside M.stations s ≡ true → row_of M.rows s ≡ Busy i c → b.latest s ≡ i

  pub record Kept (m : Make S) (old M : Machine S V) (b : Book S V) : Type 0 where
    pub ent : ℕ → Entry S V
    pub inv : Inv m (point_of M ent)
    pub told : Told old M b ent
