-- What a make of stamps is, and the laws that every make shows. Assumes nothing.
--     Make S              the parts of a make whose stamps are of the type S
--     Compared m s t      exactly one of s and t is smaller, or they are the same stamp
--     Laws m              the laws of a make
--     Spent m s           s is spent: its count is the greatest
--     first_of m k        what a call for the first stamp of count k answers
--     next_of m s w       what a call for the next stamp after s for station w answers
--     shown_stamp m s     what is printed of s
use Rattle.std.specs.Prelude.{◌≡◌, ℕ, ◌+◌, ◌<◌, ◌≤◌, Bool, true, false, cond, ◌≢◌, List, ◌++◌, Some, None, codes, decimal, Option, nat_le}

-- Owner 0 is nobody, and 1 to 16 are stations. A stamp whose count is the greatest is spent.
pub record Make (S : Type 0) : Type 0 where
  pub count : S → ℕ
  pub owner : S → ℕ
  pub smaller : S → S → Bool
  pub greatest : ℕ
  pub first : ℕ → Option S
  pub next : S → ℕ → Option S

pub data Compared {S : Type 0} (m : Make S) (s t : S) : Type 0 where
  below : m.smaller s t ≡ true → m.smaller t s ≡ false → s ≢ t → Compared m s t
  same : m.smaller s t ≡ false → m.smaller t s ≡ false → s ≡ t → Compared m s t
  above : m.smaller s t ≡ false → m.smaller t s ≡ true → s ≢ t → Compared m s t

pub record Laws {S : Type 0} (m : Make S) : Type 0 where
  pub compared : (s t : S) → Compared m s t
  pub transitive : (s t u : S) → m.smaller s t ≡ true → m.smaller t u ≡ true → m.smaller s u ≡ true
  -- a smaller count makes a smaller stamp
  pub by_count : (s t : S) → m.count s < m.count t → m.smaller s t ≡ true
  -- the first stamp for count k has count k and owner 0
  pub first_stamp : (k : ℕ) → k ≤ m.greatest → (s : S) × (m.first k ≡ Some s) × (m.count s ≡ k) × (m.owner s ≡ 0)
  -- the next stamp after s for station w has count one higher and owner w
  pub next_stamp : (s : S) (w : ℕ) → 1 ≤ w → w ≤ 16 → m.count s < m.greatest → (t : S) × (m.next s w ≡ Some t) × (m.count t ≡ m.count s + 1) × (m.owner t ≡ w)
  -- a spent stamp has no next one
  pub spent : (s : S) (w : ℕ) → 1 ≤ w → w ≤ 16 → m.greatest ≤ m.count s → m.next s w ≡ None
  pub owners_differ : (s t : S) → m.owner s ≢ m.owner t → s ≢ t

module _ {S : Type 0} (m : Make S) where
  abbrev pub Spent : S → Type 0
  Spent s = m.count s ≡ m.greatest

  -- none above the greatest count
  abbrev pub first_of : ℕ → Option S
  first_of k = cond (nat_le k m.greatest) (m.first k) None

  -- none for a station above 16
  abbrev pub next_of : S → ℕ → Option S
  next_of s w = cond (nat_le w 16) (m.next s w) None

  -- count, full stop, owner
  abbrev pub shown_stamp : S → List ℕ
  shown_stamp s = decimal (m.count s) ++ (codes "." ++ decimal (m.owner s))
