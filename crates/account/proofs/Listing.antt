-- Journal lines written one after another. Assumes nothing.
use Rattle.std.proofs.Common.{◌≡◌, ℕ, ◌+◌, ◌<◌, ◌≤◌, List, ◌++◌, length, get_or, drop, codes, append_assoc, append-nil, arith}
use Rattle.std.proofs.lemmas.List.{drop_more, drop_all}
use Rattle.account.specs.Listings.{Entry}
use Rattle.account.specs.Words.{line_said, journal_said}

-- one more line is written
pub journal_more : (ls : List Entry) (i : ℕ) (l : Entry) (was now text : List ℕ) → i < length ls → l ≡ get_or ls i l → now ≡ was ++ (codes "\n" ++ line_said l) → was ++ journal_said (drop i ls) ≡ text → now ++ journal_said (drop (i + 1) ls) ≡ text
journal_more ls i l was now text lt is put whole = grind (arith, drop_more, append_assoc)

-- all lines are written
pub journal_all : (ls : List Entry) (i : ℕ) (now text : List ℕ) → length ls ≤ i → now ++ journal_said (drop i ls) ≡ text → now ≡ text
journal_all ls i now text end whole = grind (arith, drop_all, append-nil)
