-- What a page holds. Assumes nothing.
--     shown p                 the text in the page p
--     filled p                how many bytes it has
--     Room p n                the page p has room for n bytes more
--     Appends p q xs n        the page q is p with the text xs behind it, of at most n bytes
use Rattle.std.specs.Prelude.{◌≡◌, ℕ, ◌+◌, ◌≤◌, List, ◌++◌, length}
use Rattle.account.specs.declared.page.Page.{Page}

abbrev pub shown : Page → List ℕ
shown p = p.text.items

abbrev pub filled : Page → ℕ
filled p = length (shown p)

abbrev pub Room : Page → ℕ → Type 0
Room p n = filled p + n ≤ 131072

abbrev pub Appends : Page → Page → List ℕ → ℕ → Type 0
Appends p q xs n = (shown q ≡ shown p ++ xs) × (filled q ≤ filled p + n)
