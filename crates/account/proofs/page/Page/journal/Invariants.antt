use Rattle.std.proofs.Common.{◌≡◌, ◌+◌, ◌*◌, ◌≤◌, ◌++◌, drop}
use Rattle.account.specs.Pages.{shown, filled}
use Rattle.account.specs.Words.{journal_said}
use Rattle.account.proofs.page.Page.journal.Given as goal

-- what is written and what is left make the whole
abbrev pub invariant-loop-line : goal.invariant-loop-line
invariant-loop-line l =
    record {
      size : filled l.self ≤ filled l.initial.self + 139 * l.line-index;
      text : shown l.self ++ journal_said (drop l.line-index l.lines) ≡ shown l.initial.self ++ journal_said l.lines;
    }
