use Rattle.std.proofs.Common.{◌≡◌, ◌-◌, ◌∙◌, sym, rules}
use Rattle.std.specs.List.{slice_get}
use Rattle.std.proofs.lemmas.Iterator.Adapters.{option_map_id}
use Rattle.std.proofs.lemmas.Iterator.Search.{find_from_yields_List}
use borrow.Author.Tests.{tests}
use Rattle.register.specs.Lookups.{found_at, last_of}
use Rattle.register.proofs.Downward.{yields_down}
use Rattle.register.proofs.Latest.{found_down, highest_as}
use Rattle.register.proofs.register.calls.lookup.last_done.Goals as goal

pub returns : goal.returns
returns g c =
    let lines = c.args.journal.now.lines.now in
    let s = c.args.station in
    let numbers = yields_down c.rev.result c.new.result c.args.used c.rev.ensures.source c.new.ensures.start c.new.ensures.end c.new.ensures.exhausted in
    let found = find_from_yields_List (λ k. found_at s (slice_get lines (k - 1))) _ _ c.find.result c.find.ensures.ran numbers (λ x b q k. search (rules, tests)) in
    let is : c.find.result ≡ last_of lines s c.args.used = sym (option_map_id c.find.result) ∙ found ∙ found_down lines s c.args.used in
    record { call = is; highest = highest_as lines s _ _ (sym is) }
