use Rattle.std.proofs.Common.{◌≡◌, replicate, Ok, vec_items, ap, ◌∙◌, rules}
use Rattle.std.specs.Vec.{with_items}
use Rattle.std.proofs.lemmas.List.{take_at}
use Rattle.register.specs.Seen.{seen}
use Rattle.account.specs.Founded.{bank_meaning, choice_of, open_first}
use Rattle.account.specs.Texts.{founded_by}
use Rattle.account.proofs.Founding.{made_anew}
use Rattle.account.proofs.game.Game.new.Goals as goal

pub returns : goal.returns
returns c =
    let plan = c.args.plan in
    let same : vec_items (with_items c.in_ok-lines.lines c.make.new.lines) ≡ c.make.new.lines = take_at c.make.new.lines _ _ (search rules) in
    let new = c.deref_mut.ensures.value ∙ c.in_ok-lines.ensures ∙ ap (replicate 512) c.blank-2.ensures in
    let made = made_anew (bank_meaning c.in_ok-bank.bank) _ plan.stations plan.count plan.value _ _ _ c.in_ok-bank.ensures.made new c.in_ok-register.ensures.made in
    ap (λ ls. founded_by (choice_of c.make.new.self) (Ok (seen c.in_ok-register.register (bank_meaning c.make.new.self) ls))) same
    ∙ ap (λ b. founded_by b (Ok (seen c.in_ok-register.register (bank_meaning c.make.new.self) c.make.new.lines))) (c.make.ensures.kind ∙ c.in_ok-bank.ensures.kind)
    ∙ ap (founded_by (open_first c.args.kind)) made
