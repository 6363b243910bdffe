use Rattle.std.proofs.Common.{rules, arith, length, ap}
use Rattle.commands.proofs.Outcomes.{outcomes_more}
use Rattle.commands.proofs.ReadingLaws.{shorter}
use Rattle.commands.proofs.file.CommandsIterator.next.Goals as goal

pub returns-in-Ok-Some : goal.returns-in-Ok-Some
returns-in-Ok-Some c =
    let arm = c.in-Ok-Some in
    let xs = c.args.self.now.rest.now in
    let e = outcomes_more xs arm.command arm.rest.now (search (rules, arm.ensures.value)) in
    let less = shorter xs arm.command arm.rest.now (search (rules, arm.ensures.value)) in
    record { steps = e; goes = grind (arith, ap length e); shorter = less }
