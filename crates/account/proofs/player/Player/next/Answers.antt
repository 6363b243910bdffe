use Rattle.std.proofs.Common.{◌≡◌, ◌<◌, not, eqb, [], length, sym, arith}
use Rattle.std.proofs.lemmas.Bool.Decides.{nat_tests}
use Rattle.std.proofs.lemmas.Result.{IfOk-at_ok}
use Rattle.commands.specs.Files.{unread}
use Rattle.account.specs.Founded.{game_of}
use Rattle.account.specs.Pages.{shown}
use Rattle.account.specs.Players.{rest, some}
use Rattle.account.proofs.Pieces.{taken_more, end_more, full_more}
use Rattle.account.proofs.player.Player.next.Goals as goal
use Rattle.account.proofs.player.Player.next.Goals.{else-loop-heap-test, then-loop-heap-test+in_default}

pub loop-heap-preserved : goal.loop-heap-preserved
loop-heap-preserved c =
    let l = c.loop-heap in
    let told = IfOk-at_ok _ (sym c.in_ok-answer.ensures) c.turn.ensures.told in
    record {
      whole = taken_more l.self.number (game_of l.self.game) (game_of c.turn.new.game) l.self.commands.rest.now c.next.new.self.rest.now (shown l.page) (shown c.put.new.self) (rest c.args.self.now) _ c.in-Some.read c.in-Some.ensures.steps told c.put.ensures l.invariant.whole;
      few = omega (arith, l.invariant.few, c.in-Some.ensures.shorter);
      goes = λ filled. omega (arith, l.invariant.few, c.in-Some.ensures.shorter);
    }

pub returns-clause-answer : goal.returns-clause-answer
returns-clause-answer c =
    let l = c.loop-heap in
    let whole = rest c.args.self.now in
    let full = λ (more : 0 < length (shown l.page)). full_more (shown l.page) (rest l.self) whole l.invariant.whole more in
    let end = λ (none : unread l.self.commands ≡ []). end_more l.self.commands.rest.now (shown l.page) whole (game_of l.self.game) l.self.number none l.invariant.whole in
    let more : not (eqb (length (shown l.page)) 0) ≡ some whole =
    elim c.loop-heap-test.branch [ else-loop-heap-test w ↦ full (grind (arith, nat_tests, w.loop-heap-test.ensures)) | then-loop-heap-test+in_default w ↦ end w.in_default.ensures.steps.0 ] in
    grind (arith, more, c.is_empty.ensures, c.text.ensures)
