-- Every game of an account is a run of a register that was made. Assumes nothing.
use Rattle.std.proofs.Common.{◌≡◌, ℕ, Bool, true, false, cond, eqb, List, [], ◌∷◌, replicate, Some, None, Ok, Err, Option, Result, refl}
use Rattle.policy.specs.declared.entry.PolicyNumber.{PolicyNumber}
use Rattle.policy.specs.declared.refusal.Refusal.{Refusal}
use Rattle.policy.specs.declared.refusal.Refusal.TheVariants.{UnknownByte}
use Rattle.commands.specs.declared.command.Command.{Command}
use Rattle.commands.specs.declared.command.Command.TheVariants.{Make, Write, Read, Step, Down, Up, List as Lines}
use Rattle.stamps.specs.Makes.{Laws}
use Rattle.stamps.specs.Pairs.{pair_make}
use Rattle.stamps.specs.Keyed.{keyed_laws}
use Rattle.stamps.specs.PairsLemmas.{pair_keyed}
use Rattle.machine.specs.Runs.{write_call, read_call, step_call, mark_call}
use Rattle.machine.proofs.Whole.{law_of_runs}
use Rattle.register.specs.Reach.{Reached}
use Rattle.register.proofs.Reaching.{reaching}
use Rattle.account.specs.Games.{Played, carried}
use Rattle.account.specs.Laws.{game_after, Lawful}
use Rattle.account.specs.Texts.{Game, empty_bank, blank, founding, founded_by, answer}
use Rattle.account.specs.Words.{refusal_said}

abbrev Run : Option Game → Type 0
Run None = Unit {0}
Run (Some g) = Reached pair_make g.machine

founded : (choice : Bool) (n k : ℕ) (v : PolicyNumber) (r : Result Played Refusal) → founding n k v ≡ r → Run (founded_by choice r).1
founded choice n k v (Ok M) is =
    record { bank = empty_bank n; stations = n; count = k; value = v; lines = replicate 512 blank; size = 512; first = M; made = is; calls = []; leads = refl }
founded choice n k v (Err e) is = tt

made_run : (board post : Bool) (n k : ℕ) (v : PolicyNumber) → Run (cond board (founded_by true (founding n k v)) (cond post (founded_by false (founding n k v)) (refusal_said UnknownByte, None))).1
made_run true post n k v = founded true n k v (founding n k v) refl
made_run false true n k v = founded false n k v (founding n k v) refl
made_run false false n k v = tt

-- one command more
next_run : (choice : Bool) (M : Played) (c : Command) → Reached pair_make M → Reached pair_make (carried choice M c).1
next_run choice M (Make bank stations count value) r = r
next_run choice M (Write station value) r = reaching pair_make M _ (write_call station value) refl r
next_run choice M (Read station) r = reaching pair_make M _ (read_call station) refl r
next_run choice M (Step station) r = reaching pair_make M _ (step_call station choice) refl r
next_run choice M (Down writer reader) r = reaching pair_make M _ (mark_call writer reader false) refl r
next_run choice M (Up writer reader) r = reaching pair_make M _ (mark_call writer reader true) refl r
next_run choice M Lines r = r

answer_run : (g : Option Game) (c : Command) → Run g → Run (answer g c).1
answer_run None (Make bank stations count value) r = made_run (eqb bank 0) (eqb bank 1) stations count value
answer_run None (Write station value) r = tt
answer_run None (Read station) r = tt
answer_run None (Step station) r = tt
answer_run None (Down writer reader) r = tt
answer_run None (Up writer reader) r = tt
answer_run None Lines r = tt
answer_run (Some g) c r = next_run g.choice g.machine c r

after_run : (cs : List Command) (g : Option Game) → Run g → Run (game_after cs g)
after_run [] g r = r
after_run (c ∷ cs) g r = after_run cs (answer g c).1 (answer_run g c r)

pair_laws : Laws pair_make
pair_laws = keyed_laws pair_keyed

run_lawful : (g : Option Game) → Run g → Lawful g
run_lawful None r = tt
run_lawful (Some g) r =
    (r, law_of_runs pair_make pair_laws r.bank r.stations r.count r.value r.lines r.size r.first r.made r.calls)

pub lawful : (cs : List Command) → Lawful (game_after cs None)
lawful cs = run_lawful (game_after cs None) (after_run cs None tt)
