-- The games of a file of bytes are games of numbers of 64 bits. Assumes nothing.
use Rattle.std.proofs.Common.{◌≡◌, ℕ, zero, suc, ◌+◌, ◌^◌, ◌<◌, ◌≤◌, Bool, true, false, ◌&&◌, eqb, leb, List, [], ◌∷◌, ◌++◌, length, replicate, IfOk, Some, None, Ok, Err, Option, Result, ap, subst, arith, length-append}
use Rattle.std.specs.List.{AllByRecursion}
use Rattle.std.proofs.lemmas.Bool.{cond_both}
use Rattle.policy.specs.declared.entry.PolicyNumber.{PolicyNumber}
use Rattle.policy.specs.declared.refusal.Refusal.{Refusal}
use Rattle.commands.specs.Readings.{Bytes, reading}
use Rattle.commands.specs.declared.command.Command.{Command}
use Rattle.commands.specs.declared.command.Command.TheVariants.{Make, Write, Read, Step, Down, Up, List as Lines}
use Rattle.commands.proofs.ReadingLaws.{Small, AllSmall}
use Rattle.commands.proofs.WholeFiles.{all_small, few_commands}
use Rattle.banks.specs.Meanings.{Meaning, inside}
use Rattle.stamps.specs.Pairs.{pair, pair_make}
use Rattle.stamps.specs.declared.pair.PairStamp.{PairStamp}
use Rattle.machine.specs.Machines.{make, made as begun}
use Rattle.machine.specs.declared.line.Kind.TheVariants as kinds
use Rattle.account.specs.Games.{Played, carried}
use Rattle.account.specs.Laws.{game_after}
use Rattle.account.specs.Listings.{Entry, Sized}
use Rattle.account.specs.Texts.{Game, empty_bank, blank, founding, founded_by, making, answer}
use Rattle.account.proofs.ListingsCells.{Cell, filled_held, mark_held}
use Rattle.account.proofs.ListingsSizes.{Within, Counted, later, unmoved, pair_counted, with_bank_within, step_within, open_within}

-- what a make comes to
abbrev Made : Result Played Refusal → Type 0
Made r = IfOk r (Within 0)

begun_within : (b : Meaning Cell) (n : ℕ) (v : PolicyNumber) (ls : List Entry) (size : ℕ) (o : Option PairStamp) → v.0 < 2 ^ 64 → AllByRecursion Sized ls → Counted o → Made (begun b n v ls size o)
begun_within b n v ls size None fits sized counted = tt
begun_within b n v ls size (Some s) fits sized counted =
    record {
      origin = (counted, fits);
      bank = filled_held b (record { tag = s; value = v }) (counted, fits);
      lines = sized;
      used = omega arith;
      full = omega arith;
      moment = omega arith;
    }

make_within : (b : Meaning Cell) (n k : ℕ) (v : PolicyNumber) (ls : List Entry) (size : ℕ) → v.0 < 2 ^ 64 → AllByRecursion Sized ls → Made (make pair_make b n k v ls size)
make_within b n k v ls size fits sized =
    cond_both (inside 16 n) _ _ Made
    (λ _. cond_both (eqb n b.stations) _ _ Made
    (λ _. cond_both (leb k 4294967295) _ _ Made
    (λ _. cond_both (leb size 4096 && leb size (length ls)) _ _ Made (λ _. begun_within b n v ls size (pair k 0) fits sized (pair_counted k 0)) (λ _. tt))
    (λ _. tt))
    (λ _. tt))
    (λ _. tt)

all_replicate : {X : Type 0} (P : X → Type 0) (n : ℕ) (x : X) → P x → AllByRecursion P (replicate n x)
all_replicate P zero x p = tt
all_replicate P (suc n) x p = (p, all_replicate P n x p)

founding_within : (n k : ℕ) (v : PolicyNumber) → v.0 < 2 ^ 64 → Made (founding n k v)
founding_within n k v fits =
    make_within (empty_bank n) n k v (replicate 512 blank) 512 fits (all_replicate Sized 512 blank (omega arith, omega arith, omega arith, omega arith, omega arith))

abbrev Kept : ℕ → Option Game → Type 0
Kept t None = Unit {0}
Kept t (Some g) = Within t g.machine

kept_later : (t u : ℕ) (g : Option Game) → t ≤ u → Kept t g → Kept u g
kept_later t u None more w = tt
kept_later t u (Some g) more w = later t u g.machine more w

founded_kept : (t : ℕ) (choice : Bool) (r : Result Played Refusal) → Made r → Kept t (founded_by choice r).1
founded_kept t choice (Ok M) w = later 0 t M (omega arith) w
founded_kept t choice (Err e) w = tt

making_kept : (t bank n k : ℕ) (v : PolicyNumber) → v.0 < 2 ^ 64 → Kept t (making bank n k v).1
making_kept t bank n k v fits =
    let Keeps : List ℕ × Option Game → Type 0 = λ a. Kept t a.1 in
    let found = founding_within n k v fits in
    cond_both (eqb bank 0) _ _ Keeps (λ _. founded_kept t true (founding n k v) found)
    (λ _. cond_both (eqb bank 1) _ _ Keeps (λ _. founded_kept t false (founding n k v) found) (λ _. tt))

carried_within : (choice : Bool) (t : ℕ) (M : Played) (c : Command) → Small c → t + 1 < 2 ^ 64 → Within t M → Within (t + 1) (carried choice M c).1
carried_within choice t M (Make bank stations count value) small short w = unmoved t M w short
carried_within choice t M (Write station value) small short w = open_within t M w short station kinds.Write value small.0 small.1
carried_within choice t M (Read station) small short w = open_within t M w short station kinds.Read M.origin.value small w.origin.1
carried_within choice t M (Step station) small short w = step_within t M w short choice station
carried_within choice t M (Down writer reader) small short w = with_bank_within t M w short _ (mark_held M.bank writer reader false w.bank)
carried_within choice t M (Up writer reader) small short w = with_bank_within t M w short _ (mark_held M.bank writer reader true w.bank)
carried_within choice t M Lines small short w = unmoved t M w short

answer_kept : (t : ℕ) (g : Option Game) (c : Command) → Small c → t + 1 < 2 ^ 64 → Kept t g → Kept (t + 1) (answer g c).1
answer_kept t None (Make bank stations count value) small short w = making_kept (t + 1) bank stations count value small.3
answer_kept t None (Write station value) small short w = tt
answer_kept t None (Read station) small short w = tt
answer_kept t None (Step station) small short w = tt
answer_kept t None (Down writer reader) small short w = tt
answer_kept t None (Up writer reader) small short w = tt
answer_kept t None Lines small short w = tt
answer_kept t (Some g) c small short w = carried_within g.choice t g.machine c small short w

after_kept : (cs : List Command) (t u : ℕ) (g : Option Game) → AllSmall cs → t + length cs ≤ u → u < 2 ^ 64 → Kept t g → Kept u (game_after cs g)
after_kept [] t u g small fits short w = kept_later t u g (omega arith) w
after_kept (c ∷ cs) t u g small fits short w =
    after_kept cs (t + 1) u (answer g c).1 small.1 (omega arith) short (answer_kept t g c small.0 (omega arith) w)

front_small : (cs ds : List Command) → AllSmall (cs ++ ds) → AllSmall cs
front_small [] ds small = tt
front_small (c ∷ cs) ds small = (small.0, front_small cs ds small.1)

-- commands in front of a list
pub few_before : (xs : List ℕ) → Bytes xs → (cs ds : List Command) → (reading xs).commands ≡ cs ++ (Lines ∷ ds) → length cs < length xs
few_before xs bytes cs ds is = omega (arith, few_commands xs bytes, ap length is, length-append cs (Lines ∷ ds))

pub within_files : (xs : List ℕ) → Bytes xs → length xs < 2 ^ 64 → (cs ds : List Command) (g : Game) → (reading xs).commands ≡ cs ++ (Lines ∷ ds) → game_after cs None ≡ Some g → Within (length cs) g.machine
within_files xs bytes short cs ds g is after =
    let few = few_before xs bytes cs ds is in
    let small = front_small cs (Lines ∷ ds) (subst AllSmall is (all_small xs bytes)) in
    subst (Kept (length cs)) after (after_kept cs 0 (length cs) None small (omega arith) (omega arith) tt)
