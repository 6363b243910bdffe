-- The law of printed lists. Assumes nothing.
use Rattle.std.proofs.Common.{◌≡◌, ℕ, suc, ◌+◌, ◌^◌, ◌<◌, List, [], ◌∷◌, ◌++◌, map, length, take, drop, Some, None, codes, decimal, sym, refl, ap, ◌∙◌, arith}
use Rattle.std.specs.List.{AllByRecursion}
use Rattle.std.proofs.ByRecursion.{All-take}
use Rattle.text.specs.Pieces.{pieces, number}
use Rattle.text.proofs.Pieces.{pieces_last, number_decimal, decimal_lacks}
use Rattle.commands.specs.Commands.{policy}
use Rattle.commands.specs.Readings.{Bytes, reading}
use Rattle.commands.specs.declared.command.Command.{Command}
use Rattle.commands.specs.declared.command.Command.TheVariants.{List as Lines}
use Rattle.stamps.specs.PairsLemmas.{same_pair}
use Rattle.account.specs.Laws.{game_after}
use Rattle.account.specs.Listings.{Entry, Sized, Printed, printed, word, read_line, read_list, ReadsBack, ListsAt, ListsBack}
use Rattle.account.specs.Texts.{Game, text}
use Rattle.account.specs.Words.{list_said}
use Rattle.account.proofs.ListingsFiles.{few_before, within_files}
use Rattle.account.proofs.ListingsSizes.{Within}
use Rattle.account.proofs.ListingsWords.{then, journal_lines, lines_read}
use Rattle.account.proofs.Prefixes.{text_more}

-- the first line of a list
head_read : (n : ℕ) → n < 2 ^ 64 → number (word (pieces 32 (codes "lines " ++ decimal n)) 1) ≡ n
head_read n fits =
    ap (λ ws. number (word ws 1)) (then 32 (codes "lines") (decimal n) _ refl (pieces_last 32 (decimal n) (decimal_lacks 32 n refl fits))) ∙ number_decimal n fits

pub reads_back : (used : ℕ) (ls : List Entry) → used < 2 ^ 64 → AllByRecursion Sized (take used ls) → ReadsBack used ls
reads_back used ls fits sized =
    let first = head_read used fits in
    let others = lines_read (take used ls) sized in
    ap (λ ps. (number (word (pieces 32 (word ps 0)) 1), map read_line (drop 1 ps))) (journal_lines (codes "lines " ++ decimal used) (take used ls) (decimal_lacks 10 used refl fits) sized)
    ∙ cc

same_line : (k l : Entry) → printed k ≡ printed l → k ≡ l
same_line k l e =
    let stamp = same_pair k.stamp l.stamp (ap (λ p. p.count) e) (ap (λ p. p.owner) e) in
    λ i. record { kind = (e i).kind; station = (e i).station; state = (e i).state; stamp = stamp i; value = policy (e i).value; opened = (e i).opened; ended = (e i).ended }

same_lines : (ks ls : List Entry) → map printed ks ≡ map printed ls → ks ≡ ls
same_lines [] [] e = refl
same_lines [] (l ∷ ls) e = cc
same_lines (k ∷ ks) [] e = cc
same_lines (k ∷ ks) (l ∷ ls) e =
    let heads : printed k ≡ printed l = cc in
    let tails : map printed ks ≡ map printed ls = cc in
    let first = same_line k l heads in
    let others = same_lines ks ls tails in
    cc

same_lists : (m n : ℕ) (ks ls : List Entry) → m < 2 ^ 64 → n < 2 ^ 64 → AllByRecursion Sized (take m ks) → AllByRecursion Sized (take n ls) → list_said m ks ≡ list_said n ls → (m ≡ n) × (take m ks ≡ take n ls)
same_lists m n ks ls m_fits n_fits ks_sized ls_sized e =
    let same : ◌≡◌ {A = ℕ × List Printed} (m, map printed (take m ks)) (n, map printed (take n ls)) = sym (reads_back m ks m_fits ks_sized) ∙ ap read_list e ∙ reads_back n ls n_fits ls_sized in
    (ap (λ p. p.0) same, same_lines (take m ks) (take n ls) (ap (λ p. p.1) same))

in_files : (xs : List ℕ) → Bytes xs → length xs < 2 ^ 64 → (cs ds : List Command) (g : Game) → (reading xs).commands ≡ cs ++ (Lines ∷ ds) → game_after cs None ≡ Some g → ListsAt xs cs g
in_files xs bytes short cs ds g is after =
    let M = g.machine in
    let w : Within (length cs) M = within_files xs bytes short cs ds g is after in
    let few = few_before xs bytes cs ds is in
    record {
      behind = text ds (Some g) (suc (length cs + 1)) (reading xs).stop;
      whole =
          ap (λ es. text es None 1 (reading xs).stop) is
          ∙ text_more cs (Lines ∷ ds) None 1 (reading xs).stop
          ∙ ap (λ o. text cs None 1 None ++ text (Lines ∷ ds) o (length cs + 1) (reading xs).stop) after;
      back = reads_back M.used M.lines (omega (arith, w.used, w.moment)) (All-take Sized M.used M.lines w.lines);
      full = w.full;
    }

pub lists_back : ListsBack
lists_back = record { worked = refl; any = reads_back; apart = same_line; tells = same_lists; in_files = in_files }
