-- What the contracts on policies cite. Assumes nothing.
--     shown_number p      the digits of a policy number
--     shown_rule r        the name of a name rule
--     shown_entry e       an entry as number:first-last:rule
use Rattle.std.specs.Prelude.{ℕ, List, ◌++◌, codes, decimal}
use Rattle.policy.specs.declared.entry.NameRule.{NameRule}
use Rattle.policy.specs.declared.entry.NameRule.TheVariants.{Permitted, Excluded}
use Rattle.policy.specs.declared.entry.PolicyEntry.{PolicyEntry}
use Rattle.policy.specs.declared.entry.PolicyNumber.{PolicyNumber}

abbrev pub shown_number : PolicyNumber → List ℕ
shown_number p = decimal p.0

abbrev pub shown_rule : NameRule → List ℕ
shown_rule Permitted = codes "permitted"
shown_rule Excluded = codes "excluded"

abbrev pub shown_entry : PolicyEntry → List ℕ
shown_entry e =
    shown_number e.number ++ (codes ":" ++ (decimal e.first_day ++ (codes "-" ++ (decimal e.last_day ++ (codes ":" ++ shown_rule e.rule)))))
