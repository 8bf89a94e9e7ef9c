-- Cycles among rules, by the lists of what each rule needs.
use Rattle.std.specs.Prelude.{ℕ, List}
use Rattle.build_model.specs.Rules.{Path, Rule, Among}
use Rattle.build_model.specs.Needs.{RuleOf, Found, rules_at, needs_in_order}

-- One of these rules, or one that is needed by a rule to which they lead.
pub data IsBelow (needs_of : Rule → List Rule) (roots : List Rule) : Rule → Type 0 where
  begins : {r : Rule} → Among r roots → IsBelow needs_of roots r
  goes_on : {r : Rule} (q : Rule) → IsBelow needs_of roots q → Among r (needs_of q) → IsBelow needs_of roots r

-- A needed rule waits for itself, directly or through others.
pub record IsCyclic (rule_of : RuleOf) (limit : ℕ) (found : Found) (requested : List Path) : Type 0 where
  pub rule : Rule
  pub needed : IsBelow (needs_in_order rule_of limit found) (rules_at rule_of requested) rule
  pub waits : IsBelow (needs_in_order rule_of limit found) (needs_in_order rule_of limit found rule) rule
