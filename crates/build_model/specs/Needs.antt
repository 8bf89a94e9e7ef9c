-- Which rules need which others, which are needed, and in which order they are built.
use Rattle.std.specs.Prelude.{◌≡◌, ℕ, List, [], ◌∷◌, ◌++◌, Option, Some, None}
use Rattle.build_model.specs.Rules.{Path, Rule, Among}
use Rattle.build_model.specs.Reach.{Reaches, reach}

-- the rule of each path
abbrev pub RuleOf : Type 0
RuleOf = Path → Option Rule

-- what a file includes for a rule, as far as it was scanned; nothing where it wasn't
abbrev pub Found : Type 0
Found = Rule → Path → List Path

-- A rule needs the rules of its dependencies, and those of the files that it only requires to be made before.
pub data Needs (rule_of : RuleOf) (found : Found) (r q : Rule) : Type 0 where
  as_required : (p : Path) → Among p r.required → rule_of p ≡ Some q → Needs rule_of found r q
  as_dependency : (p : Path) → Reaches (found r) r p → rule_of p ≡ Some q → Needs rule_of found r q

-- directly, or through others
pub data NeedsThrough (rule_of : RuleOf) (found : Found) : Rule → Rule → Type 0 where
  directly : {r q : Rule} → Needs rule_of found r q → NeedsThrough rule_of found r q
  through : {r q : Rule} (x : Rule) → Needs rule_of found r x → NeedsThrough rule_of found x q → NeedsThrough rule_of found r q

-- A rule is needed: it makes what is requested, or a needed rule needs it.
pub data Needed (rule_of : RuleOf) (found : Found) (requested : List Path) : Rule → Type 0 where
  is_requested : {r : Rule} (p : Path) → Among p requested → rule_of p ≡ Some r → Needed rule_of found requested r
  is_needed : {r : Rule} (q : Rule) → Needed rule_of found requested q → Needs rule_of found q r → Needed rule_of found requested r

-- from one rule to another by way of these, each needing the next
abbrev pub IsChain : RuleOf → Found → Rule → List Rule → Rule → Type 0
IsChain rule_of found r [] q = Needs rule_of found r q
IsChain rule_of found r (x ∷ xs) q = Needs rule_of found r x × IsChain rule_of found x xs q

-- A dependency cycle: rules of which each needs the next, and the last needs the first.
abbrev pub IsCycle : RuleOf → Found → List Rule → Type 0
IsCycle rule_of found [] = ⊥
IsCycle rule_of found (r ∷ rs) = IsChain rule_of found r rs r

abbrev pub with_rule : Option Rule → List Rule → List Rule
with_rule None rs = rs
with_rule (Some r) rs = r ∷ rs

-- the rules of some paths, in order
abbrev pub rules_at : RuleOf → List Path → List Rule
rules_at rule_of [] = []
rules_at rule_of (p ∷ ps) = with_rule (rule_of p) (rules_at rule_of ps)

-- what a rule needs, in the order in which it is built: what it requires, and then its dependencies
abbrev pub needs_in_order : RuleOf → ℕ → Found → Rule → List Rule
needs_in_order rule_of limit found r = rules_at rule_of (r.required ++ reach limit (found r) r)

-- Depth first over these rules, from those that were met before to those that were met after: the rules that are met
-- for the first time, each behind what it needs. One that is met again is passed over.
pub data Visits (needs : Rule → List Rule) : List Rule → List Rule → List Rule → List Rule → Type 0 where
  nothing_left : {met : List Rule} → Visits needs met [] met []
  met_again : {met after order rules : List Rule} {r : Rule} →
      Among r met → Visits needs met rules after order → Visits needs met (r ∷ rules) after order
  met_first : {met between after below behind rules : List Rule} {r : Rule} →
      (Among r met → ⊥) → Visits needs (r ∷ met) (needs r) between below → Visits needs between rules after behind →
      Visits needs met (r ∷ rules) after (below ++ r ∷ behind)

-- the build order of the needed rules: depth first from what is requested
pub record IsBuildOrder (rule_of : RuleOf) (limit : ℕ) (found : Found) (requested : List Path) (order : List Rule) : Type 0 where
  pub met : List Rule
  pub visits : Visits (needs_in_order rule_of limit found) [] (rules_at rule_of requested) met order
