-- The nodes of a rule.
use Rattle.std.specs.Prelude.{◌≡◌, ◌<◌, ℕ, List, [], ◌∷◌, Some, Result, Ok, true, length, map}
use Rattle.rule_graph.specs.Rules.{are_below, are_distinct}
use Rattle.scons_rules.specs.declared.adding.RuleNodes.{RuleNodes}
use Rattle.scons_rules.specs.declared.adding.RulePaths.{RulePaths}
use Rattle.scons_rules.specs.declared.fault.RuleReadFault.{RuleReadFault}
use Rattle.scons_rules.specs.Steps.{and_then}
use Rattle.scons_rules.specs.Numbers.{each_once, interned, paths_at}

-- the paths that a rule names, in the order in which they get numbers
abbrev pub lists_of : RulePaths → List (List (List ℕ))
lists_of p = p.targets.now ∷ map (λ n. n.path) p.sources.now ∷ p.libs.now ∷ p.depends ∷ p.required ∷ p.ignored ∷ []

-- the paths that have a number once those of each list have got theirs
abbrev pub all_interned : List (List ℕ) → List (List (List ℕ)) → Result (List (List ℕ)) RuleReadFault
all_interned nodes [] = Ok nodes
all_interned nodes (paths ∷ lists) = and_then (interned nodes paths) (λ more. all_interned more lists)

-- the nodes stand for these paths, each once
pub record AreNamed (nodes : List (List ℕ)) (paths : RulePaths) (named : RuleNodes) : Type 0 where
  pub targets : paths_at nodes named.targets ≡ map Some (each_once paths.targets.now)
  pub sources : paths_at nodes named.sources ≡ map Some (each_once (map (λ n. n.path) paths.sources.now))
  pub libs : paths_at nodes named.libs ≡ map Some (each_once paths.libs.now)
  pub depends : paths_at nodes named.depends ≡ map Some (each_once paths.depends)
  pub required : paths_at nodes named.required ≡ map Some (each_once paths.required)
  pub ignored : paths_at nodes named.ignored ≡ map Some (each_once paths.ignored)

-- what a rule's nodes must be where so many paths have a number
pub record AreNodes (count : ℕ) (nodes : RuleNodes) : Type 0 where
  pub has_target : 0 < length nodes.targets
  pub distinct : are_distinct nodes.targets ≡ true
  pub targets : are_below count nodes.targets ≡ true
  pub sources : are_below count nodes.sources ≡ true
  pub libs : are_below count nodes.libs ≡ true
  pub depends : are_below count nodes.depends ≡ true
  pub required : are_below count nodes.required ≡ true
  pub ignored : are_below count nodes.ignored ≡ true
