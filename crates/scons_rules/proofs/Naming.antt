-- The nodes of a rule: lists of paths that get numbers one after another.
use Rattle.std.proofs.Common.{arith, ◌≡◌, ◌<◌, ◌≤◌, ◌∙◌, ℕ, List, [], ◌∷◌, ◌++◌, true, ap, sym, refl, length, map, Some, None, Option}
use Rattle.std.specs.Prelude.{slice_get, Result, Ok, Err}
use Rattle.std.proofs.lemmas.List.Sums.{fold-append}
use Rattle.scons_base.specs.declared.ids.NodeId.{NodeId}
use Rattle.node_tree.specs.Nodes.{with_path}
use Rattle.rule_graph.specs.Rules.{are_below}
use Rattle.rule_graph.specs.Graphs.{path_of}
use Rattle.scons_rules.specs.declared.adding.RuleNodes.{RuleNodes}
use Rattle.scons_rules.specs.declared.adding.RulePaths.{RulePaths}
use Rattle.scons_rules.specs.Numbers.{each_once, interned, with_paths, paths_at, Numbers}
use Rattle.scons_rules.specs.Nodes.{AreNamed, AreNodes, all_interned}
use Rattle.scons_rules.proofs.NodeLemmas.{below_more}
use Rattle.scons_rules.proofs.Numbering.{all_kept, all_longer}

pub map_same : (paths : List (List ℕ)) → map (λ p. p) paths ≡ paths
map_same [] = refl
map_same (p ∷ paths) = ap (λ ps. p ∷ ps) (map_same paths)

-- numbers stay where further paths get some
pub later_at : (old new paths : List (List ℕ)) (numbers : List NodeId) (more : List (List ℕ)) → paths_at old numbers ≡ map Some paths → new ≡ with_paths old more
    → paths_at new numbers ≡ map Some paths
later_at old new paths numbers more at grown = ap (λ l. paths_at l numbers) grown ∙ by old more at
  where
    by : (nodes more : List (List ℕ)) → paths_at nodes numbers ≡ map Some paths → paths_at (with_paths nodes more) numbers ≡ map Some paths
    by nodes [] at = at
    by nodes (p ∷ more) at = by (with_path nodes p) more (all_kept nodes p paths numbers at)

pub later_below : (old new : List (List ℕ)) (numbers : List NodeId) (more : List (List ℕ)) → are_below (length old) numbers ≡ true → new ≡ with_paths old more
    → are_below (length new) numbers ≡ true
later_below old new numbers more below grown = below_more (length old) (length new) numbers (longer) below
  where
    longer : length old ≤ length new
    longer = rw grown (all_longer old more)

-- the paths of numbers
pub path_at : (nodes paths : List (List ℕ)) (numbers : List NodeId) → paths_at nodes numbers ≡ map Some paths → map (path_of nodes) numbers ≡ paths
path_at nodes [] [] at = refl
path_at nodes (p ∷ paths) [] at = absurd (cc)
path_at nodes [] (n ∷ numbers) at = absurd (cc)
path_at nodes (p ∷ paths) (n ∷ numbers) at =
    let rest : map (path_of nodes) numbers ≡ paths = path_at nodes paths numbers (cc) in
    let first : path_of nodes n ≡ p = got (cc) in
    cc
  where
    got : slice_get nodes n.0 ≡ Some p → path_of nodes n ≡ p
    got e = rw e refl

-- lists of paths that get numbers one after another
record Grows (old new : List (List ℕ)) : Type 0 where
  more : List (List ℕ)
  is : new ≡ with_paths old more

step : (old new paths : List (List ℕ)) (numbers : List NodeId) → Numbers old new paths numbers → Grows old new
step old new paths numbers is = record { more = paths; is = is.grown }

then_on : (a b c : List (List ℕ)) → Grows a b → Grows b c → Grows a c
then_on a b c first second = record {
  more = first.more ++ second.more;
  is = second.is ∙ ap (λ l. with_paths l second.more) first.is ∙ sym (fold-append with_path a first.more second.more);
}

at_last : (old new paths : List (List ℕ)) (numbers : List NodeId) → paths_at old numbers ≡ map Some paths → Grows old new → paths_at new numbers ≡ map Some paths
at_last old new paths numbers at grows = later_at old new paths numbers grows.more at grows.is

below_last : (old new : List (List ℕ)) (numbers : List NodeId) → are_below (length old) numbers ≡ true → Grows old new → are_below (length new) numbers ≡ true
below_last old new numbers below grows = later_below old new numbers grows.more below grows.is

module _ (a b c d e f g : List (List ℕ)) (paths : RulePaths) (nodes : RuleNodes)
    (targets : Numbers a b (each_once paths.targets.now) nodes.targets)
    (sources : Numbers b c (each_once (map (λ n. n.path) paths.sources.now)) nodes.sources)
    (libs : Numbers c d (each_once paths.libs.now) nodes.libs)
    (depends : Numbers d e (each_once paths.depends) nodes.depends)
    (required : Numbers e f (each_once paths.required) nodes.required)
    (ignored : Numbers f g (each_once paths.ignored) nodes.ignored) where
  behind_required : Grows f g
  behind_required = step f g _ nodes.ignored ignored

  behind_depends : Grows e g
  behind_depends = then_on e f g (step e f _ nodes.required required) behind_required

  behind_libs : Grows d g
  behind_libs = then_on d e g (step d e _ nodes.depends depends) behind_depends

  behind_sources : Grows c g
  behind_sources = then_on c d g (step c d _ nodes.libs libs) behind_libs

  behind_targets : Grows b g
  behind_targets = then_on b c g (step b c _ nodes.sources sources) behind_sources

  pub all_named : AreNamed g paths nodes
  all_named = record {
    targets = at_last b g _ nodes.targets targets.at behind_targets;
    sources = at_last c g _ nodes.sources sources.at behind_sources;
    libs = at_last d g _ nodes.libs libs.at behind_libs;
    depends = at_last e g _ nodes.depends depends.at behind_depends;
    required = at_last f g _ nodes.required required.at behind_required;
    ignored = ignored.at;
  }

  pub all_nodes : 0 < length nodes.targets → AreNodes (length g) nodes
  all_nodes some = record {
    has_target = some;
    distinct = targets.distinct;
    targets = below_last b g nodes.targets targets.below behind_targets;
    sources = below_last c g nodes.sources sources.below behind_sources;
    libs = below_last d g nodes.libs libs.below behind_libs;
    depends = below_last e g nodes.depends depends.below behind_depends;
    required = below_last f g nodes.required required.below behind_required;
    ignored = ignored.below;
  }

module _ (a b c d e f g : List (List ℕ)) (p q r s t u : List (List ℕ)) where
  pub all_got : interned a p ≡ Ok b → interned b q ≡ Ok c → interned c r ≡ Ok d → interned d s ≡ Ok e → interned e t ≡ Ok f → interned f u ≡ Ok g
      → all_interned a (p ∷ q ∷ r ∷ s ∷ t ∷ u ∷ []) ≡ Ok g
  all_got first second third fourth fifth sixth = rw (first, second, third, fourth, fifth, sixth) refl
