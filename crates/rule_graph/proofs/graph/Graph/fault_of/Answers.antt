use Rattle.std.proofs.Common.{◌≡◌, ◌∙◌, sym, Some, None, length}
use Rattle.std.specs.Prelude.{is_some}
use Rattle.rule_graph.specs.Rules.{is_own_source, rule_of, taken}
use Rattle.rule_graph.proofs.GraphLemmas.{find_below, no_fault, is_some-map}
use Rattle.rule_graph.proofs.graph.Graph.fault_of.Goals as goal

pub path-requires : goal.path-requires
path-requires c = find_below (λ t. is_own_source c.args.rule.now.sources t) (length c.args.self.now.nodes) c.args.rule.now.targets c.in-Some.target c.requires.targets (sym (c.in-Some.ensures {u = tt}))

pub path-requires-in-Some-taken : goal.path-requires-in-Some-taken
path-requires-in-Some-taken c =
    find_below (λ t. is_some (rule_of c.self.inside.rules t.0)) (length c.args.self.now.nodes) c.args.rule.now.targets c.in-Some-taken.target c.requires.targets
    (sym (rw c.as_slice.ensures at (c.in-Some-taken.ensures {u = tt})))
