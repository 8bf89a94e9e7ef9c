use Rattle.std.proofs.Common.{◌≡◌, List, length, subst, sym, true}
use Rattle.scons_base.specs.declared.ids.NodeId.{NodeId}
use Rattle.rule_graph.specs.Rules.{are_below}
use Rattle.scons_top.proofs.Requesting.{below_at}
use Rattle.scons_top.proofs.below.add_targets.Goals as goal

pub path-requires : goal.path-requires
path-requires c =
    let all = subst (λ (nodes : List NodeId). are_below (length c.args.graph.now.nodes) nodes ≡ true) (sym c.as_slice-target-items.ensures) c.rule.ensures.valid.targets in
    below_at c.args.graph.now c.as_slice-target-items.result.now c.loop-target.target-index _ c.loop-target-test.true all
