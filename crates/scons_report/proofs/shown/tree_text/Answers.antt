use Rattle.std.proofs.Common.{List, subst}
use Rattle.scons_base.specs.declared.ids.NodeId.{NodeId}
use Rattle.scons_report.specs.Trees.{shown_in, tree_text}
use Rattle.scons_report.specs.Walks.{PrintsTree}
use Rattle.scons_report.proofs.Showing.{shown_none, shown_tree}
use Rattle.scons_report.proofs.shown.tree_text.Goals as goal

pub returns-in_err-plan-clause-shows : goal.returns-in_err-plan-clause-shows
returns-in_err-plan-clause-shows g c =
    shown_none g.W.Disk.meaning g.O.Sink.meaning c.args.graph.now c.plan_of.new.graph c.args.declared c.args.request.now c.args.nodes.now c.args.is_node
    c.args.world.now c.plan_of.new.world c.args.out.now _ c.from_residual.result c.from_residual.ensures.1

pub returns-clause-shows : goal.returns-clause-shows
returns-clause-shows g c =
    let m = g.O.Sink.meaning in
    let graph = c.plan_of.new.graph in
    let plan = c.in_ok-plan.plan in
    let word = c.args.request.now in
    shown_tree g.W.Disk.meaning m c.args.graph.now graph c.args.declared word c.args.nodes.now c.args.is_node c.args.world.now c.plan_of.new.world c.args.out.now
    c.print_tree.new.out plan c.in_ok-plan.ensures.plans c.print_tree.result c.in_ok-plan.ensures.rests
    (subst (λ (children : List NodeId). PrintsTree m (tree_text (shown_in graph plan) word children) c.args.out.now c.print_tree.new.out c.print_tree.result)
    c.children_asked-children.ensures c.print_tree.ensures)
