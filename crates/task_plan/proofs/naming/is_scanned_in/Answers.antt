use Rattle.std.proofs.Common.{arith, ◌≤◌, ◌∙◌, ap, length}
use Rattle.std.proofs.lemmas.Bool.{le-ltb}
use Rattle.c_scanner.specs.Suffixes.{is_scanned_suffix}
use Rattle.task_plan.proofs.LoadLemmas.{node_scanned, node_past}
use Rattle.task_plan.proofs.naming.is_scanned_in.Goals as goal

pub returns-then-node-len : goal.returns-then-node-len
returns-then-node-len c =
    node_scanned c.args.graph.now c.args.node c.path.result.now c.is_scanned.result c.path.ensures.at (c.is_scanned.ensures ∙ ap is_scanned_suffix c.suffix.ensures)

pub returns-else-node-len : goal.returns-else-node-len
returns-else-node-len c =
    let past : length c.args.graph.now.nodes ≤ c.args.node.0 = omega (arith, c.len.ensures.len, c.if-node-len.false) in
    le-ltb c.args.node.0 c.len.result (omega (arith, c.if-node-len.false)) ∙ node_past c.args.graph.now c.args.node past
