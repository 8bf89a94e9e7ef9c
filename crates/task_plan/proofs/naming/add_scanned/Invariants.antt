use Rattle.std.proofs.Common.{◌≡◌, [], take}
use Rattle.std.specs.Prelude.{filter}
use Rattle.task_plan.specs.Named.{put_all, is_scanned_node}
use Rattle.task_plan.proofs.naming.add_scanned.Given as goal

abbrev pub invariant-loop-node : goal.invariant-loop-node
invariant-loop-node l = l.files.keys ≡ put_all [] l.initial.files.keys (filter (is_scanned_node l.graph) (take l.node-index l.nodes))
