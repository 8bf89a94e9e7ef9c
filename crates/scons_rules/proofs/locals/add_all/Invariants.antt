use Rattle.std.proofs.Common.{◌≡◌, fold, take}
use Rattle.node_tree.specs.Nodes.{with_path}
use Rattle.scons_rules.proofs.locals.add_all.Given as goal

abbrev pub invariant-loop-path : goal.invariant-loop-path
invariant-loop-path l = l.objects.keys ≡ fold with_path l.initial.objects.keys (take l.path-index l.paths)
