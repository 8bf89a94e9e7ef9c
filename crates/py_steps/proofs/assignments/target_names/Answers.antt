use Rattle.std.proofs.Common.{map}
use Rattle.py_tree.specs.Tree.{trees, expr_tree}
use Rattle.py_meaning.specs.Loops.{names_of}
use Rattle.py_steps.proofs.Assigning.{names_turn, names_end}
use Rattle.py_steps.proofs.assignments.target_names.Goals as goal

pub returns-in_default : goal.returns-in_default
returns-in_default c =
    names_end c.args.targets.now c.targets.target-index c.target-item.result c.targets.names.items (names_of (trees (map expr_tree c.args.targets.now)))
    c.targets-test.true c.target-item.is c.targets.invariant c.in_default.not-Name

pub targets-preserved : goal.targets-preserved
targets-preserved c =
    names_turn c.args.targets.now c.targets.target-index c.target-item.result c.in-Name.line c.in-Name.name c.targets.names.items c.push.new.self.items (names_of (trees (map expr_tree c.args.targets.now)))
    c.targets-test.true c.target-item.is c.targets.invariant c.in-Name.is (cc (c.in_ok-push.ensures.items, c.in_ok-copy.ensures))
