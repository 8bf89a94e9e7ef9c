use Rattle.node_tree.proofs.Places.{interns, found_paths, found_there}
use Rattle.node_tree.proofs.nodes.Nodes.intern.Goals as goal

pub returns-clause-ok : goal.returns-clause-ok
returns-clause-ok c =
    rw (← c.self.view_is, ← c.in_ok-copy.ensures {u = tt})
    (interns c.self.inside.paths.keys c.in_ok-copy.field-0 _ _ (c.in_ok-number.ensures {u = tt}).index (c.in_ok-number.ensures {u = tt}).keys)

pub returns-then-len-eq-NODE_LIMIT-clause-paths : goal.returns-then-len-eq-NODE_LIMIT-clause-paths
returns-then-len-eq-NODE_LIMIT-clause-paths c = rw c.ok_or.ensures.value (found_paths c.find.result _ c.args.self.now c.args.path.now c.find.ensures)

pub returns-then-len-eq-NODE_LIMIT-clause-at : goal.returns-then-len-eq-NODE_LIMIT-clause-at
returns-then-len-eq-NODE_LIMIT-clause-at c = rw c.ok_or.ensures.value (found_there c.find.result _ c.args.self.now c.args.path.now c.find.ensures)
