use Rattle.std.proofs.lemmas.Result.{err_from_is_err_and}
use Rattle.scons_rules.proofs.Numbering.{numbered, refused_node}
use Rattle.scons_rules.proofs.interning.push_node.Goals as goal

pub returns-in_err-node-clause-fault : goal.returns-in_err-node-clause-fault
returns-in_err-node-clause-fault c =
    let told = err_from_is_err_and c.from_residual.result c.from_residual.ensures.1 in
    rw told.1 (λ other. refused_node c.args.graph.now.nodes c.args.path.now c.in_err-node.field-0.0 told.0 told.2 other c.in_err-node.ensures.full)

pub returns-clause-ok : goal.returns-clause-ok
returns-clause-ok c = λ first paths was absent.
    numbered first c.args.graph.now.nodes c.intern.new.self.nodes paths c.args.path.now c.args.nodes.now c.push.new.self c.in_ok-node.node was
    c.in_ok-node.ensures.paths c.in_ok-node.ensures.at c.in_ok-node.ensures.limit c.in_ok-push.ensures.ok absent
