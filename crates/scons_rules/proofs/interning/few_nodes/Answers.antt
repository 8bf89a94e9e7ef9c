use Rattle.std.proofs.Common.{arith, ◌∙◌, sym, ap, Err}
use Rattle.std.proofs.lemmas.Result.{err_from_is_err_and}
use Rattle.scons_rules.proofs.Counting.{absent_in, there_in, put, passed, lacked, rests}
use Rattle.scons_rules.proofs.interning.few_nodes.Goals as goal
use Rattle.scons_rules.proofs.interning.few_nodes.Goals.{then-not-is_among+in_ok-push_node, else-not-is_among}

pub returns-in_err-push_node-clause-fault : goal.returns-in_err-push_node-clause-fault
returns-in_err-push_node-clause-fault g c =
    let told = err_from_is_err_and c.from_residual-in_err-push_node.result c.from_residual-in_err-push_node.ensures.1 in
    let f = g.T.HasPath.path_at in
    let xs = c.args.paths.now in
    let i = c.loop-place.place in
    rw told.1 (λ other.
    lacked f xs i c.index-paths-place.result c.path-path.result.now (omega arith) c.index-paths-place.is c.path-path.ensures
    c.args.graph.now.nodes c.loop-place.graph.nodes c.loop-place.nodes c.loop-place.invariant.numbers told.0
    (absent_in f xs i c.path-path.result.now c.is_among.result c.is_among.ensures c.if-not-is_among.true)
    (c.in_err-push_node.ensures.fault (λ h. other (told.2 ∙ h)) ∙ ap Err (sym told.2)))

pub loop-place-preserved : goal.loop-place-preserved
loop-place-preserved g c =
    let f = g.T.HasPath.path_at in
    let xs = c.args.paths.now in
    let i = c.loop-place.place in
    elim c.if-not-is_among.branch [
      | then-not-is_among+in_ok-push_node w ↦ rw (w.graph-is, w.nodes-is) (record {
        numbers =
            put f xs i c.index-paths-place.result c.path-path.result.now (omega arith) c.index-paths-place.is c.path-path.ensures
            c.args.graph.now.nodes c.loop-place.graph.nodes c.loop-place.nodes c.loop-place.invariant.numbers w.push_node.new.graph.nodes w.push_node.new.nodes
            (absent_in f xs i c.path-path.result.now c.is_among.result c.is_among.ensures w.if-not-is_among.true) w.in_ok-push_node.ensures.ok;
        rest = rests w.push_node.new.graph c.loop-place.graph c.args.graph.now w.push_node.ensures.rest c.loop-place.invariant.rest;
      })
      | else-not-is_among w ↦ rw (w.graph-is, w.nodes-is) (record {
        numbers =
            passed f xs i c.index-paths-place.result c.path-path.result.now (omega arith) c.index-paths-place.is c.path-path.ensures
            c.args.graph.now.nodes c.loop-place.graph.nodes c.loop-place.nodes c.loop-place.invariant.numbers
            (there_in f xs i c.path-path.result.now c.is_among.result c.is_among.ensures w.if-not-is_among.false);
        rest = c.loop-place.invariant.rest;
      })
    ]
