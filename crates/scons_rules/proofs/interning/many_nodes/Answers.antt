use Rattle.std.proofs.Common.{arith, ◌≡◌, ◌∙◌, ℕ, List, Bool, true, false, not, sym, ap, map, take, Err}
use Rattle.std.specs.Borrow.{Bor}
use Rattle.std.specs.List.{list_any}
use Rattle.std.specs.Str.{bytes_eq}
use Rattle.std.proofs.lemmas.Result.{err_from_is_err_and}
use Rattle.node_tree.specs.Nodes.{with_path}
use Rattle.scons_rules.proofs.Counting.{put, passed, lacked, rests, key_more, any_key, met_before, noted}
use Rattle.scons_rules.proofs.interning.many_nodes.Goals as goal
use Rattle.scons_rules.proofs.interning.many_nodes.Goals.{then-branch+in_ok-push_node, else-branch}

pub returns-in_err-push_node-clause-fault : goal.returns-in_err-push_node-clause-fault
returns-in_err-push_node-clause-fault g c =
    let told = err_from_is_err_and c.from_residual-in_err-push_node.result c.from_residual-in_err-push_node.ensures.1 in
    let f = g.T.HasPath.path_at in
    let xs = c.args.paths.now in
    let i = c.loop-one.one-index in
    let p = c.path-path.result.now in
    let keys = c.loop-one.seen.keys in
    let now = λ (k : Bor (List ℕ)). k.now in
    rw told.1 (λ other.
    lacked f xs i c.one-item.result p (omega arith) c.one-item.is c.path-path.ensures
    c.args.graph.now.nodes c.loop-one.graph.nodes c.loop-one.nodes c.loop-one.invariant.numbers told.0
    (met_before p (map f (take i xs)) (map now keys) c.in_ok-insert.field-0 (list_any (λ k. bytes_eq p (now k)) keys) c.loop-one.invariant.seen
    c.in_ok-insert.ensures.added (any_key now p keys) ∙ ap not c.if-branch.true)
    (c.in_err-push_node.ensures.fault (λ h. other (told.2 ∙ h)) ∙ ap Err (sym told.2)))

pub loop-one-preserved : goal.loop-one-preserved
loop-one-preserved g c =
    let f = g.T.HasPath.path_at in
    let xs = c.args.paths.now in
    let i = c.loop-one.one-index in
    let p = c.path-path.result.now in
    let keys = c.loop-one.seen.keys in
    let now = λ (k : Bor (List ℕ)). k.now in
    let met : list_any (bytes_eq p) (map f (take i xs)) ≡ not c.in_ok-insert.field-0 =
    met_before p (map f (take i xs)) (map now keys) c.in_ok-insert.field-0 (list_any (λ k. bytes_eq p (now k)) keys) c.loop-one.invariant.seen
    c.in_ok-insert.ensures.added (any_key now p keys) in
    let seen =
    key_more now keys c.insert.new.self.keys c.path-path.result c.in_ok-insert.ensures.keys ∙ ap (λ l. with_path l p) c.loop-one.invariant.seen
    ∙ noted f xs i c.one-item.result p (omega arith) c.one-item.is c.path-path.ensures in
    elim c.if-branch.branch [
      | then-branch+in_ok-push_node w ↦ rw (w.graph-is, w.nodes-is) (record {
        numbers =
            put f xs i c.one-item.result p (omega arith) c.one-item.is c.path-path.ensures
            c.args.graph.now.nodes c.loop-one.graph.nodes c.loop-one.nodes c.loop-one.invariant.numbers w.push_node.new.graph.nodes w.push_node.new.nodes
            (met ∙ ap not w.if-branch.true) w.in_ok-push_node.ensures.ok;
        seen = seen;
        rest = rests w.push_node.new.graph c.loop-one.graph c.args.graph.now w.push_node.ensures.rest c.loop-one.invariant.rest;
      })
      | else-branch w ↦ rw (w.graph-is, w.nodes-is) (record {
        numbers =
            passed f xs i c.one-item.result p (omega arith) c.one-item.is c.path-path.ensures
            c.args.graph.now.nodes c.loop-one.graph.nodes c.loop-one.nodes c.loop-one.invariant.numbers (met ∙ ap not w.if-branch.false);
        seen = seen;
        rest = c.loop-one.invariant.rest;
      })
    ]
