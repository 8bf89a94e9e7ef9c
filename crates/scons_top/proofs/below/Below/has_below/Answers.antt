use Rattle.scons_top.proofs.Finding.{has_found}
use Rattle.scons_top.proofs.below.Below.has_below.Goals as goal

pub returns-clause-has : goal.returns-clause-has
returns-clause-has c = λ known.
    let nodes = c.in_ok-nodes.nodes in
    has_found c.args.graph.now c.args.dir.now nodes.items _ c.is_empty.result (c.in_ok-nodes.ensures.below known) nodes.ok.0 c.is_empty.ensures
