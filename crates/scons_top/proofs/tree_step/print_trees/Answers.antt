use Rattle.std.proofs.Common.{◌≡◌, ◌∙◌, arith, refl, subst, sym, take, List}
use Rattle.std.proofs.lemmas.List.{take_all}
use Rattle.scons_top.specs.declared.requests.Request.{Request}
use Rattle.scons_top.specs.Sinks.{PrintsSuch}
use Rattle.scons_top.specs.Trees.{AreTrees}
use Rattle.scons_top.proofs.Watching.{watches_on, watches_same}
use Rattle.scons_top.proofs.Shown.{shown_back, shown_exit}
use Rattle.scons_top.proofs.Treeing.{trees_exit, trees_next, trees_none}
use Rattle.scons_top.proofs.tree_step.print_trees.Goals as goal

pub loop-request-init : goal.loop-request-init
loop-request-init g c =
    let m = g.W.Disk.meaning in
    record {
      watches = watches_same m c.args.world.now;
      counts = refl;
      faults = refl;
      trees = trees_none m g.O.Sink.meaning c.args.declared c.args.graph.now (m.around c.args.world.now) (m.tells c.args.world.now) c.args.out.now;
    }

pub loop-request-preserved : goal.loop-request-preserved
loop-request-preserved g c =
    let i = c.loop-request.invariant in
    let item = c.request-item in
    record {
      watches = watches_on g.W.Disk.meaning _ _ _ i.watches c.print_tree.ensures.watches;
      counts = c.in_ok-print_tree.ensures.cause.0 ∙ i.counts;
      faults = c.in_ok-print_tree.ensures.cause.1 ∙ i.faults;
      trees = trees_next g.W.Disk.meaning g.O.Sink.meaning c.args.declared c.args.requests.now c.loop-request.request-index item.result c.loop-request-test.true item.is _ _ _ _ _ _ _ _ _
          i.watches.looks c.print_tree.ensures.watches.looks c.requires.idle i.trees tt c.in_ok-print_tree.ensures.prints;
    }

pub returns-in_err-print_tree-clause-watches : goal.returns-in_err-print_tree-clause-watches
returns-in_err-print_tree-clause-watches g c = watches_on g.W.Disk.meaning _ _ _ c.loop-request.invariant.watches c.print_tree.ensures.watches

pub returns-in_err-print_tree-clause-cause : goal.returns-in_err-print_tree-clause-cause
returns-in_err-print_tree-clause-cause g c =
    let i = c.loop-request.invariant in
    let r = c.from_residual in
    shown_back _ _ _ _ _ _ r.result i.counts i.faults (shown_exit _ _ _ _ r.result _ r.ensures.1 c.in_err-print_tree.ensures.cause)

pub returns-in_err-print_tree-clause-prints : goal.returns-in_err-print_tree-clause-prints
returns-in_err-print_tree-clause-prints g c =
    let i = c.loop-request.invariant in
    let item = c.request-item in
    let r = c.from_residual in
    trees_exit g.W.Disk.meaning g.O.Sink.meaning c.args.declared c.args.requests.now c.loop-request.request-index item.result c.loop-request-test.true item.is _ _ _ _ _ _ _ _ _
    i.watches.looks c.print_tree.ensures.watches.looks c.requires.idle i.trees r.result _ _ r.ensures.1 c.in_err-print_tree.ensures.prints

pub returns-clause-prints : goal.returns-clause-prints
returns-clause-prints g c =
    let m = g.W.Disk.meaning in
    let i = c.loop-request.invariant in
    let requests = c.args.requests.now in
    let whole : take c.loop-request.request-index requests ≡ requests = take_all c.loop-request.request-index requests (omega arith) in
    subst (λ (rs : List Request). PrintsSuch g.O.Sink.meaning (m.tells c.loop-request.world) (AreTrees c.args.declared (m.around c.args.world.now) c.args.graph.now c.loop-request.graph rs) ⊥ c.args.out.now c.loop-request.out) whole i.trees
