use Rattle.std.proofs.Common.{◌≡◌, take}
use Rattle.scons_top.specs.Sinks.{PrintsSuch}
use Rattle.scons_top.specs.Trees.{AreTrees}
use Rattle.scons_top.specs.Watching.{Watches}
use Rattle.scons_top.proofs.tree_step.print_trees.Given as goal

abbrev pub invariant-loop-request : goal.invariant-loop-request
invariant-loop-request g l =
    let m = g.W.Disk.meaning in
    record {
      watches : Watches m l.fn.world l.world;
      counts : m.counts l.world ≡ m.counts l.fn.world;
      faults : g.O.Sink.meaning.faults l.out ≡ g.O.Sink.meaning.faults l.fn.out;
      trees : PrintsSuch g.O.Sink.meaning (m.tells l.world) (AreTrees l.fn.declared (m.around l.fn.world) l.fn.graph l.graph (take l.request-index l.requests)) ⊥ l.fn.out l.out;
    }
