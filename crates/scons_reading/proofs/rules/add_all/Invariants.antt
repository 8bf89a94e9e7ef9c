use Rattle.std.proofs.Common.{◌≡◌}
use Rattle.scons_host.specs.Shown.{Shown}
use Rattle.scons_reading.specs.Graphs.{IsWithin, Puts}
use Rattle.scons_rules.specs.PathGraphs.{graph_by}
use Rattle.world_api.specs.Looks.{LooksAtFiles}
use Rattle.scons_reading.proofs.rules.add_all.Given as goal

abbrev pub invariant-loop-number : goal.invariant-loop-number
invariant-loop-number g l = record {
  looks : LooksAtFiles g.W.Disk.meaning l.fn.world l.world;
  same : g.W.Disk.meaning.counts l.world ≡ g.W.Disk.meaning.counts l.fn.world;
  rest : l.reading.declared ≡ l.fn.reading.declared;
  within : IsWithin l.reading.declared l.locals;
  puts : Shown g.W.Disk.meaning l.fn.world l.world (λ f. Puts f l.reading.declared l.number (graph_by l.reading.graph));
}
