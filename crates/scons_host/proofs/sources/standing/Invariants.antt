use Rattle.std.proofs.Common.{◌≡◌, drop}
use Rattle.world_api.specs.Looks.{LooksAtFiles}
use Rattle.scons_host.specs.Scripts.{standing}
use Rattle.scons_host.specs.Shown.{Shown}
use Rattle.scons_host.proofs.sources.standing.Given as goal

abbrev pub invariant-loop-path : goal.invariant-loop-path
invariant-loop-path g l = record {
  looks : LooksAtFiles g.W.Disk.meaning l.fn.world l.world;
  same : g.W.Disk.meaning.counts l.world ≡ g.W.Disk.meaning.counts l.fn.world;
  left : Shown g.W.Disk.meaning l.fn.world l.world (λ f. standing f (drop l.path-index l.paths) ≡ standing f l.paths);
}
