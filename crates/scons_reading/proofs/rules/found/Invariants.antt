use Rattle.std.proofs.Common.{◌≡◌, ◌++◌, map, drop}
use Rattle.scons_host.specs.Shown.{Shown}
use Rattle.scons_reading.specs.Graphs.{found, standing_in}
use Rattle.scons_rules.specs.Libraries.{found_in}
use Rattle.world_api.specs.Looks.{LooksAtFiles}
use Rattle.scons_reading.proofs.rules.found.Given as goal

abbrev pub invariant-loop-library : goal.invariant-loop-library
invariant-loop-library g l = record {
  looks : LooksAtFiles g.W.Disk.meaning l.fn.world l.world;
  same : g.W.Disk.meaning.counts l.world ≡ g.W.Disk.meaning.counts l.fn.world;
  shown : Shown g.W.Disk.meaning l.fn.world l.world (λ f.
      found (map (found_in (standing_in f)) l.wanted) ≡ l.libraries ++ found (map (found_in (standing_in f)) (drop l.library-index l.wanted)));
}
