use Rattle.std.proofs.Common.{◌≡◌, take}
use Rattle.std.specs.List.{flat_map}
use Rattle.world_api.specs.Looks.{LooksAtFiles}
use Rattle.scons_host.specs.Shown.{Shown, SamePaths}
use Rattle.scons_host.proofs.globbing.files_in.Given as goal

abbrev pub invariant-loop-dir : goal.invariant-loop-dir
invariant-loop-dir g l = record {
  looks : LooksAtFiles g.W.Disk.meaning l.fn.world l.world;
  same : g.W.Disk.meaning.counts l.world ≡ g.W.Disk.meaning.counts l.fn.world;
  shown : Shown g.W.Disk.meaning l.fn.world l.world (λ f. SamePaths l.files.items (flat_map f.listed (take l.dir-index l.dirs)));
}
