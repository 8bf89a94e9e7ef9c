use Rattle.std.proofs.Common.{◌≡◌, drop, map}
use Rattle.std.specs.List.{find}
use Rattle.scons_host.specs.Shown.{Shown}
use Rattle.scons_reading.specs.Firsts.{is_file}
use Rattle.world_api.specs.Looks.{LooksAtFiles}
use Rattle.scons_reading.proofs.starting.file_among.Given as goal

abbrev pub invariant-loop-name : goal.invariant-loop-name
invariant-loop-name g l = record {
  looks : LooksAtFiles g.W.Disk.meaning l.fn.world l.world;
  same : g.W.Disk.meaning.counts l.world ≡ g.W.Disk.meaning.counts l.fn.world;
  shown : Shown g.W.Disk.meaning l.fn.world l.world (λ f.
      find (is_file f) (map (λ n. n.now) l.names) ≡ find (is_file f) (drop l.name-index (map (λ n. n.now) l.names)));
}
