use Rattle.std.proofs.Common.{◌≡◌, drop}
use Rattle.std.specs.List.{find}
use Rattle.scons_host.specs.Shown.{Shown}
use Rattle.scons_reading.specs.Firsts.{is_file}
use Rattle.world_api.specs.Looks.{LooksAtFiles}
use Rattle.scons_reading.proofs.rules.first_found.Given as goal

abbrev pub invariant-loop-file : goal.invariant-loop-file
invariant-loop-file g l = record {
  looks : LooksAtFiles g.W.Disk.meaning l.fn.world l.world;
  same : g.W.Disk.meaning.counts l.world ≡ g.W.Disk.meaning.counts l.fn.world;
  shown : Shown g.W.Disk.meaning l.fn.world l.world (λ f.
      find (λ a. is_file f a.file) l.asked ≡ find (λ a. is_file f a.file) (drop l.file-index l.asked));
}
