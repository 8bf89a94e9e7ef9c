use Rattle.std.proofs.Common.{◌≡◌}
use Rattle.sign_store.specs.Stores.{map_of}
use Rattle.world_api.specs.Looks.{Looks}
use Rattle.build_files.specs.Dueness.{AreIdle}
use Rattle.build_run.specs.Whys.{IsLeastSoFar}
use Rattle.build_run.proofs.explain.reason_of_rule.Given as goal

abbrev pub invariant-loop-place : goal.invariant-loop-place
invariant-loop-place g l = record {
  looks : Looks g.W.Disk.meaning l.fn.world l.world;
  counts : g.W.Disk.meaning.counts l.world ≡ g.W.Disk.meaning.counts l.fn.world;
  told : g.W.Disk.meaning.tells l.world → g.W.Disk.meaning.tells l.initial.world;
  least : g.W.Disk.meaning.tells l.world → AreIdle (g.W.Disk.meaning.around l.fn.world) l.now.targets
      → IsLeastSoFar l.rule (map_of l.store) l.now (g.W.Disk.meaning.around l.fn.world) l.place l.first;
}
