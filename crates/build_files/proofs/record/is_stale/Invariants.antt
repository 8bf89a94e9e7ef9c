use Rattle.std.proofs.Common.{◌≡◌, false, take}
use Rattle.std.specs.List.{list_any}
use Rattle.world_api.specs.Looks.{Looks}
use Rattle.build_means.specs.Records.{HasOwnDigests}
use Rattle.build_files.specs.Dueness.{AreIdle, HaveOwnDigests}
use Rattle.build_files.proofs.Testing.{test}
use Rattle.build_files.proofs.record.is_stale.Given as goal

abbrev pub invariant-loop-target : goal.invariant-loop-target
invariant-loop-target g l = record {
  looks : Looks g.W.Disk.meaning l.fn.world l.world;
  counts : g.W.Disk.meaning.counts l.world ≡ g.W.Disk.meaning.counts l.fn.world;
  told : g.W.Disk.meaning.tells l.world → g.W.Disk.meaning.tells l.initial.world;
  spared : g.W.Disk.meaning.tells l.world → AreIdle (g.W.Disk.meaning.around l.fn.world) l.now.targets → HaveOwnDigests (g.R.Records.map l.records)
      → HasOwnDigests l.now
      → list_any (test l.rule.decider l.made l.now (g.R.Records.map l.records) (g.W.Disk.meaning.around l.fn.world)) (take l.target-index l.now.targets) ≡ false;
}
