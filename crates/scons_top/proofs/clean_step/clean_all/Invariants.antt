use Rattle.build_means.specs.Rules.{paths_of}
use Rattle.scons_top.specs.Cleaned.{Cleared}
use Rattle.scons_top.proofs.Clearing.{GoneTo}
use Rattle.scons_top.specs.Remembered.{LeavesBanks}
use Rattle.scons_top.specs.Stopping.{RunsSafely}
use Rattle.std.proofs.Common.{◌≡◌, ℕ, take}
use Rattle.scons_top.specs.Printed.{LeavesBy}
use Rattle.scons_top.proofs.Removing.{AllRemoved}
use Rattle.std.specs.Prelude.{IsTrue}
use Rattle.build_run.specs.Causes.{outside}
use Rattle.build_run.specs.Goings.{Stays}
use Rattle.scons_top.specs.Watching.{Watches}
use Rattle.scons_top.proofs.clean_step.clean_all.Given as goal

abbrev pub invariant-loop-target : goal.invariant-loop-target
invariant-loop-target g l = record {
  stays : Stays g.W.Disk.meaning l.fn.world l.world;
  same : (err : ℕ) → outside (g.W.Disk.meaning.counts l.world) (g.O.Sink.meaning.faults l.out) err ≡ outside (g.W.Disk.meaning.counts l.fn.world) (g.O.Sink.meaning.faults l.fn.out) err;
  safe : RunsSafely g.W.Disk.meaning l.fn.world l.world;
  moments : LeavesBanks g.W.Disk.meaning l.fn.world l.world;
  dry : IsTrue l.words.dry → Watches g.W.Disk.meaning l.fn.world l.world;
  cleared : Cleared g.W.Disk.meaning (paths_of l.graph l.targets) l.fn.world l.world;
  gone : GoneTo g.W.Disk.meaning l.words l.graph l.targets l.target-index l.world;
  left : LeavesBy g.W.Disk.meaning l.words (paths_of l.graph (take l.target-index l.targets)) l.fn.world l.world;
  prints : AllRemoved g.W.Disk.meaning g.O.Sink.meaning l.words (paths_of l.graph (take l.target-index l.targets)) l.fn.world l.world l.fn.out l.out;
}
