use Rattle.scons_report.specs.Cleaning.{rules_numbered}
use Rattle.scons_top.specs.Cleaned.{Cleared, targets_of}
use Rattle.scons_top.proofs.Clearing.{RulesGoneTo}
use Rattle.scons_top.specs.Remembered.{LeavesBanks}
use Rattle.scons_top.specs.Stopping.{RunsSafely}
use Rattle.std.proofs.Common.{◌≡◌, ℕ, take}
use Rattle.scons_top.specs.Printed.{LeavesBy}
use Rattle.scons_top.proofs.Removing.{AllRemoved}
use Rattle.std.specs.Prelude.{IsTrue}
use Rattle.build_run.specs.Causes.{outside}
use Rattle.build_run.specs.Goings.{Stays}
use Rattle.scons_top.specs.Watching.{Watches}
use Rattle.scons_top.proofs.clean_step.clean_rules.Given as goal

abbrev pub invariant-loop-rule : goal.invariant-loop-rule
invariant-loop-rule g l = record {
  stays : Stays g.W.Disk.meaning l.fn.world l.world;
  same : (err : ℕ) → outside (g.W.Disk.meaning.counts l.world) (g.O.Sink.meaning.faults l.out) err ≡ outside (g.W.Disk.meaning.counts l.fn.world) (g.O.Sink.meaning.faults l.fn.out) err;
  safe : RunsSafely g.W.Disk.meaning l.fn.world l.world;
  moments : LeavesBanks g.W.Disk.meaning l.fn.world l.world;
  dry : IsTrue l.words.dry → Watches g.W.Disk.meaning l.fn.world l.world;
  cleared : Cleared g.W.Disk.meaning (targets_of (rules_numbered l.graph l.rules)) l.fn.world l.world;
  gone : RulesGoneTo g.W.Disk.meaning l.words l.graph l.rules l.rule-index l.world;
  left : LeavesBy g.W.Disk.meaning l.words (targets_of (rules_numbered l.graph (take l.rule-index l.rules))) l.fn.world l.world;
  prints : AllRemoved g.W.Disk.meaning g.O.Sink.meaning l.words (targets_of (rules_numbered l.graph (take l.rule-index l.rules))) l.fn.world l.world l.fn.out l.out;
}
