use Rattle.scons_report.proofs.Leftover.{targets_more}
use Rattle.scons_report.proofs.dry.add_targets.Goals as goal

pub loop-target-preserved : goal.loop-target-preserved
loop-target-preserved c =
    targets_more c.args.paths.now.keys c.loop-target.paths.keys c.insert.new.self.keys c.args.rec.now.targets c.as_slice-target-items.result.now
    c.loop-target.target-index c.target-item.result _ c.as_slice-target-items.ensures c.loop-target-test.true c.target-item.is (c.in_ok-copy.ensures {u = tt})
    (c.in_ok-insert.ensures {u = tt}).keys c.loop-target.invariant
