use Rattle.one_rule.proofs.Whole.{runs, no_start}
use Rattle.one_rule.proofs.top.take_course.Goals as goal

pub returns-in-Ok-clause-runs : goal.returns-in-Ok-clause-runs
returns-in-Ok-clause-runs g c =
    runs g.W.Disk.meaning g.O.Sink.meaning g.E.Sink.meaning c.args.words.now c.args.world.now c.run-ending.new.world c.args.out.now c.run-ending.new.out c.conclude.new.out c.args.err.now c.conclude.new.err
    c.run-ending.result c.conclude.result.status c.conclude.result.faults c.run-ending.ensures.ends c.conclude.ensures.concludes

pub returns-in-Err-clause-runs : goal.returns-in-Err-clause-runs
returns-in-Err-clause-runs g c =
    no_start g.W.Disk.meaning g.O.Sink.meaning g.E.Sink.meaning c.args.world.now c.args.out.now c.args.err.now c.args.words.now
    c.out_of_memory.result.status c.out_of_memory.result.faults c.out_of_memory.ensures.status c.out_of_memory.ensures.faults
