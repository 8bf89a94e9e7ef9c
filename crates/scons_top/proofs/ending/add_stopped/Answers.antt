use Rattle.scons_top.proofs.Reporting.{unwritten, unwritten_lost}
use Rattle.scons_top.proofs.ending.add_stopped.Goals as goal

pub returns-in-Memory-clause-adds : goal.returns-in-Memory-clause-adds
returns-in-Memory-clause-adds c = unwritten_lost c.args.stop.now _ c.in-Memory.is

pub returns-in_default-clause-adds : goal.returns-in_default-clause-adds
returns-in_default-clause-adds c = unwritten c.args.stop.now _ _ c.add.result c.in_default.not-Memory c.add.ensures.added c.add.ensures.lost
