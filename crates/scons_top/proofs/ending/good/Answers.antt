use Rattle.std.proofs.Common.{◌∙◌}
use Rattle.scons_top.proofs.Stepping.{good_at}
use Rattle.scons_top.proofs.ending.good.Goals as goal

pub returns-clause-ends : goal.returns-clause-ends
returns-clause-ends c = good_at c.args.step c.report.result c.report.ensures.at (c.report.ensures.faults ∙ c.empty.ensures)
