use Rattle.explain_report.specs.Reasons.{Differs}
use Rattle.explain_report.proofs.Firsts.{none_left}
use Rattle.explain_report.proofs.changes.first_of_pairs.Goals as goal

pub returns : goal.returns
returns c = λ s. none_left (Differs c.args.decider c.args.stamp) c.loop-x.xs.now c.loop-x.ys.now c.in_default.ensures (c.loop-x.invariant.later s)
