use Rattle.explain_report.proofs.Ruling.{least_is_reason}
use Rattle.explain_report.proofs.laws.least_is_reason.Goals as goal

pub returns : goal.returns
returns c = λ r tree stamps stored decider now are answers each. least_is_reason c.changes_are_alike.ensures r tree stamps stored decider now are answers each
