use Rattle.explain_report.proofs.Due.{due_alike}
use Rattle.explain_report.proofs.laws.due_where_a_reason_holds.Goals as goal

pub returns : goal.returns
returns c = λ r tree stamps stored decider now are. due_alike c.changes_are_alike.ensures r tree stamps stored decider now are
