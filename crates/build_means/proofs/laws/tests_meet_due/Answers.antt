use Rattle.build_means.proofs.Testing.{tests_due}
use Rattle.build_means.proofs.laws.tests_meet_due.Goals as goal

pub returns : goal.returns
returns c = tests_due
