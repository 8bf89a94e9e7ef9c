use Rattle.build_means.proofs.Succeeding.{have_jobs}
use Rattle.build_means.proofs.laws.succeeded_have_jobs.Goals as goal

pub returns : goal.returns
returns c = have_jobs
