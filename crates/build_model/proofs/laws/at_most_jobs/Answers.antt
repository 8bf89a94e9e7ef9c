use Rattle.build_model.proofs.Runs.{run_before, running_few}
use Rattle.build_model.proofs.laws.at_most_jobs.Goals as goal

pub returns : goal.returns
returns c = λ s b later past run. running_few s b past (run_before s b later past run)
