use Rattle.plan_means.proofs.Beginning.{is_tied}
use Rattle.plan_means.proofs.laws.loaded_is_tied.Goals as goal

pub returns : goal.returns
returns c = λ b g requested t plan now below looked loaded. is_tied b g requested t plan now below looked loaded
