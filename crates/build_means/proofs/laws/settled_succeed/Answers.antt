use Rattle.build_means.proofs.Succeeding.{succeeds}
use Rattle.build_means.proofs.laws.settled_succeed.Goals as goal

pub returns : goal.returns
returns c = succeeds c.any_decider.ensures c.incremental_is_clean.ensures
