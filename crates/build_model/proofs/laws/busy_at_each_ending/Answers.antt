use Rattle.build_model.proofs.Waiting.{busy}
use Rattle.build_model.proofs.laws.busy_at_each_ending.Goals as goal

pub returns : goal.returns
returns c = λ s b steps top build by low succeeds waits_so later past r well e. busy s b steps top build by low succeeds waits_so later past r well e
