use Rattle.build_model.proofs.Leaving.{is_again}
use Rattle.build_model.proofs.laws.is_again_after.Goals as goal

pub returns : goal.returns
returns c = λ g b c steps builds succeeds tree requested each. is_again g b c steps builds succeeds each tree requested
