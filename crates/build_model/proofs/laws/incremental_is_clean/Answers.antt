use Rattle.build_model.proofs.Headline.{incremental_is_clean}
use Rattle.build_model.proofs.laws.incremental_is_clean.Goals as goal

pub returns : goal.returns
returns c = λ g b steps builds succeeds. incremental_is_clean g b steps builds succeeds
