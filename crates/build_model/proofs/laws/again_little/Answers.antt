use Rattle.build_model.proofs.Headline.{again_little}
use Rattle.build_model.proofs.laws.again_little.Goals as goal

pub returns : goal.returns
returns c = λ g b c sources again r needed is_stale. again_little g b c sources again r needed is_stale
