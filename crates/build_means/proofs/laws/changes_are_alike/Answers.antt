use Rattle.build_means.proofs.Recording.{changed_alike, digests_valid}
use Rattle.build_means.proofs.laws.changes_are_alike.Goals as goal

pub returns : goal.returns
returns c = λ decider target old now f g. changed_alike target old now (digests_valid old f) (digests_valid now g) decider
