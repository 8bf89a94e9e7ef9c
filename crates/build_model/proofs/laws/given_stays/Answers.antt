use Rattle.build_model.proofs.Staying.{given_so}
use Rattle.build_model.proofs.laws.given_stays.Goals as goal

pub returns : goal.returns
returns c = λ s b jobs t stamps past lawful course. given_so s b lawful course
