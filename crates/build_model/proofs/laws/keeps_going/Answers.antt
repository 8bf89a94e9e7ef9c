use Rattle.build_model.proofs.GoingOn.{goes_on}
use Rattle.build_model.proofs.laws.keeps_going.Goals as goal

pub returns : goal.returns
returns c = λ s b steps found taken top build by low rest out. goes_on s b steps found top build by low rest taken out
