use Rattle.build_model.proofs.Placed.{lawful}
use Rattle.build_model.proofs.laws.graphs_are_lawful.Goals as goal

pub returns : goal.returns
returns c = λ g t graph. lawful g t graph
