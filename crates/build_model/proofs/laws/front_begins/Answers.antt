use Rattle.build_model.proofs.Stopped.{front_begins}
use Rattle.build_model.proofs.laws.front_begins.Goals as goal

pub returns : goal.returns
returns c = λ s b steps view order run one stops takes sees missing is_order. front_begins s b view steps order run one stops takes sees missing is_order
