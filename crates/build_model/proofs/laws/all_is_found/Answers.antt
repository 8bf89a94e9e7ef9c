use Rattle.build_model.proofs.Scanning.{all_is_found}
use Rattle.build_model.proofs.laws.all_is_found.Goals as goal

pub returns : goal.returns
returns c = λ s b steps lawful run. all_is_found s b steps lawful run
