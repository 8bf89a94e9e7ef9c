use Rattle.scons_report.proofs.Foreseeing.{all_foreseen}
use Rattle.scons_report.proofs.laws.lists_foresee.Goals as goal

pub returns : goal.returns
returns c = λ s b steps build changes r m. all_foreseen s b steps build changes r m
