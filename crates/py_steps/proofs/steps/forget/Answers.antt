use Rattle.std.proofs.Common.{refl}
use Rattle.py_meaning.specs.States.{goes_on}
use Rattle.py_steps.specs.Leads.{same}
use Rattle.py_steps.proofs.Rests.{arrives}
use Rattle.py_steps.proofs.steps.forget.Goals as goal

pub returns : goal.returns
returns c = λ s. arrives c.take-value.new.self (goes_on s) c.take-value.ensures.left (same refl)
