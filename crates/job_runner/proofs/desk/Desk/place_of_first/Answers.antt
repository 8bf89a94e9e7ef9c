use Rattle.job_runner.proofs.Found.{first_not_out}
use Rattle.job_runner.proofs.desk.Desk.place_of_first.Goals as goal

pub returns-clause-none : goal.returns-clause-none
returns-clause-none g c = first_not_out c.place_of.result _ _ c.in_ok-number.number c.in_ok-number.slip.now c.in_ok-number.ensures.some c.place_of.ensures.none
