use Rattle.py_steps.proofs.Rounds.{test_comes}
use Rattle.py_steps.proofs.loops.next_round.Goals as goal

pub returns : goal.returns
returns c = test_comes c.args.round c.args.desk.now c.evaluate.new.self c.in_ok-evaluate.ensures
