use Rattle.std.proofs.lemmas.Result.{on_ok_weaker}
use Rattle.py_steps.proofs.Linking.{end_comes}
use Rattle.py_steps.proofs.links.evaluate_end.Goals as goal

pub returns-in-Some-clause-tasks : goal.returns-in-Some-clause-tasks
returns-in-Some-clause-tasks c = on_ok_weaker c.push.result
    (λ e. end_comes c.args.end.now c.in-Some.end c.deref.result c.args.desk.now c.push.new.self c.in-Some.is c.deref.ensures e)
    c.push.ensures
