use Rattle.py_steps.proofs.Linking.{slice_comes}
use Rattle.py_steps.proofs.links.slice_link.Goals as goal

pub returns : goal.returns
returns c = λ s. slice_comes c.args.line c.is_some.result c.is_some-2.result c.args.lower.now c.args.upper.now c.args.rest c.args.desk.now c.push.new.self c.push-2.new.self c.evaluate_end.new.desk c.evaluate_end-2.new.desk s
    c.is_some.ensures c.is_some-2.ensures c.in_ok-push.ensures c.in_ok-push-2.ensures c.in_ok-evaluate_end.ensures.tasks c.in_ok-evaluate_end.ensures.values c.in_ok-evaluate_end-2.ensures.tasks c.in_ok-evaluate_end-2.ensures.values
