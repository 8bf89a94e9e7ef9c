use Rattle.std.proofs.Common.{refl}
use Rattle.py_steps.proofs.Several.{default_comes, no_default, defaults_over}
use Rattle.py_steps.proofs.expressions.evaluate_defaults.Goals as goal

pub returns-in_default : goal.returns-in_default
returns-in_default c = λ s. defaults_over c.args.parameters.now c.args.desk.now s c.in_default.ensures.cases

pub returns-in_ok-evaluate-in-Some-default : goal.returns-in_ok-evaluate-in-Some-default
returns-in_ok-evaluate-in-Some-default c =
    λ s. default_comes c.args.parameters.now c.in-Some.first.now c.in-Some-default.default _ c.in-Some.rest c.args.desk.now c.evaluate.new.self s c.in-Some.ensures.cases.0 c.in-Some-default.is refl c.in_ok-evaluate-in-Some-default.ensures

pub returns-in_ok-push-in-None : goal.returns-in_ok-push-in-None
returns-in_ok-push-in-None c =
    λ s. no_default c.args.parameters.now c.in-Some.first.now c.in-Some.rest c.args.desk.now c.push.new.self s c.in-Some.ensures.cases.0 c.in-None.is c.in_ok-push-in-None.ensures
