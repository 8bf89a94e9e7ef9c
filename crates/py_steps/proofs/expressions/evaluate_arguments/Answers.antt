use Rattle.std.proofs.Common.{refl}
use Rattle.py_steps.proofs.Several.{positional_comes, named_comes, arguments_over}
use Rattle.py_steps.proofs.expressions.evaluate_arguments.Goals as goal

pub returns-in_default : goal.returns-in_default
returns-in_default c = λ s. arguments_over c.args.arguments.now c.args.desk.now s c.in_default.ensures.cases

pub returns-in_ok-evaluate-in-Positional : goal.returns-in_ok-evaluate-in-Positional
returns-in_ok-evaluate-in-Positional c =
    λ s. positional_comes c.args.arguments.now c.in-Some.first.now c.in-Positional.value _ c.in-Some.rest c.args.desk.now c.evaluate.new.self s c.in-Some.ensures.cases.0 c.in-Positional.is refl c.in_ok-evaluate-in-Positional.ensures

pub returns-in_ok-evaluate-in-Named : goal.returns-in_ok-evaluate-in-Named
returns-in_ok-evaluate-in-Named c =
    λ s. named_comes c.args.arguments.now c.in-Some.first.now c.in-Named.line c.in-Named.name c.in-Named.value _ c.in-Some.rest c.args.desk.now c.evaluate-in-Named.new.self s c.in-Some.ensures.cases.0 c.in-Named.is refl c.in_ok-evaluate-in-Named.ensures
