use Rattle.std.proofs.Common.{refl}
use Rattle.py_steps.proofs.Several.{pairs_come, pairs_over}
use Rattle.py_steps.proofs.expressions.evaluate_pairs.Goals as goal

pub returns-in_default : goal.returns-in_default
returns-in_default c = λ s. pairs_over c.args.pairs.now c.args.desk.now s c.in_default.ensures.cases

pub returns : goal.returns
returns c = λ s. pairs_come c.args.pairs.now c.in-Some.first c.in-Some.rest _ _ c.args.desk.now c.push.new.self c.evaluate.new.self s c.in-Some.ensures.cases.0 refl refl c.in_ok-push.ensures c.in_ok-evaluate.ensures
