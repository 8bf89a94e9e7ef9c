use Rattle.std.proofs.Common.{refl}
use Rattle.std.proofs.lemmas.Result.{on_ok_weaker}
use Rattle.py_steps.proofs.Operating.{in_place_goes, on_top_goes}
use Rattle.py_steps.proofs.expressions.operand.Goals as goal

pub returns-in-Or : goal.returns-in-Or
returns-in-Or c = on_ok_weaker c.push-in-Or.result
    (λ e s h. in_place_goes c.args.first.now _ c.args.rest c.args.desk.now c.push.new.self c.take-left.new.self c.push-in-Or.new.self s c.in-Or.is refl h c.in_ok-push.ensures c.take-left.ensures.left e)
    c.push-in-Or.ensures

pub returns-in_default : goal.returns-in_default
returns-in_default c = on_ok_weaker c.evaluate.result
    (λ e s h. on_top_goes c.args.first.now c.operator_op-op.result _ c.args.rest c.args.desk.now c.push.new.self c.evaluate.new.self s c.in_default.not-Or c.in_default.not-And c.operator_op-op.ensures refl c.in_ok-push.ensures e)
    c.evaluate.ensures
