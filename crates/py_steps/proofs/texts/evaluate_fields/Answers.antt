use Rattle.std.proofs.Common.{refl}
use Rattle.py_steps.proofs.Joining.{field_comes, part_passed, fields_over}
use Rattle.py_steps.proofs.texts.evaluate_fields.Goals as goal

pub returns-in_default : goal.returns-in_default
returns-in_default c = λ s. fields_over c.args.pieces.now c.args.desk.now s c.in_default.ensures.cases

pub returns-in_ok-evaluate-in-Field : goal.returns-in_ok-evaluate-in-Field
returns-in_ok-evaluate-in-Field c =
    λ s. field_comes c.args.pieces.now c.in-Some.first.now c.in-Field.line c.in-Field.value _ c.in-Some.rest c.args.desk.now c.push.new.self c.evaluate.new.self s c.in-Some.ensures.cases.0 c.in-Field.is refl c.in_ok-push.ensures c.in_ok-evaluate-in-Field.ensures

pub returns-in-Part : goal.returns-in-Part
returns-in-Part c =
    λ s. part_passed c.args.pieces.now c.in-Some.first.now c.in-Part.line c.in-Part.text c.in-Some.rest c.args.desk.now c.push.new.self s c.in-Some.ensures.cases.0 c.in-Part.is c.in_ok-push.ensures
