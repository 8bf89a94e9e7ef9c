use Rattle.py_steps.proofs.Growing.{part_put, field_put, no_field_put}
use Rattle.py_steps.proofs.texts.characters_of.Goals as goal

pub returns-in-Part : goal.returns-in-Part
returns-in-Part c = part_put c.args.heap.now c.args.piece.now c.in-Part.line c.in-Part.text c.as_str.result.now c.args.values.now c.in-Part.is c.as_str.ensures

pub returns-in-Some : goal.returns-in-Some
returns-in-Some c =
    field_put c.args.heap.now c.args.piece.now c.in-Field.line c.in-Field.value c.in-Some.first.now c.text_in.result.now c.args.values.now c.in-Some.rest.now c.in-Field.is c.in-Some.ensures.cases.0 c.text_in.ensures

pub returns-in-None : goal.returns-in-None
returns-in-None c = no_field_put c.args.heap.now c.args.piece.now c.in-Field.line c.in-Field.value c.args.values.now c.in-Field.is c.in-None.ensures.cases
