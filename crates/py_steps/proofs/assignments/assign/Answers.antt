use Rattle.py_state.specs.Stores.{state_of}
use Rattle.py_steps.proofs.Assigning.{name_takes, names_take, post_takes, other_takes}
use Rattle.py_steps.proofs.assignments.assign.Goals as goal

pub returns-in_ok-bind-in-Name : goal.returns-in_ok-bind-in-Name
returns-in_ok-bind-in-Name c =
    name_takes c.args.line c.in-Name.line c.args.target c.in-Name.name c.take-value.result c.args.desk.now c.take-value.new.self (state_of c.args.machine.now c.args.frame.now) (state_of c.bind.new.self c.bind.new.frame)
    c.in-Name.is c.take-value.ensures.value c.take-value.ensures.left c.in_ok-bind-in-Name.ensures

pub returns-in-Tuple : goal.returns-in-Tuple
returns-in-Tuple c =
    names_take {X = Unit {0}} c.args.line c.in-Tuple.line c.args.target c.in-Tuple.items c.as_slice.result.now c.in-Tuple.trailing_comma c.take-value-in-Tuple.result c.args.desk.now c.take-value-in-Tuple.new.self (state_of c.args.machine.now c.args.frame.now) (state_of c.assign_items.new.machine c.assign_items.new.frame) c.assign_items.result
    c.in-Tuple.is c.as_slice.ensures.value c.take-value-in-Tuple.ensures.value c.take-value-in-Tuple.ensures.left (c.assign_items.ensures c.in-Tuple.line c.in-Tuple.trailing_comma)

pub returns-in_ok-assign_item-in-Post : goal.returns-in_ok-assign_item-in-Post
returns-in_ok-assign_item-in-Post c =
    let s = state_of c.args.machine.now c.args.frame.now in
    post_takes c.args.line c.args.target c.in-Post.atom c.in-Post.links c.deref.result.now c.as_slice-in-Post.result.now c.args.desk.now c.assign_item.new.desk s
    c.in-Post.is c.deref.ensures c.as_slice-in-Post.ensures.value (c.in_ok-assign_item-in-Post.ensures c.args.line s)

pub returns-in_default : goal.returns-in_default
returns-in_default c =
    other_takes c.args.line c.args.target c.args.desk.now c.take-value-in_default.new.self (state_of c.args.machine.now c.args.frame.now)
    c.in_default.not-Name c.in_default.not-Tuple c.in_default.not-Post c.take-value-in_default.ensures.left
