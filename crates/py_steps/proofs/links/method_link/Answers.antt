use Rattle.py_state.specs.Stores.{state_by}
use Rattle.py_steps.proofs.Linking.{nothing_called, other_called, no_such_name, no_such_method, method_comes}
use Rattle.py_steps.proofs.links.method_link.Goals as goal

pub returns-in_default : goal.returns-in_default
returns-in_default c = λ m i. nothing_called (Unit {0}) c.args.line c.args.name.now c.args.links.now c.args.desk.now (state_by m c.args.frame.now) c.fault.result _ i c.in_default.ensures.cases c.fault.ensures

pub returns-in_default-first : goal.returns-in_default-first
returns-in_default-first c = λ m i. other_called (Unit {0}) c.args.line c.args.name.now c.args.links.now c.in-Some.rest.now c.in-Some.first.now c.args.desk.now (state_by m c.args.frame.now) c.fault-in_default-first.result _ i c.in-Some.ensures.cases.0 c.in_default-first.not-Call c.fault-in_default-first.ensures

pub returns-in_default-method_named : goal.returns-in_default-method_named
returns-in_default-method_named c = λ m i. no_such_name (Unit {0}) c.args.line c.args.name.now c.as_str.result.now c.method_named.result c.args.links.now c.in-Some.rest.now c.in-Some.first.now c.in-Call.line c.in-Call.arguments c.args.desk.now (state_by m c.args.frame.now) c.fault-in_default-method_named.result _
    i c.in-Some.ensures.cases.0 c.in-Call.is c.as_str.ensures c.method_named.ensures c.in_default-method_named.is c.fault-in_default-method_named.ensures

pub returns-then-not-has_method : goal.returns-then-not-has_method
returns-then-not-has_method c = λ m i. no_such_method (Unit {0}) c.args.line c.args.name.now c.as_str.result.now c.method_named.result c.in-Some-method_named.method c.top.result c.has_method.result c.args.links.now c.in-Some.rest.now c.in-Some.first.now c.in-Call.line c.in-Call.arguments c.args.desk.now (state_by m c.args.frame.now) c.fault-then-not-has_method.result _
    i c.in-Some.ensures.cases.0 c.in-Call.is c.as_str.ensures c.method_named.ensures c.in-Some-method_named.is c.top.ensures c.has_method.ensures c.if-not-has_method.true c.fault-then-not-has_method.ensures

pub returns : goal.returns
returns c = λ m i. method_comes c.args.line c.args.name.now c.as_str.result.now c.method_named.result c.in-Some-method_named.method c.top.result c.has_method.result c.args.links.now c.in-Some.first.now c.in-Call.line c.in-Call.arguments c.as_slice.result c.in-Some.rest c.args.desk.now c.call_link.new.desk (state_by m c.args.frame.now)
    i c.in-Some.ensures.cases.0 c.in-Call.is c.as_str.ensures c.method_named.ensures c.in-Some-method_named.is c.top.ensures c.has_method.ensures c.if-not-has_method.false c.as_slice.ensures.value c.in_ok-call_link.ensures
