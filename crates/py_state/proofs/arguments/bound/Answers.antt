use Rattle.std.proofs.Common.{[], ◌≡◌, ◌∙◌, ◌<◌, sym, ap, Some, length}
use Rattle.py_host.specs.Calls.{arguments_of}
use Rattle.py_host.specs.Names.{value_of, with_name}
use Rattle.py_meaning.specs.States.{Parameter}
use Rattle.py_meaning.specs.Arguments.{bound_onto}
use Rattle.py_state.specs.Arguments.{taken_value}
use Rattle.py_state.proofs.ArgumentTurns.{bound_turn, bound_refused, bound_longer, bound_none, bound_whole, bound_fits, bound_unknown}
use Rattle.py_state.proofs.NamesSet.{all_set_is}
use Rattle.py_state.proofs.arguments.bound.Goals as goal

pub returns-then-parameters-positional : goal.returns-then-parameters-positional
returns-then-parameters-positional c =
    let longer : length c.args.function.now.parameters.items < length c.args.args.now.positional.items =
    rw (c.as_slice-parameters.ensures.value, c.as_slice-positional.ensures.value) at c.if-parameters-positional.true in
    bound_longer c.args.function.now.parameters.items (arguments_of c.args.args.now) longer

pub parameters-preserved : goal.parameters-preserved
parameters-preserved c =
    let p = c.index-parameters-place.result in
    let value = c.in-Some.ensures ∙ ap (λ o. taken_value o (value_of c.args.args.now.named p.name) p.default) c.value_at.ensures in
    let name = c.in_ok-copy.ensures ∙ ap (λ (q : Parameter). q.name) c.parameter.view_is in
    let new = c.in_ok-set.ensures.ok ∙ ap (λ k. with_name c.parameters.names k c.in-Some.value) name in
    bound_turn c.as_slice-parameters.result.now c.as_slice-positional.result.now c.parameters.place p c.in-Some.value c.parameters.names c.set.new.self c.args.args.now.named
    (bound_onto [] c.as_slice-parameters.result.now c.as_slice-positional.result.now c.args.args.now.named) c.parameters-test.true c.index-parameters-place.is value c.parameters.invariant new

pub returns-in_default : goal.returns-in_default
returns-in_default c =
    let p = c.index-parameters-place.result in
    let none = c.in_default.ensures ∙ ap (λ o. taken_value o (value_of c.args.args.now.named p.name) p.default) c.value_at.ensures in
    let refused = bound_refused c.as_slice-parameters.result.now c.as_slice-positional.result.now c.parameters.place p c.parameters.names c.args.args.now.named
    (bound_onto [] c.as_slice-parameters.result.now c.as_slice-positional.result.now c.args.args.now.named) c.parameters-test.true c.index-parameters-place.is none c.parameters.invariant in
    bound_none c.args.function.now.parameters.items (arguments_of c.args.args.now) (rw (c.as_slice-parameters.ensures.value, c.as_slice-positional.ensures.value) at refused)

pub returns-then-not-all_set : goal.returns-then-not-all_set
returns-then-not-all_set c =
    let ps = c.args.function.now.parameters.items in
    let given = arguments_of c.args.args.now in
    let place = rw (c.as_slice-parameters.ensures.value, c.as_slice-positional.ensures.value) at c.parameters.invariant in
    let past = rw c.as_slice-parameters.ensures.value at c.parameters-test.false in
    let fits = rw (c.as_slice-parameters.ensures.value, c.as_slice-positional.ensures.value) at c.if-parameters-positional.false in
    let whole : bound_onto [] ps given.positional given.named ≡ Some c.parameters.names = bound_whole ps given c.parameters.names c.parameters.place past fits place in
    bound_unknown ps given (sym (all_set_is c.parameters.names ps given.positional given.named given.named whole) ∙ sym c.all_set.ensures ∙ c.if-not-all_set.true)

pub returns : goal.returns
returns c =
    let ps = c.args.function.now.parameters.items in
    let given = arguments_of c.args.args.now in
    let place = rw (c.as_slice-parameters.ensures.value, c.as_slice-positional.ensures.value) at c.parameters.invariant in
    let past = rw c.as_slice-parameters.ensures.value at c.parameters-test.false in
    let fits = rw (c.as_slice-parameters.ensures.value, c.as_slice-positional.ensures.value) at c.if-parameters-positional.false in
    let whole : bound_onto [] ps given.positional given.named ≡ Some c.parameters.names = bound_whole ps given c.parameters.names c.parameters.place past fits place in
    bound_fits ps given c.parameters.names (sym (all_set_is c.parameters.names ps given.positional given.named given.named whole) ∙ sym c.all_set.ensures ∙ c.if-not-all_set.false) whole
