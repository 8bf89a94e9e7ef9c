use Rattle.std.proofs.Common.{◌∙◌, sym, get_or}
use Rattle.py_host.specs.Calls.{arguments_of}
use Rattle.scons_calls.proofs.Loops.{no_row, own_read, given_more, given_stop}
use Rattle.scons_calls.proofs.bind.test_needed.Goals as goal

pub returns-then-not-is_given : goal.returns-then-not-is_given
returns-then-not-is_given c = sym (given_stop (arguments_of c.args.args.now) c.args.parameters.now c.loop-place.place (get_or c.args.parameters.now c.loop-place.place no_row) _ c.loop-place-test.true (own_read c.args.parameters.now c.loop-place.place no_row c.loop-place-test.true) (sym c.is_given.ensures ∙ c.if-not-is_given.true) c.loop-place.invariant)

pub loop-place-preserved : goal.loop-place-preserved
loop-place-preserved c = given_more (arguments_of c.args.args.now) c.args.parameters.now c.loop-place.place (get_or c.args.parameters.now c.loop-place.place no_row) _ c.loop-place-test.true (own_read c.args.parameters.now c.loop-place.place no_row c.loop-place-test.true) (sym c.is_given.ensures ∙ c.if-not-is_given.false) c.loop-place.invariant
