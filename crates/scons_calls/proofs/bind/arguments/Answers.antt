use Rattle.std.proofs.Common.{rules, ◌≡◌, ◌≢◌, List, Bor, Err, ℕ, get_or, map}
use Rattle.py_host.specs.Calls.{arguments_of}
use Rattle.scons_calls.specs.declared.fault.CallFault.TheVariants as fault
use Rattle.scons_calls.specs.declared.signature.Kind.{Kind}
use Rattle.scons_calls.specs.declared.signature.Takes.{Takes}
use Rattle.scons_calls.specs.Binding.{argument_by, arguments_by}
use Rattle.scons_calls.specs.Signatures.{parameter_of}
use Rattle.scons_calls.specs.Results.{and_one}
use Rattle.scons_calls.proofs.Loops.{no_row, own_read, one_more, one_stop, placed_more, placed_stop}
use Rattle.scons_calls.proofs.bind.arguments.Goals as goal

pub returns-in_err-argument-clause-fault : goal.returns-in_err-argument-clause-fault
returns-in_err-argument-clause-fault c =
    let given = arguments_of c.args.args.now in
    let row : Bor (List ℕ) × Kind × Takes = get_or c.args.parameters.now c.loop-place.place no_row in
    let stop : c.in_err-argument.field-0.0 ≢ fault.Memory → arguments_by c.args.heap.now c.args.objects.now given (map parameter_of c.args.parameters.now) ≡ Err c.in_err-argument.field-0.0 =
    λ ne. placed_stop (λ xs a. and_one xs (argument_by c.args.heap.now c.args.objects.now given a)) c.args.parameters.now c.loop-place.place c.loop-place.arguments row c.in_err-argument.field-0.0 _ c.loop-place-test.true (own_read c.args.parameters.now c.loop-place.place no_row c.loop-place-test.true)
    (one_stop c.loop-place.arguments (argument_by c.args.heap.now c.args.objects.now given (c.loop-place.place, parameter_of row)) c.in_err-argument.field-0.0 (c.in_err-argument.ensures.fault ne)) c.loop-place.invariant in
    search rules

pub loop-place-preserved : goal.loop-place-preserved
loop-place-preserved c =
    let given = arguments_of c.args.args.now in
    let row : Bor (List ℕ) × Kind × Takes = get_or c.args.parameters.now c.loop-place.place no_row in
    placed_more (λ xs a. and_one xs (argument_by c.args.heap.now c.args.objects.now given a)) c.args.parameters.now c.loop-place.place c.loop-place.arguments c.push.new.self row _ c.loop-place-test.true (own_read c.args.parameters.now c.loop-place.place no_row c.loop-place-test.true)
    (one_more c.loop-place.arguments c.push.new.self (argument_by c.args.heap.now c.args.objects.now given (c.loop-place.place, parameter_of row)) c.in_ok-argument.field-0 c.in_ok-argument.ensures.ok c.in_ok-push.ensures) c.loop-place.invariant
