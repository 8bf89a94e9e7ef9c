use Rattle.std.proofs.Common.{rules, ◌≡◌, ◌≢◌, Some, Err, sym}
use Rattle.std.specs.Prelude.{slice_get}
use Rattle.scons_calls.specs.declared.fault.CallFault.TheVariants as fault
use Rattle.scons_calls.specs.Requests.{one_variable, all_variables}
use Rattle.scons_calls.proofs.Loops.{along_stop}
use Rattle.scons_calls.proofs.variables_given.all.Goals as goal

pub returns-in_err-take_up-clause-fault : goal.returns-in_err-take_up-clause-fault
returns-in_err-take_up-clause-fault c =
    let at : Some (c.in-Some.name.now, c.in-Some.value) ≡ slice_get c.args.named.now c.names.at = rw c.in-Some.is at c.at.ensures in
    let stop : c.in_err-take_up.field-0.0 ≢ fault.Memory → all_variables c.args.heap.now c.args.objects.now c.args.signature.now c.args.named.now ≡ Err c.in_err-take_up.field-0.0 =
    λ ne. along_stop (one_variable c.args.heap.now c.args.objects.now c.args.signature.now) c.args.named.now c.names.at c.names.variables (c.in-Some.name.now, c.in-Some.value) c.in_err-take_up.field-0.0 _ (sym at) (c.in_err-take_up.ensures.fault ne) c.names.invariant in
    search rules
