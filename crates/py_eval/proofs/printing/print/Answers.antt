use Rattle.std.proofs.Common.{Result, Err, ap}
use Rattle.std.specs.String.{string_bytes}
use Rattle.py_host.specs.declared.refusal.HostRefusal.{HostRefusal}
use Rattle.py_state.specs.Stores.{Store, state_of, state_by}
use Rattle.py_eval.proofs.Giving.{print_fails, print_done, print_not_done}
use Rattle.py_eval.proofs.printing.print.Goals as goal

pub returns-in-Err-clause-gives : goal.returns-in-Err-clause-gives
returns-in-Err-clause-gives g c = λ calls.
    print_fails g.H.Host.meaning calls c.args.line (state_of c.args.machine.now c.args.frame.now) (state_of c.printed.new.machine c.args.frame.now) c.args.values.now c.in-Err.fault c.value_fault.result c.args.host.now c.in-Err.ensures.fault c.value_fault.ensures.stop

pub returns-in-Ok-print-clause-gives : goal.returns-in-Ok-print-clause-gives
returns-in-Ok-print-clause-gives g c = λ calls.
    print_done g.H.Host.meaning calls c.args.line (state_of c.args.machine.now c.args.frame.now) (state_of c.printed.new.machine c.args.frame.now) c.args.values.now c.as_str.result.now (string_bytes c.in-Ok.text) c.printed.new.machine.budget c.args.host.now c.print.new.self c.in-Ok.ensures.ok c.as_str.ensures.value
    (ap (λ (x : Store). state_by x c.args.frame.now) c.printed.ensures.stays) c.in-Ok-print.ensures.ok

pub returns-clause-gives : goal.returns-clause-gives
returns-clause-gives g c = λ calls.
    print_not_done g.H.Host.meaning calls c.args.line (state_of c.args.machine.now c.args.frame.now) (state_of c.printed.new.machine c.args.frame.now) c.args.values.now c.as_str.result.now (string_bytes c.in-Ok.text) c.printed.new.machine.budget c.in-Err-print.refusal c.refused.result c.args.host.now c.print.new.self c.in-Ok.ensures.ok c.as_str.ensures.value
    (λ e. c.in-Err-print.ensures.refused (ap (λ (x : HostRefusal). let r : Result (Unit {0}) HostRefusal = Err x in r) e)) c.refused.ensures
