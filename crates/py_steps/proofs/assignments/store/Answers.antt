use Rattle.std.proofs.Common.{Err, ap}
use Rattle.py_state.specs.Stores.{state_of}
use Rattle.py_steps.proofs.Stepping.{leads}
use Rattle.py_steps.proofs.Storing.{object_sets, object_refuses, plain_set_stops}
use Rattle.py_steps.proofs.assignments.store.Goals as goal

pub returns-in-Ok-clause-leads : goal.returns-in-Ok-clause-leads
returns-in-Ok-clause-leads g c = λ k f.
    object_sets g.H.Host.meaning k c.args.line c.in-Object.object c.args.base c.args.key c.args.value (state_of c.args.machine.now c.args.frame.now) f c.args.host.now c.set_index.new.self c.set_index.new.heap c.place.result
    c.place.ensures c.in-Object.is c.in-Ok.ensures.ok

pub returns-in-Err-clause-leads : goal.returns-in-Err-clause-leads
returns-in-Err-clause-leads g c = λ k f.
    object_refuses g.H.Host.meaning k c.args.line c.in-Object.object c.args.base c.args.key c.args.value (state_of c.args.machine.now c.args.frame.now) f c.args.host.now c.set_index.new.self c.set_index.new.heap c.place.result c.in-Err.refusal c.refused.result
    c.place.ensures c.in-Object.is (λ e. c.in-Err.ensures.refused (ap (λ x. Err x) e)) c.refused.ensures

pub returns-in-Err-set_index : goal.returns-in-Err-set_index
returns-in-Err-set_index g c = record {
  keeps = g.met.H.Host.kept.same c.args.host.now;
  leads = λ k f.
      leads {X = Unit {0}} g.H.Host.meaning k _ (f (state_of c.args.machine.now c.args.frame.now)) c.args.host.now (Err c.value_fault.result)
      (plain_set_stops (Unit {0}) c.args.line c.args.base c.args.key c.args.value (state_of c.args.machine.now c.args.frame.now) f c.in-Err-set_index.fault c.value_fault.result (f (state_of c.args.machine.now c.args.frame.now))
      c.in_default.not-Object c.in-Err-set_index.ensures.fault c.value_fault.ensures.stop);
}
