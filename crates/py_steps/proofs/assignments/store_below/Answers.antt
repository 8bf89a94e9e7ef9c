use Rattle.py_state.specs.Stores.{state_of}
use Rattle.py_steps.proofs.Storing.{stores_below, three_taken}
use Rattle.py_steps.proofs.assignments.store_below.Goals as goal

pub returns-clause-leads : goal.returns-clause-leads
returns-clause-leads g c = λ k.
    stores_below g.H.Host.meaning k c.args.line c.args.desk.now c.take-value.new.self c.take-key.result c.take-base.result c.take-value.result (state_of c.args.machine.now c.args.frame.now) (state_of c.store.new.machine c.args.frame.now) c.args.host.now c.store.new.host c.store.result
    (three_taken c.args.desk.now c.take-key.new.self c.take-base.new.self c.take-value.new.self c.take-key.result c.take-base.result c.take-value.result
    c.take-key.ensures.value c.take-key.ensures.left c.take-base.ensures.value c.take-base.ensures.left c.take-value.ensures.value c.take-value.ensures.left)
    (c.store.ensures.leads k)
