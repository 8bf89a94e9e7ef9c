use Rattle.std.proofs.Common.{◌∙◌, ap, Err}
use Rattle.py_state.specs.Stores.{state_of}
use Rattle.py_steps.proofs.Asking.{object_gives, object_refuses, item_stops}
use Rattle.py_steps.proofs.links.item.Goals as goal

pub returns-in-Ok-clause-leads : goal.returns-in-Ok-clause-leads
returns-in-Ok-clause-leads g c =
    λ k f. object_gives g.H.Host.meaning k c.args.host.now c.index.new.self c.args.line c.args.base c.args.key c.in-Ok.value c.in-Object.object (state_of c.args.machine.now c.args.frame.now) f c.index.new.heap c.place.result c.place.ensures c.in-Object.is c.in-Ok.ensures.ok

pub returns-in-Err-clause-leads : goal.returns-in-Err-clause-leads
returns-in-Err-clause-leads g c =
    λ k f. object_refuses g.H.Host.meaning k c.args.host.now c.index.new.self c.args.line c.args.base c.args.key c.in-Object.object (state_of c.args.machine.now c.args.frame.now) f c.index.new.heap c.place.result c.in-Err.refusal c.refused.result c.place.ensures c.in-Object.is
    (λ e. c.index.ensures.refused (c.in-Err.is ∙ ap (λ x. Err x) e)) c.refused.ensures

pub returns-in-Err-index-clause-leads : goal.returns-in-Err-index-clause-leads
returns-in-Err-index-clause-leads g c =
    λ k f. item_stops g.H.Host.meaning k c.args.host.now c.args.line c.args.base c.args.key (state_of c.args.machine.now c.args.frame.now) f c.in-Err-index.fault c.value_fault.result c.in_default.not-Object c.in-Err-index.ensures.fault c.value_fault.ensures.stop
