use Rattle.std.proofs.Common.{◌∙◌, ap, Err}
use Rattle.py_state.specs.Stores.{state_of}
use Rattle.py_steps.proofs.Asking.{attribute_gives, attribute_refuses}
use Rattle.py_steps.proofs.links.attribute.Goals as goal

pub returns-in-Ok-clause-leads : goal.returns-in-Ok-clause-leads
returns-in-Ok-clause-leads g c =
    λ k f. attribute_gives g.H.Host.meaning k c.args.host.now c.attribute.new.self c.args.line c.args.object.0 c.args.name.now c.as_str.result.now c.in-Ok.value (state_of c.args.machine.now c.args.frame.now) f c.attribute.new.heap c.place.result c.place.ensures c.as_str.ensures c.in-Ok.ensures.ok

pub returns-in-Err-clause-leads : goal.returns-in-Err-clause-leads
returns-in-Err-clause-leads g c =
    λ k f. attribute_refuses g.H.Host.meaning k c.args.host.now c.attribute.new.self c.args.line c.args.object.0 c.args.name.now c.as_str.result.now (state_of c.args.machine.now c.args.frame.now) f c.attribute.new.heap c.place.result c.in-Err.refusal c.refused.result c.place.ensures c.as_str.ensures
    (λ e. c.attribute.ensures.refused (c.in-Err.is ∙ ap (λ x. Err x) e)) c.refused.ensures
