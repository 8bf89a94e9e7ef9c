use Rattle.std.proofs.Common.{map, Some}
use Rattle.std.proofs.lemmas.Result.{err_from_is_err_and}
use Rattle.py_tree.specs.Tree.{trees, link_tree}
use Rattle.py_meaning.specs.Jobs.{links}
use Rattle.py_meaning.specs.Plans.{first}
use Rattle.py_state.specs.Stores.{store_of, state_of}
use Rattle.py_steps.specs.Leads.{left_at, in_place_at}
use Rattle.py_steps.proofs.Linking.{attribute_is, attribute_stays, no_object}
use Rattle.py_steps.proofs.Stepping.{leads, leads_no_more, leads_between, stops_before}
use Rattle.py_steps.proofs.links.attribute_link.Goals as goal

pub returns-in_err-value-in-Object-clause-leads : goal.returns-in_err-value-in-Object-clause-leads
returns-in_err-value-in-Object-clause-leads g c =
    let p = err_from_is_err_and c.from_residual.result c.from_residual.ensures.1 in
    let s = state_of c.args.machine.now c.args.frame.now in
    let more = trees (map link_tree c.args.rest.now) in
    λ k. leads_no_more g.H.Host.meaning k _ (left_at c.args.desk.now c.attribute.new.machine c.args.frame.now) c.args.host.now c.attribute.new.host c.from_residual.result p.0 c.in_err-value-in-Object.field-0.0 p.1 p.2
    (stops_before g.H.Host.meaning k _ _ c.args.host.now c.attribute.new.host c.in_err-value-in-Object.field-0.0
    (attribute_is c.args.line c.args.name.now more c.top.result c.in-Object.object c.args.desk.now s c.top.ensures c.in-Object.is)
    (c.in_err-value-in-Object.ensures.leads k (λ y s1. first (links y (Some c.args.line) more) s1 (in_place_at c.args.desk.now))))

pub returns-in_ok-push-in-Object-clause-leads : goal.returns-in_ok-push-in-Object-clause-leads
returns-in_ok-push-in-Object-clause-leads g c =
    let s = state_of c.args.machine.now c.args.frame.now in
    let more = trees (map link_tree c.args.rest.now) in
    λ k. leads_between g.H.Host.meaning k _ _ _ _ c.args.host.now c.attribute.new.host
    (attribute_is c.args.line c.args.name.now more c.top.result c.in-Object.object c.args.desk.now s c.top.ensures c.in-Object.is)
    (attribute_stays c.args.line c.in_ok-value-in-Object.value c.args.rest c.args.desk.now c.take-object.new.self c.give.new.self c.push.new.self (state_of c.attribute.new.machine c.args.frame.now) c.take-object.ensures.left c.in_ok-give-in-Object.ensures c.in_ok-push-in-Object.ensures)
    (c.in_ok-value-in-Object.ensures.leads k (λ y s1. first (links y (Some c.args.line) more) s1 (in_place_at c.args.desk.now)))

pub returns-in_default-clause-leads : goal.returns-in_default-clause-leads
returns-in_default-clause-leads g c =
    λ k. leads g.H.Host.meaning k _ (left_at c.method_link.new.desk c.args.machine.now c.args.frame.now) c.args.host.now c.method_link.result
    (c.method_link.ensures (store_of c.args.machine.now) (no_object c.top.result _ c.top.ensures c.in_default.not-Object))
