use Rattle.std.proofs.Common.{map, refl}
use Rattle.py_tree.specs.Tree.{trees, attribute, argument_tree, call, expr_tree, index, slice}
use Rattle.py_tree.specs.declared.expr.Link.TheVariants as link'
use Rattle.py_tree.proofs.Views.{link_tree-Attribute, link_tree-Call, link_tree-Index}
use Rattle.py_state.specs.Stores.{state_of}
use Rattle.py_steps.specs.Leads.{left_at}
use Rattle.py_steps.specs.Todos.{end_tree}
use Rattle.py_steps.proofs.Linking.{links_end, links_first, follows_first, value_call_comes, index_comes, slice_tree}
use Rattle.py_steps.proofs.Stepping.{leads_on, leads_from}
use Rattle.py_steps.proofs.links.link.Goals as goal

pub returns-in_default-clause-leads : goal.returns-in_default-clause-leads
returns-in_default-clause-leads g c =
    λ k. leads_on (links_end c.args.named c.args.links.now c.args.desk.now c.keep.new.self (state_of c.args.machine.now c.args.frame.now) c.in_default.ensures.cases c.in_ok-keep.ensures) refl

pub returns-in-Attribute-clause-leads : goal.returns-in-Attribute-clause-leads
returns-in-Attribute-clause-leads g c =
    λ k. leads_from g.H.Host.meaning k _ _ (left_at c.attribute_link.new.desk c.attribute_link.new.machine c.args.frame.now) c.args.host.now c.attribute_link.new.host c.attribute_link.result
    (follows_first g.H.Host.meaning k c.args.named c.args.links.now c.in-Some.rest.now c.in-Some.first.now (link'.Attribute c.in-Attribute.line c.in-Attribute.name) (attribute c.in-Attribute.line c.in-Attribute.name) c.args.desk.now (state_of c.args.machine.now c.args.frame.now) c.args.host.now
    c.in-Some.ensures.cases.0 c.in-Attribute.is (link_tree-Attribute c.in-Attribute.line c.in-Attribute.name))
    (c.attribute_link.ensures.leads k)

pub returns-in_ok-call_link-in-Call-clause-leads : goal.returns-in_ok-call_link-in-Call-clause-leads
returns-in_ok-call_link-in-Call-clause-leads g c =
    let s = state_of c.args.machine.now c.args.frame.now in
    λ k. leads_on (links_first c.args.named c.args.links.now c.in-Some.rest.now c.in-Some.first.now (link'.Call c.in-Call.line c.in-Call.arguments) (call c.in-Call.line (trees (map argument_tree c.in-Call.arguments.items))) c.args.desk.now s (left_at c.call_link.new.desk c.args.machine.now c.args.frame.now)
    c.in-Some.ensures.cases.0 c.in-Call.is (link_tree-Call c.in-Call.line c.in-Call.arguments)
    (value_call_comes c.args.named c.in-Call.line c.unwrap_or-line.result c.as_slice.result c.in-Call.arguments c.in-Some.rest c.args.desk.now c.call_link.new.desk s c.unwrap_or-line.ensures c.as_slice.ensures.value c.in_ok-call_link-in-Call.ensures)) refl

pub returns-in_ok-index_link-in-Index-clause-leads : goal.returns-in_ok-index_link-in-Index-clause-leads
returns-in_ok-index_link-in-Index-clause-leads g c =
    let s = state_of c.args.machine.now c.args.frame.now in
    λ k. leads_on (links_first c.args.named c.args.links.now c.in-Some.rest.now c.in-Some.first.now (link'.Index c.in-Index.line c.in-Index.index) (index c.in-Index.line (expr_tree c.in-Index.index.value)) c.args.desk.now s (left_at c.index_link.new.desk c.args.machine.now c.args.frame.now)
    c.in-Some.ensures.cases.0 c.in-Index.is (link_tree-Index c.in-Index.line c.in-Index.index)
    (index_comes c.args.named c.in-Index.line c.deref.result c.in-Index.index c.in-Some.rest c.args.desk.now c.index_link.new.desk s c.deref.ensures c.in_ok-index_link-in-Index.ensures)) refl

pub returns-in_ok-slice_link-in-Slice-clause-leads : goal.returns-in_ok-slice_link-in-Slice-clause-leads
returns-in_ok-slice_link-in-Slice-clause-leads g c =
    let s = state_of c.args.machine.now c.args.frame.now in
    λ k. leads_on (links_first c.args.named c.args.links.now c.in-Some.rest.now c.in-Some.first.now (link'.Slice c.in-Slice.line c.in-Slice.lower c.in-Slice.upper) (slice c.in-Slice.line (end_tree c.in-Slice.lower) (end_tree c.in-Slice.upper)) c.args.desk.now s (left_at c.slice_link.new.desk c.args.machine.now c.args.frame.now)
    c.in-Some.ensures.cases.0 c.in-Slice.is (slice_tree c.in-Slice.line c.in-Slice.lower c.in-Slice.upper)
    (c.in_ok-slice_link-in-Slice.ensures s)) refl
