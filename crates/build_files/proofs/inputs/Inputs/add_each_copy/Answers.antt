use Rattle.std.proofs.Common.{◌∙◌, [], refl, ap, ◌≡◌, ◌<◌, sym, length, get_or, arith}
use Rattle.std.proofs.lemmas.List.{get_or_default}
use Rattle.scons_base.specs.declared.ids.NodeId.{NodeId}
use Rattle.world_api.proofs.Looking.{looks_same, looks_joined}
use Rattle.build_files.specs.declared.inputs.Inputs.{Inputs}
use Rattle.build_means.proofs.Lists.{true_false}
use Rattle.build_files.proofs.Copying.{grew_same, grew_joined}
use Rattle.build_files.proofs.Reading.{looked_only, reads_joined, reads_none}
use Rattle.build_files.proofs.Marking.{marks_none, puts_none, each_puts, each_sought}
use Rattle.build_files.proofs.Truths.{looked_on}
use Rattle.build_files.proofs.inputs.Inputs.add_each_copy.Goals as goal

pub returns-in_err-add_copy-clause-looks : goal.returns-in_err-add_copy-clause-looks
returns-in_err-add_copy-clause-looks g c = looks_joined _ _ _ _ c.loop-node.invariant.looks c.add_copy.ensures.looks

pub returns-in_err-add_copy-clause-grows : goal.returns-in_err-add_copy-clause-grows
returns-in_err-add_copy-clause-grows g c = grew_joined _ _ _ c.loop-node.invariant.grows c.add_copy.ensures.grows

pub returns-in_err-add_copy-clause-gone : goal.returns-in_err-add_copy-clause-gone
returns-in_err-add_copy-clause-gone g c = c.add_copy.ensures.gone ∙ c.loop-node.invariant.gone

pub returns-in_err-add_copy-clause-truth : goal.returns-in_err-add_copy-clause-truth
returns-in_err-add_copy-clause-truth g c = λ told b is. c.add_copy.ensures.truth told b (c.loop-node.invariant.truth (c.add_copy.ensures.looks.told.told told) b is)

pub returns-in_err-add_rule-clause-looks : goal.returns-in_err-add_rule-clause-looks
returns-in_err-add_rule-clause-looks g c = looks_joined _ _ _ _ c.loop-node.invariant.looks c.add_copy.ensures.looks

pub returns-in_err-add_rule-clause-grows : goal.returns-in_err-add_rule-clause-grows
returns-in_err-add_rule-clause-grows g c = grew_joined _ _ _ c.loop-node.invariant.grows c.add_copy.ensures.grows

pub returns-in_err-add_rule-clause-gone : goal.returns-in_err-add_rule-clause-gone
returns-in_err-add_rule-clause-gone g c = ap (λ (i : Inputs). i.gone) c.add_rule.ensures.looks ∙ (c.add_copy.ensures.gone ∙ c.loop-node.invariant.gone)

pub returns-in_err-add_rule-clause-only : goal.returns-in_err-add_rule-clause-only
returns-in_err-add_rule-clause-only g c = looked_only [] c.args.self.now _ _ c.add_rule.ensures.looks (reads_joined [] _ _ _ c.loop-node.invariant.only c.add_copy.ensures.only)

pub returns-in_err-add_rule-clause-truth : goal.returns-in_err-add_rule-clause-truth
returns-in_err-add_rule-clause-truth g c = λ told b is. looked_on b _ _ _ _ c.add_rule.ensures.looks (c.add_copy.ensures.truth told b (c.loop-node.invariant.truth (c.add_copy.ensures.looks.told.told told) b is))

pub loop-node-init : goal.loop-node-init
loop-node-init g c = record {
  looks = looks_same _ _;
  counts = refl;
  grows = grew_same c.args.graph.now;
  gone = refl;
  only = reads_none [] c.args.self.now;
  puts = puts_none _ _ _ _ _ (marks_none _ _);
  sought = λ n e. true_false (sym e);
  truth = λ told b is. is;
}

pub loop-node-preserved : goal.loop-node-preserved
loop-node-preserved g c = record {
  looks = looks_joined _ _ _ _ c.loop-node.invariant.looks c.add_copy.ensures.looks;
  counts = c.in_ok-add_copy.ensures.cause ∙ c.loop-node.invariant.counts;
  grows = grew_joined _ _ _ c.loop-node.invariant.grows c.add_copy.ensures.grows;
  only = looked_only [] c.args.self.now _ _ c.add_rule.ensures.looks (reads_joined [] _ _ _ c.loop-node.invariant.only c.add_copy.ensures.only);
  gone = ap (λ (i : Inputs). i.gone) c.add_rule.ensures.looks ∙ (c.add_copy.ensures.gone ∙ c.loop-node.invariant.gone);
  puts = each_puts _ _ _ _ _ _ _ _ _ _ c.add_copy.ensures.grows c.loop-node.invariant.puts c.add_copy.ensures.marks c.in_ok-add_rule.ensures.looked;
  sought =
      let within : c.loop-node.node-index < length c.args.nodes.now = omega (arith, c.loop-node-test.true) in
      let node : NodeId = get_or c.args.nodes.now c.loop-node.node-index (record { 0 = 0 }) in
      let is_node : node ≡ get_or c.args.nodes.now c.loop-node.node-index node = get_or_default c.args.nodes.now c.loop-node.node-index (record { 0 = 0 }) node within in
      each_sought _ _ _ _ _ _ _ c.args.nodes.now c.loop-node.node-index node within is_node c.loop-node.invariant.sought c.add_copy.ensures.marks c.in_ok-add_rule.ensures.looked
      c.add_rule.ensures.looks c.in_ok-add_copy.ensures.settled c.in_ok-add_rule.ensures.marked;
  truth = λ told b is. looked_on b _ _ _ _ c.add_rule.ensures.looks (c.add_copy.ensures.truth told b (c.loop-node.invariant.truth (c.add_copy.ensures.looks.told.told told) b is));
}
