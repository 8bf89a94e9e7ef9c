use Rattle.std.proofs.Common.{◌∙◌, [], List, refl, sym, subst}
use Rattle.scons_base.specs.declared.ids.NodeId.{NodeId}
use Rattle.world_api.proofs.Looking.{looks_same, looks_joined}
use Rattle.build_means.specs.Finds.{found_for}
use Rattle.build_files.specs.Searched.{AreNodesOf}
use Rattle.build_files.proofs.Marking.{marks_none, marks_joined}
use Rattle.build_files.proofs.Noting.{more_same, more_joined}
use Rattle.build_files.proofs.Reading.{reads_joined, reads_none}
use Rattle.build_files.proofs.Searching.{meant_more, meant_all}
use Rattle.build_files.proofs.inputs.Inputs.search_each.Goals as goal

pub returns-in_err-node-clause-looks : goal.returns-in_err-node-clause-looks
returns-in_err-node-clause-looks g c = looks_joined _ _ _ _ c.loop-include.invariant.looks c.search.ensures.looks

pub returns-in_err-node-clause-grows : goal.returns-in_err-node-clause-grows
returns-in_err-node-clause-grows g c = more_joined _ _ _ c.loop-include.invariant.grows c.search.ensures.grows

pub returns-in_err-node-clause-gone : goal.returns-in_err-node-clause-gone
returns-in_err-node-clause-gone g c = c.search.ensures.gone ∙ c.loop-include.invariant.gone

pub returns-in_err-node-clause-marks : goal.returns-in_err-node-clause-marks
returns-in_err-node-clause-marks g c = marks_joined _ _ _ _ _ _ c.loop-include.invariant.marks c.search.ensures.marks

pub returns-in_err-node-clause-truth : goal.returns-in_err-node-clause-truth
returns-in_err-node-clause-truth g c =
    λ told b is. c.search.ensures.truth told b (c.loop-include.invariant.truth (c.search.ensures.looks.told.told told) b is)

pub returns-in_err-push_found-clause-looks : goal.returns-in_err-push_found-clause-looks
returns-in_err-push_found-clause-looks g c = looks_joined _ _ _ _ c.loop-include.invariant.looks c.search.ensures.looks

pub returns-in_err-push_found-clause-grows : goal.returns-in_err-push_found-clause-grows
returns-in_err-push_found-clause-grows g c = more_joined _ _ _ c.loop-include.invariant.grows c.search.ensures.grows

pub returns-in_err-push_found-clause-gone : goal.returns-in_err-push_found-clause-gone
returns-in_err-push_found-clause-gone g c = c.search.ensures.gone ∙ c.loop-include.invariant.gone

pub returns-in_err-push_found-clause-marks : goal.returns-in_err-push_found-clause-marks
returns-in_err-push_found-clause-marks g c = marks_joined _ _ _ _ _ _ c.loop-include.invariant.marks c.search.ensures.marks

pub returns-in_err-push_found-clause-truth : goal.returns-in_err-push_found-clause-truth
returns-in_err-push_found-clause-truth g c =
    λ told b is. c.search.ensures.truth told b (c.loop-include.invariant.truth (c.search.ensures.looks.told.told told) b is)

pub loop-include-init : goal.loop-include-init
loop-include-init g c = record {
  looks = looks_same _ _;
  counts = refl;
  grows = more_same c.args.graph.now;
  gone = refl;
  only = reads_none [] c.args.self.now;
  marks = marks_none _ _;
  truth = λ told b is. is;
  found = λ paths file are told b is. subst (λ (nodes : List NodeId). AreNodesOf c.args.graph.now [] nodes) (sym c.new-found.ensures.items) tt;
}

pub loop-include-preserved : goal.loop-include-preserved
loop-include-preserved g c = record {
  looks = looks_joined _ _ _ _ c.loop-include.invariant.looks c.search.ensures.looks;
  counts = c.in_ok-node.ensures.cause ∙ c.loop-include.invariant.counts;
  grows = more_joined _ _ _ c.loop-include.invariant.grows c.search.ensures.grows;
  gone = c.search.ensures.gone ∙ c.loop-include.invariant.gone;
  only = reads_joined [] _ _ _ c.loop-include.invariant.only c.search.ensures.only;
  marks = marks_joined _ _ _ _ _ _ c.loop-include.invariant.marks c.search.ensures.marks;
  truth = λ told b is. c.search.ensures.truth told b (c.loop-include.invariant.truth (c.search.ensures.looks.told.told told) b is);
  found = λ paths file are told b is.
      let before = c.search.ensures.looks.told.told told in
      let here = c.loop-include.invariant.truth before b is in
      meant_more _ _ (found_for b.graph b.tree paths file) _ c.loop-include.include-index c.include-item.result _ _ _ c.loop-include-test.true c.include-item.is
      c.search.ensures.grows (c.loop-include.invariant.found paths file are before b is)
      (c.in_ok-node.ensures.found paths file are told b here) c.in_ok-push_found.ensures;
}

pub returns-clause-found : goal.returns-clause-found
returns-clause-found g c = λ paths file are told b is.
    meant_all c.loop-include.graph (found_for b.graph b.tree paths file) c.args.includes.now c.loop-include.include-index c.loop-include.found.items c.loop-include-test.false (c.loop-include.invariant.found paths file are told b is)
