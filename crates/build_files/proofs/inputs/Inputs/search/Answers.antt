use Rattle.std.proofs.Common.{◌∙◌, [], None, refl, sym, subst}
use Rattle.std.specs.Str.{IsUtf8}
use Rattle.world_api.proofs.Looking.{looks_same, looks_joined}
use Rattle.build_means.specs.Copies.{is_known}
use Rattle.build_means.specs.Finds.{places_in}
use Rattle.build_files.specs.Searched.{first_known}
use Rattle.build_files.proofs.Candidates.{found_in_dirs, found_nothing}
use Rattle.build_files.proofs.Marking.{marks_none, marks_joined}
use Rattle.build_files.proofs.Noting.{more_same, more_joined}
use Rattle.build_files.proofs.Reading.{reads_joined, reads_none}
use Rattle.build_files.proofs.Searching.{none_more, none_all, found_here, no_node, node_none}
use Rattle.build_files.proofs.inputs.Inputs.search.Goals as goal

pub returns-in_err-node-clause-looks : goal.returns-in_err-node-clause-looks
returns-in_err-node-clause-looks g c = looks_joined _ _ _ _ c.loop-dir.invariant.looks c.search_dir.ensures.looks

pub returns-in_err-node-clause-grows : goal.returns-in_err-node-clause-grows
returns-in_err-node-clause-grows g c = more_joined _ _ _ c.loop-dir.invariant.grows c.search_dir.ensures.grows

pub returns-in_err-node-clause-gone : goal.returns-in_err-node-clause-gone
returns-in_err-node-clause-gone g c = c.search_dir.ensures.gone ∙ c.loop-dir.invariant.gone

pub returns-in_err-node-clause-marks : goal.returns-in_err-node-clause-marks
returns-in_err-node-clause-marks g c = marks_joined _ _ _ _ _ _ c.loop-dir.invariant.marks c.search_dir.ensures.marks

pub returns-in_err-node-clause-truth : goal.returns-in_err-node-clause-truth
returns-in_err-node-clause-truth g c =
    λ told b is. c.search_dir.ensures.truth told b (c.loop-dir.invariant.truth (c.search_dir.ensures.looks.told.told told) b is)

pub returns-in_default-clause-found : goal.returns-in_default-clause-found
returns-in_default-clause-found g c = λ paths file are told b is.
    found_nothing b c.args.graph.now paths file c.args.include.now (λ text. c.in_default.ensures.cases.0 (subst IsUtf8 (sym c.as_slice.ensures) text))

pub loop-dir-init : goal.loop-dir-init
loop-dir-init g c = record {
  looks = looks_same _ _;
  counts = refl;
  grows = more_same c.args.graph.now;
  gone = refl;
  only = reads_none [] c.args.self.now;
  marks = marks_none _ _;
  truth = λ told b is. is;
  passed = λ told b is. refl;
}

pub loop-dir-preserved : goal.loop-dir-preserved
loop-dir-preserved g c = record {
  looks = looks_joined _ _ _ _ c.loop-dir.invariant.looks c.search_dir.ensures.looks;
  counts = c.in_ok-node.ensures.cause ∙ c.loop-dir.invariant.counts;
  grows = more_joined _ _ _ c.loop-dir.invariant.grows c.search_dir.ensures.grows;
  gone = c.search_dir.ensures.gone ∙ c.loop-dir.invariant.gone;
  only = reads_joined [] _ _ _ c.loop-dir.invariant.only c.search_dir.ensures.only;
  marks = marks_joined _ _ _ _ _ _ c.loop-dir.invariant.marks c.search_dir.ensures.marks;
  truth = λ told b is. c.search_dir.ensures.truth told b (c.loop-dir.invariant.truth (c.search_dir.ensures.looks.told.told told) b is);
  passed = λ told b is.
      let before = c.search_dir.ensures.looks.told.told told in
      let here = c.loop-dir.invariant.truth before b is in
      none_more (is_known b.graph b.tree) (places_in b.graph c.in-Ok.name.now) _ c.loop-dir.dir-index c.dir-item.result c.loop-dir-test.true c.dir-item.is
      (c.loop-dir.invariant.passed before b is)
      (no_node c.search_dir.new.graph (first_known b (places_in b.graph c.in-Ok.name.now c.dir-item.result)) c.in_ok-node.node (sym c.is_some.ensures ∙ c.if-is_some.false) (c.in_ok-node.ensures.found told b here));
}

pub returns-then-is_some-clause-looks : goal.returns-then-is_some-clause-looks
returns-then-is_some-clause-looks g c = looks_joined _ _ _ _ c.loop-dir.invariant.looks c.search_dir.ensures.looks

pub returns-then-is_some-clause-grows : goal.returns-then-is_some-clause-grows
returns-then-is_some-clause-grows g c = more_joined _ _ _ c.loop-dir.invariant.grows c.search_dir.ensures.grows

pub returns-then-is_some-clause-gone : goal.returns-then-is_some-clause-gone
returns-then-is_some-clause-gone g c = c.search_dir.ensures.gone ∙ c.loop-dir.invariant.gone

pub returns-then-is_some-clause-marks : goal.returns-then-is_some-clause-marks
returns-then-is_some-clause-marks g c = marks_joined _ _ _ _ _ _ c.loop-dir.invariant.marks c.search_dir.ensures.marks

pub returns-then-is_some-clause-truth : goal.returns-then-is_some-clause-truth
returns-then-is_some-clause-truth g c =
    λ told b is. c.search_dir.ensures.truth told b (c.loop-dir.invariant.truth (c.search_dir.ensures.looks.told.told told) b is)

pub returns-then-is_some-clause-found : goal.returns-then-is_some-clause-found
returns-then-is_some-clause-found g c = λ paths file are told b is.
    let before = c.search_dir.ensures.looks.told.told told in
    let here = c.loop-dir.invariant.truth before b is in
    found_in_dirs b c.search_dir.new.graph paths file c.args.include.now c.in-Ok.name.now c.in_order-dir-items.result.now c.in_ok-node.node
    (subst IsUtf8 c.as_slice.ensures c.in-Ok.ensures.cases.1) (c.in-Ok.ensures.cases.0 ∙ c.as_slice.ensures) (c.in_order-dir-items.ensures paths file are)
    (found_here (is_known b.graph b.tree) (places_in b.graph c.in-Ok.name.now) c.search_dir.new.graph c.in_order-dir-items.result.now c.loop-dir.dir-index c.dir-item.result c.in_ok-node.node
    c.loop-dir-test.true c.dir-item.is (c.loop-dir.invariant.passed before b is) (sym c.is_some.ensures ∙ c.if-is_some.true) (c.in_ok-node.ensures.found told b here))

pub returns-clause-found : goal.returns-clause-found
returns-clause-found g c = λ paths file are told b is.
    found_in_dirs b c.loop-dir.graph paths file c.args.include.now c.in-Ok.name.now c.in_order-dir-items.result.now None
    (subst IsUtf8 c.as_slice.ensures c.in-Ok.ensures.cases.1) (c.in-Ok.ensures.cases.0 ∙ c.as_slice.ensures) (c.in_order-dir-items.ensures paths file are)
    (node_none c.loop-dir.graph _ (none_all (is_known b.graph b.tree) (places_in b.graph c.in-Ok.name.now) c.in_order-dir-items.result.now c.loop-dir.dir-index c.loop-dir-test.false (c.loop-dir.invariant.passed told b is)))
