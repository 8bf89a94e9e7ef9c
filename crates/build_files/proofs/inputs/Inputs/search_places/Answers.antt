use Rattle.std.proofs.Common.{◌∙◌, ◌∷◌, [], None, refl, sym}
use Rattle.world_api.proofs.Looking.{looks_same, looks_joined}
use Rattle.build_means.specs.Copies.{is_known}
use Rattle.build_means.specs.Finds.{places_in}
use Rattle.build_files.specs.Searched.{first_known}
use Rattle.build_files.proofs.Candidates.{found_in}
use Rattle.build_files.proofs.Marking.{marks_none, marks_joined}
use Rattle.build_files.proofs.Noting.{more_same, more_joined}
use Rattle.build_files.proofs.Reading.{reads_joined, reads_none}
use Rattle.build_files.proofs.Searching.{none_more, none_all, found_here, no_node, node_none, found_one, places_same}
use Rattle.build_files.proofs.inputs.Inputs.search_places.Goals as goal

pub returns-in_err-node-clause-looks : goal.returns-in_err-node-clause-looks
returns-in_err-node-clause-looks g c = looks_joined _ _ _ _ c.loop-path.invariant.looks c.known.ensures.looks

pub returns-in_err-node-clause-grows : goal.returns-in_err-node-clause-grows
returns-in_err-node-clause-grows g c = more_joined _ _ _ c.loop-path.invariant.grows c.known.ensures.grows

pub returns-in_err-node-clause-gone : goal.returns-in_err-node-clause-gone
returns-in_err-node-clause-gone g c = c.known.ensures.gone ∙ c.loop-path.invariant.gone

pub returns-in_err-node-clause-marks : goal.returns-in_err-node-clause-marks
returns-in_err-node-clause-marks g c = marks_joined _ _ _ _ _ _ c.loop-path.invariant.marks c.known.ensures.marks

pub returns-in_err-node-clause-truth : goal.returns-in_err-node-clause-truth
returns-in_err-node-clause-truth g c =
    λ told b is. c.known.ensures.truth told b (c.loop-path.invariant.truth (c.known.ensures.looks.told.told told) b is)

pub loop-path-init : goal.loop-path-init
loop-path-init g c = record {
  looks = looks_same _ _;
  counts = refl;
  grows = more_same c.args.graph.now;
  gone = refl;
  only = reads_none [] c.args.self.now;
  marks = marks_none _ _;
  truth = λ told b is. is;
  passed = λ told b is. refl;
}

pub loop-path-preserved : goal.loop-path-preserved
loop-path-preserved g c = record {
  looks = looks_joined _ _ _ _ c.loop-path.invariant.looks c.known.ensures.looks;
  counts = c.in_ok-node.ensures.cause ∙ c.loop-path.invariant.counts;
  grows = more_joined _ _ _ c.loop-path.invariant.grows c.known.ensures.grows;
  gone = c.known.ensures.gone ∙ c.loop-path.invariant.gone;
  only = reads_joined [] _ _ _ c.loop-path.invariant.only c.known.ensures.only;
  marks = marks_joined _ _ _ _ _ _ c.loop-path.invariant.marks c.known.ensures.marks;
  truth = λ told b is. c.known.ensures.truth told b (c.loop-path.invariant.truth (c.known.ensures.looks.told.told told) b is);
  passed = λ told b is.
      let before = c.known.ensures.looks.told.told told in
      let here = c.loop-path.invariant.truth before b is in
      none_more (is_known b.graph b.tree) (λ path. path ∷ []) _ c.loop-path.path-index c.path-item.result c.loop-path-test.true c.path-item.is
      (c.loop-path.invariant.passed before b is)
      (no_node c.known.new.graph (first_known b (c.path-item.result ∷ [])) c.in_ok-node.node (sym c.is_some.ensures ∙ c.if-is_some.false)
      (found_one b c.known.new.graph c.path-item.result c.in_ok-node.node (c.in_ok-node.ensures.known told b here)));
}

pub returns-then-is_some-clause-looks : goal.returns-then-is_some-clause-looks
returns-then-is_some-clause-looks g c = looks_joined _ _ _ _ c.loop-path.invariant.looks c.known.ensures.looks

pub returns-then-is_some-clause-grows : goal.returns-then-is_some-clause-grows
returns-then-is_some-clause-grows g c = more_joined _ _ _ c.loop-path.invariant.grows c.known.ensures.grows

pub returns-then-is_some-clause-gone : goal.returns-then-is_some-clause-gone
returns-then-is_some-clause-gone g c = c.known.ensures.gone ∙ c.loop-path.invariant.gone

pub returns-then-is_some-clause-marks : goal.returns-then-is_some-clause-marks
returns-then-is_some-clause-marks g c = marks_joined _ _ _ _ _ _ c.loop-path.invariant.marks c.known.ensures.marks

pub returns-then-is_some-clause-truth : goal.returns-then-is_some-clause-truth
returns-then-is_some-clause-truth g c =
    λ told b is. c.known.ensures.truth told b (c.loop-path.invariant.truth (c.known.ensures.looks.told.told told) b is)

pub returns-then-is_some-clause-found : goal.returns-then-is_some-clause-found
returns-then-is_some-clause-found g c = λ told b is.
    let before = c.known.ensures.looks.told.told told in
    let here = c.loop-path.invariant.truth before b is in
    let g' = c.known.new.graph in
    found_in b g' c.as_slice-path-items.result.now (places_in b.graph c.args.name.now c.args.dir.now) c.in_ok-node.node
    (c.as_slice-path-items.ensures ∙ c.in_ok-places.ensures.places ∙ places_same b c.args.graph.now c.args.self.now _ c.args.name.now c.args.dir.now is)
    (found_here (is_known b.graph b.tree) (λ path. path ∷ []) g' c.as_slice-path-items.result.now c.loop-path.path-index c.path-item.result c.in_ok-node.node c.loop-path-test.true
    c.path-item.is (c.loop-path.invariant.passed before b is) (sym c.is_some.ensures ∙ c.if-is_some.true)
    (found_one b g' c.path-item.result c.in_ok-node.node (c.in_ok-node.ensures.known told b here)))

pub returns-clause-found : goal.returns-clause-found
returns-clause-found g c = λ told b is.
    found_in b c.loop-path.graph c.as_slice-path-items.result.now (places_in b.graph c.args.name.now c.args.dir.now) None
    (c.as_slice-path-items.ensures ∙ c.in_ok-places.ensures.places ∙ places_same b c.args.graph.now c.args.self.now _ c.args.name.now c.args.dir.now is)
    (node_none c.loop-path.graph _ (none_all (is_known b.graph b.tree) (λ path. path ∷ []) c.as_slice-path-items.result.now c.loop-path.path-index c.loop-path-test.false
    (c.loop-path.invariant.passed told b is)))
