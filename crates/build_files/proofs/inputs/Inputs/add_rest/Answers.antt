use Rattle.std.proofs.Common.{◌∙◌, [], refl, ◌≡◌, Some, slice_get, sym, ap, subst, List, length, get_or, IfSome, nat_lt}
use Rattle.world_api.proofs.Looking.{looks_same, looks_joined}
use Rattle.build_files.proofs.Copying.{grew_same, grew_joined}
use Rattle.build_files.proofs.Reading.{reads_joined, reads_none}
use Rattle.scons_base.specs.declared.ids.RuleId.{RuleId}
use Rattle.build_files.proofs.Marking.{copied_at, over_next}
use Rattle.build_files.proofs.inputs.Inputs.add_rest.Goals as goal

pub returns-in_err-add_named-clause-looks : goal.returns-in_err-add_named-clause-looks
returns-in_err-add_named-clause-looks g c = looks_joined _ _ _ _ c.loop-place.invariant.looks c.add_named.ensures.looks

pub returns-in_err-add_named-clause-grows : goal.returns-in_err-add_named-clause-grows
returns-in_err-add_named-clause-grows g c = grew_joined _ _ _ c.loop-place.invariant.grows c.add_named.ensures.grows

pub returns-in_err-add_named-clause-gone : goal.returns-in_err-add_named-clause-gone
returns-in_err-add_named-clause-gone g c = c.add_named.ensures.gone ∙ c.loop-place.invariant.gone

pub returns-in_err-add_named-clause-truth : goal.returns-in_err-add_named-clause-truth
returns-in_err-add_named-clause-truth g c = λ told b is. c.add_named.ensures.truth told b (c.loop-place.invariant.truth (c.add_named.ensures.looks.told.told told) b is)

pub loop-place-init : goal.loop-place-init
loop-place-init g c = record {
  looks = looks_same _ _;
  counts = refl;
  grows = grew_same c.args.graph.now;
  gone = refl;
  only = reads_none [] c.args.self.now;
  over = λ over. over;
  sought = λ n e. e;
  truth = λ told b is. is;
}

pub loop-place-preserved : goal.loop-place-preserved
loop-place-preserved g c = record {
  looks = looks_joined _ _ _ _ c.loop-place.invariant.looks c.add_named.ensures.looks;
  counts = c.in_ok-add_named.ensures.cause ∙ c.loop-place.invariant.counts;
  grows = grew_joined _ _ _ c.loop-place.invariant.grows c.add_named.ensures.grows;
  gone = c.add_named.ensures.gone ∙ c.loop-place.invariant.gone;
  only = reads_joined [] _ _ _ c.loop-place.invariant.only c.add_named.ensures.only;
  over = λ over.
      let at : slice_get c.loop-place.rules.items c.loop-place.place ≡ Some c.in-Some.rule =
      copied_at c.loop-place.rules.items c.loop-place.place c.get.result c.in-Some.rule (sym c.copied.ensures ∙ c.in-Some.is)
      (c.get.ensures.lookup.0 ∙ ap (λ (rs : List RuleId). nat_lt c.loop-place.place (length rs)) c.deref.ensures.value)
      (subst (λ (rs : List RuleId). IfSome c.get.result (λ x. x.now ≡ get_or rs c.loop-place.place x.now)) c.deref.ensures.value c.get.ensures.lookup.1) in
      over_next _ _ _ _ _ _ c.loop-place.place c.in-Some.rule at c.add_named.ensures.grows c.in_ok-add_named.ensures.looked c.in_ok-add_named.ensures.named (c.loop-place.invariant.over over);
  sought = λ n e. c.in_ok-add_named.ensures.looked.sought n (c.loop-place.invariant.sought n e);
  truth = λ told b is. c.add_named.ensures.truth told b (c.loop-place.invariant.truth (c.add_named.ensures.looks.told.told told) b is);
}
