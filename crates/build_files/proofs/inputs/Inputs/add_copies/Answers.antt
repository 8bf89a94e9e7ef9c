use Rattle.std.proofs.Common.{◌∙◌, sym}
use Rattle.world_api.proofs.Looking.{looks_joined}
use Rattle.build_files.proofs.Copying.{grew_same, grew_joined}
use Rattle.build_files.proofs.Marking.{copies_over}
use Rattle.build_files.proofs.inputs.Inputs.add_copies.Goals as goal

pub returns-then-not-has_copies-clause-grows : goal.returns-then-not-has_copies-clause-grows
returns-then-not-has_copies-clause-grows g c = grew_same c.args.graph.now

pub returns-clause-looks : goal.returns-clause-looks
returns-clause-looks g c = looks_joined _ _ _ _ c.add_each_copy.ensures.looks c.add_rest.ensures.looks

pub returns-clause-grows : goal.returns-clause-grows
returns-clause-grows g c = grew_joined _ _ _ c.add_each_copy.ensures.grows c.add_rest.ensures.grows

pub returns-clause-gone : goal.returns-clause-gone
returns-clause-gone g c = c.add_rest.ensures.gone ∙ c.add_each_copy.ensures.gone

pub returns-clause-truth : goal.returns-clause-truth
returns-clause-truth g c = λ told b is. c.add_rest.ensures.truth told b (c.add_each_copy.ensures.truth (c.add_rest.ensures.looks.told.told told) b is)

pub returns-clause-looked : goal.returns-clause-looked
returns-clause-looked g c =
    copies_over _ _ _ _ _ _ _ _ c.args.nodes.now c.add_rest.result c.new-rules.ensures.items (sym c.has_copies.ensures ∙ c.if-not-has_copies.false) c.add_each_copy.ensures.grows c.in_ok-add_each_copy.ensures.looked
    c.in_ok-add_each_copy.ensures.sought c.add_rest.ensures.looked c.add_rest.ensures.sought
