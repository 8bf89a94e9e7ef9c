use Rattle.std.proofs.Common.{◌∙◌, ℕ, List, [], ap, sym, subst}
use Rattle.std.specs.Option.{unwrap_or}
use Rattle.world_api.proofs.Looking.{looks_joined}
use Rattle.build_model.specs.Records.{stamp_kept}
use Rattle.build_means.specs.Present.{IsSeenDep}
use Rattle.build_means.specs.Rules.{decider_of}
use Rattle.build_files.specs.Kept.{past, stamp_past}
use Rattle.build_files.proofs.Presence.{still_on, seen_dep, same_keys}
use Rattle.build_files.proofs.inputs.Inputs.dep.Goals as goal

pub returns-in_err-stamp-clause-looks : goal.returns-in_err-stamp-clause-looks
returns-in_err-stamp-clause-looks g c = looks_joined _ _ _ _ c.digest.ensures.looks c.stamp_for.ensures.looks

pub returns-in_err-path_of-clause-looks : goal.returns-in_err-path_of-clause-looks
returns-in_err-path_of-clause-looks g c = looks_joined _ _ _ _ c.digest.ensures.looks c.stamp_for.ensures.looks

pub returns-in_err-copy-clause-looks : goal.returns-in_err-copy-clause-looks
returns-in_err-copy-clause-looks g c = looks_joined _ _ _ _ c.digest.ensures.looks c.stamp_for.ensures.looks

pub returns-clause-looks : goal.returns-clause-looks
returns-clause-looks g c = looks_joined _ _ _ _ c.digest.ensures.looks c.stamp_for.ensures.looks

pub returns-in_err-stamp-clause-truth : goal.returns-in_err-stamp-clause-truth
returns-in_err-stamp-clause-truth g c = λ still told b is.
    let before = c.stamp_for.ensures.looks.told.told told in
    c.stamp_for.ensures.truth (still_on c.args.graph.now _ _ c.args.node.0 (c.digest.ensures.looks.around before) still) told b (c.digest.ensures.truth still before b is)

pub returns-in_err-path_of-clause-truth : goal.returns-in_err-path_of-clause-truth
returns-in_err-path_of-clause-truth g c = λ still told b is.
    let before = c.stamp_for.ensures.looks.told.told told in
    c.stamp_for.ensures.truth (still_on c.args.graph.now _ _ c.args.node.0 (c.digest.ensures.looks.around before) still) told b (c.digest.ensures.truth still before b is)

pub returns-in_err-copy-clause-truth : goal.returns-in_err-copy-clause-truth
returns-in_err-copy-clause-truth g c = λ still told b is.
    let before = c.stamp_for.ensures.looks.told.told told in
    c.stamp_for.ensures.truth (still_on c.args.graph.now _ _ c.args.node.0 (c.digest.ensures.looks.around before) still) told b (c.digest.ensures.truth still before b is)

pub returns-clause-truth : goal.returns-clause-truth
returns-clause-truth g c = λ still told b is.
    let before = c.stamp_for.ensures.looks.told.told told in
    c.stamp_for.ensures.truth (still_on c.args.graph.now _ _ c.args.node.0 (c.digest.ensures.looks.around before) still) told b (c.digest.ensures.truth still before b is)

pub returns-clause-dep : goal.returns-clause-dep
returns-clause-dep g c = λ still told b is r same.
    let before = c.stamp_for.ensures.looks.told.told told in
    let at = c.in_ok-path_of.ensures.at in
    let later = c.digest.ensures.truth still before b is in
    let around = g.W.Disk.meaning.around c.args.world.now in
    let gone = c.args.self.now.gone.keys in
    let stamp = c.in_ok-stamp.ensures.stamp _ at told b later
    ∙ ap (λ (keys : List (List ℕ)). stamp_kept (decider_of c.args.decider) (stamp_past keys (g.W.Disk.meaning.around c.stamp_for.new.world) c.in_ok-path_of.field-0.now))
    (same_keys c.args.self.now c.digest.new.self c.digest.ensures.gone)
    ∙ ap (λ d. stamp_kept d (stamp_past gone (g.W.Disk.meaning.around c.stamp_for.new.world) c.in_ok-path_of.field-0.now)) (sym same) in
    let seen = seen_dep b r gone around _ _ _ (record { name = c.in_ok-copy.field-0; digest = c.in_ok-digest.digest; stamp = c.in_ok-stamp.stamp }) (still _ at)
    (c.digest.ensures.looks.around before) (c.stamp_for.ensures.looks.around told) c.in_ok-copy.ensures (c.in_ok-digest.ensures.digest before b _ at is) stamp in
    subst (λ p. IsSeenDep b r (past gone around.tree) (stamp_past gone around) p (record { name = c.in_ok-copy.field-0; digest = c.in_ok-digest.digest; stamp = c.in_ok-stamp.stamp }))
    (sym (ap (λ o. unwrap_or o []) at)) seen
