use Rattle.model_trials.proofs.Sameness.{answers_same}
use Rattle.model_trials.proofs.changes.is_same.Goals as goal

pub returns : goal.returns
returns c =
    answers_same c.args.old.now c.args.now.now c.as_slice-before.result.now c.as_slice-after.result.now c.same_stamps.result
    c.as_slice-before.ensures.value c.as_slice-after.ensures.value (c.is_same_action.ensures.0 c.if-not-is_same_action.false)
    (c.same_digests.ensures.0 c.if-not-same_digests.false) c.same_stamps.ensures
