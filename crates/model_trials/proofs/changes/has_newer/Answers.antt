use Rattle.model_trials.proofs.Dues.{answers_newer}
use Rattle.model_trials.proofs.changes.has_newer.Goals as goal

pub returns : goal.returns
returns c =
    answers_newer c.args.target c.args.now.now c.as_slice.result.now c.any_newer.result c.as_slice.ensures.value c.any_newer.ensures
