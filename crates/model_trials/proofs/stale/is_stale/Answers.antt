use Rattle.std.proofs.Common.{refl}
use Rattle.build_model.specs.Stale.{IsStale}
use Rattle.model_trials.specs.Plain.{as_rule}
use Rattle.model_trials.specs.Staling.{as_record, tree_of, records_of}
use Rattle.model_trials.proofs.Dues.{answers_stale}
use Rattle.model_trials.proofs.stale.is_stale.Goals as goal

pub returns-then-rule : goal.returns-then-rule
returns-then-rule c = (λ _. IsStale.is_always c.if-rule.true, λ _. refl)

pub returns : goal.returns
returns c =
    answers_stale (tree_of c.args.files.now) (records_of c.args.records.now) (as_rule c.args.rule.now) (as_record c.args.now.now)
    c.as_slice.result.now c.any_due.result c.as_slice.ensures.value c.any_due.ensures c.if-rule.false
