use Rattle.std.proofs.Common.{sym, ◌∙◌}
use Rattle.model_trials.proofs.Sameness.{digest_eq-Decides}
use Rattle.model_trials.proofs.changes.same_digest.Goals as goal

pub returns : goal.returns
returns c =
    let test = digest_eq-Decides c.args.x.now.digest c.args.y.now.digest in
    (λ is. test.0 (sym c.eq.ensures ∙ is), λ same. c.eq.ensures ∙ test.1 same)
