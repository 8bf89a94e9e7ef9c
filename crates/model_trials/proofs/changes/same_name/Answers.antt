use Rattle.std.proofs.Common.{sym, ◌∙◌}
use Rattle.std.proofs.lemmas.Slice.Eq.{bytes_eq-Decides}
use Rattle.model_trials.proofs.changes.same_name.Goals as goal

pub returns : goal.returns
returns c =
    let test = bytes_eq-Decides c.args.x.now.name c.args.y.now.name in
    (λ is. test.0 (sym c.eq.ensures ∙ is), λ same. c.eq.ensures ∙ test.1 same)
