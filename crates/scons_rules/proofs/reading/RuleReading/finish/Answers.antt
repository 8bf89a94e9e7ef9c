use Rattle.std.proofs.Common.{◌∙◌, ap, sym}
use Rattle.std.specs.Prelude.{Err}
use Rattle.std.proofs.lemmas.Result.{err_from_is_err_and}
use Rattle.scons_rules.proofs.reading.RuleReading.finish.Goals as goal

pub returns-in_err-add_rest-clause-fault : goal.returns-in_err-add_rest-clause-fault
returns-in_err-add_rest-clause-fault c =
    let told = err_from_is_err_and c.from_residual.result c.from_residual.ensures.1 in
    rw told.1 (λ other. c.in_err-add_rest.ensures.fault (λ h. other (told.2 ∙ h)) ∙ ap Err (sym told.2))
