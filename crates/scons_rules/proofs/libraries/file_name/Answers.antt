use Rattle.std.proofs.Common.{◌∙◌, ap, sym}
use Rattle.std.specs.Prelude.{Err}
use Rattle.std.proofs.lemmas.Result.{err_from_is_err_and}
use Rattle.scons_rules.specs.Expanding.{expanding}
use Rattle.scons_rules.proofs.LibraryNames.{no_prefix}
use Rattle.scons_rules.proofs.libraries.file_name.Goals as goal

pub returns-in_err-prefix-clause-fault : goal.returns-in_err-prefix-clause-fault
returns-in_err-prefix-clause-fault c =
    let told = err_from_is_err_and c.from_residual.result c.from_residual.ensures.1 in
    rw told.1 (λ other.
    no_prefix (expanding c.args.rule.now) c.args.name.now c.in_err-prefix.field-0.0 (c.in_err-prefix.ensures.fault (λ h. other (told.2 ∙ h))) ∙ ap Err (sym told.2))
