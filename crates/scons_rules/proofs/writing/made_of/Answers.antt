use Rattle.std.proofs.Common.{◌∙◌}
use Rattle.std.proofs.lemmas.Result.{err_from_is_err_and}
use Rattle.scons_rules.proofs.Written.{written_ok, written_err}
use Rattle.scons_rules.proofs.writing.made_of.Goals as goal

pub returns-in_err-write_bytes-clause-fault : goal.returns-in_err-write_bytes-clause-fault
returns-in_err-write_bytes-clause-fault c =
    let told = err_from_is_err_and c.from_residual-in_err-write_bytes.result c.from_residual-in_err-write_bytes.ensures.1 in
    rw told.1 (λ other.
    written_err c.args.signed.now c.args.texts.now c.as_slice.result.now c.as_slice-2.result.now c.as_slice.ensures (c.as_slice-2.ensures.value ∙ c.in_ok-given.ensures)
    c.in_err-write_bytes.field-0.0 told.0 told.2 other c.in_err-write_bytes.ensures)

pub returns-clause-ok : goal.returns-clause-ok
returns-clause-ok c =
    written_ok c.args.signed.now c.args.texts.now c.as_slice.result.now c.as_slice-2.result.now c.as_slice.ensures (c.as_slice-2.ensures.value ∙ c.in_ok-given.ensures)
    c.in_ok-write_bytes.field-0 c.in_ok-write_bytes.ensures
