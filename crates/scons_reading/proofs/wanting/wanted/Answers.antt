use Rattle.std.proofs.Common.{◌∙◌, ap, sym}
use Rattle.std.specs.Prelude.{Err}
use Rattle.std.proofs.lemmas.Result.{err_from_is_err_and}
use Rattle.scons_rules.proofs.Finding.{on_err}
use Rattle.scons_reading.specs.Graphs.{unknown}
use Rattle.scons_reading.proofs.Putting.{no_libraries}
use Rattle.scons_reading.proofs.wanting.wanted.Goals as goal

pub returns-in_err-begin-clause-fault : goal.returns-in_err-begin-clause-fault
returns-in_err-begin-clause-fault c =
    let told = err_from_is_err_and c.from_residual.result c.from_residual.ensures.1 in
    rw told.1 (λ other f g. unknown (c.in_err-begin.ensures.fault (λ h. other (told.2 ∙ h)) ∙ ap Err (sym told.2)))

pub returns-clause-fault : goal.returns-clause-fault
returns-clause-fault c =
    on_err c.wanted.result c.wanted.ensures.fault (λ e told other f g.
    no_libraries f c.args.reading.now.declared c.args.number g c.begin.new.locals e c.in_ok-begin.ensures.known (told other _))
