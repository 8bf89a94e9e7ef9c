use Rattle.std.proofs.Common.{◌∙◌, sym}
use Rattle.scons_report.proofs.Judging.{not_fed_due}
use Rattle.scons_report.proofs.dry.is_due.Goals as goal

pub returns-clause-due : goal.returns-clause-due
returns-clause-due g c = λ tells idle own has b r grown numbered targets.
    not_fed_due _ _ _ (sym c.if-depends_on_listed.false ∙ c.depends_on_listed.ensures) (c.in_ok-is_stale.ensures.due tells idle own has b r grown numbered targets)
