use Rattle.scons_top.proofs.Telling.{tells_shown, tells_wanting}
use Rattle.std.proofs.lemmas.Bool.{false≢true}
use Rattle.scons_top.specs.declared.report.Top.{Top}
use Rattle.scons_top.proofs.Stepping.{or_same, or_none}
use Rattle.std.proofs.Common.{true, false, sym, subst, List, Contains}
use Rattle.scons_top.proofs.Alone.{one_as}
use Rattle.scons_top.proofs.Reporting.{reports_kept}
use Rattle.scons_top.proofs.ending.kept.Goals as goal

pub returns-in-Ok-clause-causes : goal.returns-in-Ok-clause-causes
returns-in-Ok-clause-causes g c = reports_kept g.E.Sink.meaning c.args.fault _ _ _ _ c.report.result false c.empty-faults.ensures c.in-Ok.ensures.finds c.report.ensures.faults c.report.ensures.memory

pub returns-in-Err-clause-causes : goal.returns-in-Err-clause-causes
returns-in-Err-clause-causes g c = reports_kept g.E.Sink.meaning c.args.fault _ _ _ _ c.report-in-Err.result true c.empty-faults.ensures c.in-Err.ensures.lacks c.report-in-Err.ensures.faults c.report-in-Err.ensures.memory

pub returns-in-Ok-clause-alone : goal.returns-in-Ok-clause-alone
returns-in-Ok-clause-alone g c = or_same c.args.fault _ _ c.report.ensures.faults (c.keep.ensures.alone (or_none c.args.fault _ c.empty-faults.ensures))

pub returns-in-Err-clause-alone : goal.returns-in-Err-clause-alone
returns-in-Err-clause-alone g c = or_same c.args.fault _ _ c.report-in-Err.ensures.faults (c.keep.ensures.alone (or_none c.args.fault _ c.empty-faults.ensures))

pub returns-in-Ok-clause-told : goal.returns-in-Ok-clause-told
returns-in-Ok-clause-told g c = λ ne. subst (λ (faults : List Top). Contains faults c.args.fault) (sym c.report.ensures.faults) c.in-Ok.ensures.holds

pub returns-in-Err-clause-told : goal.returns-in-Err-clause-told
returns-in-Err-clause-told g c = λ ne. absurd (false≢true (sym (c.report-in-Err.ensures.memory ne)))

pub returns-in-Ok-clause-tells : goal.returns-in-Ok-clause-tells
returns-in-Ok-clause-tells g c = λ kind.
    tells_shown g.E.Sink.meaning _ _ c.report.result _ c.report.ensures.faults c.keep.ensures.told (c.in-Ok.ensures.shown c.empty-faults.ensures kind)

pub returns-in-Err-clause-tells : goal.returns-in-Err-clause-tells
returns-in-Err-clause-tells g c = λ kind. tells_wanting g.E.Sink.meaning _ _ c.report-in-Err.result c.report-in-Err.ensures.memory c.keep.ensures.told

pub returns-in-Ok-clause-one : goal.returns-in-Ok-clause-one
returns-in-Ok-clause-one g c = one_as _ _ c.report.ensures.faults (c.keep.ensures.one c.empty-faults.ensures)

pub returns-in-Err-clause-one : goal.returns-in-Err-clause-one
returns-in-Err-clause-one g c = one_as _ _ c.report-in-Err.ensures.faults (c.keep.ensures.one c.empty-faults.ensures)
