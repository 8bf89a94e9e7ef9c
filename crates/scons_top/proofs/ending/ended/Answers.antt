use Rattle.std.specs.Prelude.{string_bytes}
use Rattle.scons_top.proofs.Telling.{build_lines, own_lines, tells_wanting}
use Rattle.std.proofs.lemmas.Bool.{false≢true}
use Rattle.scons_top.proofs.Stepping.{stop_or_fault, told_fault, stop_or_build, told_build, stop_or_none}
use Rattle.std.proofs.Common.{◌∙◌, sym, subst}
use Rattle.scons_top.specs.Endings.{ErrEnds}
use Rattle.scons_top.specs.Faults.{EarlyOnlyIf, IsEarly, IsEarlyStop, top_of_own}
use Rattle.scons_top.specs.Stops.{top_of}
use Rattle.scons_top.specs.declared.report.Top.{Top}
use Rattle.scons_top.specs.declared.stop.Stop.{Stop}
use Rattle.scons_top.proofs.Alone.{one_none}
use Rattle.scons_top.proofs.Reporting.{ends_wanting, reports_as}
use Rattle.scons_top.proofs.ending.ended.Goals as goal

pub returns-in-Fault-clause-causes : goal.returns-in-Fault-clause-causes
returns-in-Fault-clause-causes g c =
    let m = g.E.Sink.meaning in
    subst (λ (s : Stop). ErrEnds m s c.args.err.now c.kept.new.err c.kept.result) (sym c.in-Fault.is) (reports_as m (top_of_own c.in-Fault.fault) c.from.result _ _ _ c.from.ensures c.kept.ensures.causes)

pub returns-in-Build-clause-causes : goal.returns-in-Build-clause-causes
returns-in-Build-clause-causes g c =
    let m = g.E.Sink.meaning in
    subst (λ (s : Stop). ErrEnds m s c.args.err.now c.kept-in-Build.new.err c.kept-in-Build.result) (sym c.in-Build.is) (reports_as m (top_of c.in-Build.fault) c.from-in-Build.result _ _ _ c.from-in-Build.ensures.1 c.kept-in-Build.ensures.causes)

pub returns-in-Memory-clause-causes : goal.returns-in-Memory-clause-causes
returns-in-Memory-clause-causes g c =
    let m = g.E.Sink.meaning in
    let err = c.args.err.now in
    subst (λ (s : Stop). ErrEnds m s err err c.report.result) (sym c.in-Memory.is) (ends_wanting m err c.report.result (c.report.ensures.faults ∙ c.empty.ensures) c.report.ensures.memory)

pub returns-in-Fault-clause-alone : goal.returns-in-Fault-clause-alone
returns-in-Fault-clause-alone g c = stop_or_fault _ c.in-Fault.fault c.from.result _ c.in-Fault.is c.from.ensures c.kept.ensures.alone

pub returns-in-Fault-clause-told : goal.returns-in-Fault-clause-told
returns-in-Fault-clause-told g c = λ ne. told_fault _ c.in-Fault.fault c.from.result _ c.in-Fault.is c.from.ensures (c.kept.ensures.told ne)

pub returns-in-Fault-clause-early : goal.returns-in-Fault-clause-early
returns-in-Fault-clause-early g c =
    subst (λ (s : Stop). EarlyOnlyIf (IsEarlyStop s) c.kept.result.faults) (sym c.in-Fault.is)
    (subst (λ (x : Top). EarlyOnlyIf (IsEarly x) c.kept.result.faults) c.from.ensures c.kept.ensures.early)

pub returns-in-Build-clause-alone : goal.returns-in-Build-clause-alone
returns-in-Build-clause-alone g c = stop_or_build _ c.in-Build.fault c.from-in-Build.result _ c.in-Build.is c.from-in-Build.ensures.1 c.kept-in-Build.ensures.alone

pub returns-in-Build-clause-told : goal.returns-in-Build-clause-told
returns-in-Build-clause-told g c = λ ne. told_build _ c.in-Build.fault c.from-in-Build.result _ c.in-Build.is c.from-in-Build.ensures.1 (c.kept-in-Build.ensures.told ne)

pub returns-in-Memory-clause-alone : goal.returns-in-Memory-clause-alone
returns-in-Memory-clause-alone g c = stop_or_none _ _ (c.report.ensures.faults ∙ c.empty.ensures)

pub returns-in-Memory-clause-told : goal.returns-in-Memory-clause-told
returns-in-Memory-clause-told g c = λ ne. absurd (false≢true (sym (c.report.ensures.memory ne)))

pub returns-in-Fault-clause-tells : goal.returns-in-Fault-clause-tells
returns-in-Fault-clause-tells g c = c.kept.ensures.tells (own_lines string_bytes c.in-Fault.fault c.from.result _ c.from.ensures c.own_text-text.ensures)

pub returns-in-Build-clause-tells : goal.returns-in-Build-clause-tells
returns-in-Build-clause-tells g c = c.kept-in-Build.ensures.tells (build_lines string_bytes c.in-Build.fault c.from-in-Build.result _ c.from-in-Build.ensures.1 c.fault_text-text.ensures)

pub returns-in-Memory-clause-tells : goal.returns-in-Memory-clause-tells
returns-in-Memory-clause-tells g c = tells_wanting g.E.Sink.meaning _ _ c.report.result c.report.ensures.memory (λ t. t)

pub returns-in-Memory-clause-one : goal.returns-in-Memory-clause-one
returns-in-Memory-clause-one g c = one_none _ _ c.report.ensures.faults c.empty.ensures
