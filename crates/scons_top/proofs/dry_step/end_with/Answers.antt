use Rattle.std.proofs.Common.{refl}
use Rattle.scons_top.proofs.Serving.{fault_memory, fault_prints}
use Rattle.scons_top.proofs.Telling.{stops_silent, tells_ended}
use Rattle.scons_top.proofs.Stepping.{ends_memory, reports_at, unprinted_at, one_found}
use Rattle.scons_top.proofs.Causing.{memory_late, world_found}
use Rattle.scons_top.proofs.Reporting.{listed, list_wanting}
use Rattle.scons_top.proofs.dry_step.end_with.Goals as goal

pub returns-in_err-text-clause-reports : goal.returns-in_err-text-clause-reports
returns-in_err-text-clause-reports g c = λ old new h. list_wanting old new _ _ c.args.fault c.from_residual.result h c.from_residual.ensures.1

pub returns-in_err-push-clause-reports : goal.returns-in_err-push-clause-reports
returns-in_err-push-clause-reports g c = λ old new h. list_wanting old new _ _ c.args.fault c.from_residual-in_err-push.result h c.from_residual-in_err-push.ensures.1

pub returns-clause-reports : goal.returns-clause-reports
returns-clause-reports g c = λ old new h.
    let first = world_found old new _ _ c.args.fault h in
    let all = listed g.E.Sink.meaning _ new _ _ _ _ c.args.fault _ _ _ _ _ c.empty-faults.ensures c.in_ok-push.ensures.ok c.print-printed.ensures.ok c.print-printed.ensures.err c.add_unprinted-lost.ensures first in
    c.closed.ensures.causes _ new _ _ _ all c.tell_faulty-written.ensures.step

pub returns-in_err-text-clause-late : goal.returns-in_err-text-clause-late
returns-in_err-text-clause-late g c = memory_late c.from_residual.result c.from_residual.ensures.1

pub returns-in_err-push-clause-late : goal.returns-in_err-push-clause-late
returns-in_err-push-clause-late g c = memory_late c.from_residual-in_err-push.result c.from_residual-in_err-push.ensures.1

pub returns-in_err-text-clause-ends : goal.returns-in_err-text-clause-ends
returns-in_err-text-clause-ends g c = λ h on. ends_memory c.args.step c.from_residual.result c.from_residual.ensures.1

pub returns-in_err-push-clause-ends : goal.returns-in_err-push-clause-ends
returns-in_err-push-clause-ends g c = λ h on. ends_memory c.args.step c.from_residual-in_err-push.result c.from_residual-in_err-push.ensures.1

pub returns-clause-ends : goal.returns-clause-ends
returns-clause-ends g c = λ h on.
    let at = c.args.step in
    let first = one_found at c.args.fault _ _ c.empty-faults.ensures c.in_ok-push.ensures.ok h in
    reports_at at c.closed.result c.closed.ensures.at (c.closed.ensures.ends (unprinted_at at c.print-printed.result _ _ c.add_unprinted-lost.result c.add_unprinted-lost.ensures first)) on

pub returns-in_err-text-clause-tells : goal.returns-in_err-text-clause-tells
returns-in_err-text-clause-tells g c = stops_silent g.E.Sink.meaning c.args.err.now _ c.from_residual.result c.from_residual.ensures.1

pub returns-in_err-push-clause-tells : goal.returns-in_err-push-clause-tells
returns-in_err-push-clause-tells g c = stops_silent g.E.Sink.meaning c.args.err.now _ c.from_residual-in_err-push.result c.from_residual-in_err-push.ensures.1

pub returns-clause-tells : goal.returns-clause-tells
returns-clause-tells g c =
    tells_ended g.E.Sink.meaning _ _ c.args.fault _ _ _ _ _ c.print-printed.result c.add_unprinted-lost.result _ c.closed.result c.empty-faults.ensures c.in_ok-push.ensures.ok
    c.in_ok-text.ensures c.as_str.ensures.value c.print-printed.ensures.ok c.print-printed.ensures.err c.add_unprinted-lost.ensures c.closed.ensures.whole c.closed.ensures.list

pub returns-in_err-text-clause-prints : goal.returns-in_err-text-clause-prints
returns-in_err-text-clause-prints g c = fault_memory g.O.Sink.meaning c.args.words.now c.args.fault c.args.out.now c.from_residual.result c.from_residual.ensures.1

pub returns-in_err-push-clause-prints : goal.returns-in_err-push-clause-prints
returns-in_err-push-clause-prints g c = fault_memory g.O.Sink.meaning c.args.words.now c.args.fault c.args.out.now c.from_residual-in_err-push.result c.from_residual-in_err-push.ensures.1

pub returns-clause-prints : goal.returns-clause-prints
returns-clause-prints g c =
    fault_prints g.O.Sink.meaning c.args.words.now c.args.fault _ _ _ _ c.print-printed.result c.add_unprinted-lost.result _ _ c.tell_faulty-written.result c.closed.result
    c.empty-faults.ensures c.in_ok-push.ensures.ok c.as_slice.ensures c.add_unprinted-lost.ensures c.tell_faulty-written.ensures.prints c.closed.ensures.whole c.closed.ensures.list
