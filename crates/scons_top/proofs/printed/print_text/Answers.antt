use Rattle.scons_top.proofs.Causing.{sink_memory, sink_refused, memory_late, refused_late}
use Rattle.scons_top.proofs.printed.print_text.Goals as goal

pub returns-in_err-text-clause-late : goal.returns-in_err-text-clause-late
returns-in_err-text-clause-late g c = memory_late c.from_residual.result c.from_residual.ensures.1

pub returns-in_err-text-clause-step : goal.returns-in_err-text-clause-step
returns-in_err-text-clause-step g c = sink_memory _ c.from_residual.result c.from_residual.ensures.1

pub returns-in_err-print-clause-late : goal.returns-in_err-print-clause-late
returns-in_err-print-clause-late g c = refused_late c.from_residual-in_err-print.result c.from_residual-in_err-print.ensures.1

pub returns-in_err-print-clause-step : goal.returns-in_err-print-clause-step
returns-in_err-print-clause-step g c = sink_refused _ _ c.from_residual-in_err-print.result c.from_residual-in_err-print.ensures.1 c.in_err-print.ensures.err.faults

pub returns-clause-step : goal.returns-clause-step
returns-clause-step g c = c.in_ok-print.ensures.ok.faults
