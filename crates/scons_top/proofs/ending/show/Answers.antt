use Rattle.scons_top.proofs.Printing.{up_to_exit}
use Rattle.scons_top.proofs.Stepping.{ends_exit, sink_at}
use Rattle.scons_top.proofs.Causing.{same_out, exit_report, sink_stop, good_step}
use Rattle.scons_top.proofs.ending.show.Goals as goal

pub returns-in_err-print_text-clause-reports : goal.returns-in_err-print_text-clause-reports
returns-in_err-print_text-clause-reports g c = λ counts err. exit_report _ _ c.from_residual.result _ c.from_residual.ensures.1 (sink_stop counts _ _ err _ c.in_err-print_text.ensures.step)

pub returns-clause-reports : goal.returns-clause-reports
returns-clause-reports g c = λ counts err. good_step _ _ c.good.result (same_out counts _ _ err c.in_ok-print_text.ensures.step) c.good.ensures.faults

pub returns-in_err-print_text-clause-ends : goal.returns-in_err-print_text-clause-ends
returns-in_err-print_text-clause-ends g c = ends_exit c.args.step c.from_residual.result _ c.from_residual.ensures.1 (sink_at c.args.step _ _ _ c.in_err-print_text.ensures.step)

pub returns-clause-ends : goal.returns-clause-ends
returns-clause-ends g c = c.good.ensures.ends

pub returns-in_err-print_text-clause-prints : goal.returns-in_err-print_text-clause-prints
returns-in_err-print_text-clause-prints g c = λ line is.
    let h = c.in_err-print_text.ensures.prints line is in
    up_to_exit g.O.Sink.meaning _ _ line c.from_residual.result _ c.from_residual.ensures.1 h.0 h.1
