use Rattle.scons_top.proofs.Printing.{up_to_exit, up_to_then, some_more}
use Rattle.report_texts.specs.Texts.{done_text}
use Rattle.scons_top.proofs.Causing.{sink_exit, sink_back}
use Rattle.scons_top.proofs.ending.tell_done.Goals as goal

pub returns-in_err-tell_requests-clause-step : goal.returns-in_err-tell_requests-clause-step
returns-in_err-tell_requests-clause-step g c =
    let r = c.from_residual in
    sink_exit _ _ r.result _ r.ensures.1 c.in_err-tell_requests.ensures.step

pub returns-clause-step : goal.returns-clause-step
returns-clause-step g c = sink_back _ _ _ c.say.result c.in_ok-tell_requests.ensures.step c.say.ensures.step

pub returns-in_err-tell_requests-clause-prints : goal.returns-in_err-tell_requests-clause-prints
returns-in_err-tell_requests-clause-prints g c =
    let m = g.O.Sink.meaning in
    let h = c.in_err-tell_requests.ensures.prints in
    up_to_exit m _ _ _ c.from_residual.result _ c.from_residual.ensures.1 h.0 (some_more m _ _ _ _ h.1)

pub returns-clause-prints : goal.returns-clause-prints
returns-clause-prints g c =
    up_to_then g.O.Sink.meaning _ _ _ _ _ c.say.result c.in_ok-tell_requests.ensures.prints (c.say.ensures.prints done_text c.done_text.ensures)
