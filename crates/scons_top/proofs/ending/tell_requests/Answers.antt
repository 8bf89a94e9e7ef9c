use Rattle.scons_top.specs.declared.requests.Request.{Request}
use Rattle.scons_top.specs.RunLines.{AreMarks, notice, request_text}
use Rattle.scons_top.proofs.Printing.{lines_before, lines_next, printed_as, printed_then, some_behind, some_more, some_none, up_to_as, up_to_exit}
use Rattle.scons_top.specs.declared.stop.Stop.TheVariants as stop
use Rattle.std.proofs.Common.{◌∙◌, subst, sym}
use Rattle.scons_top.proofs.Causing.{sink_memory, sink_exit, sink_back}
use Rattle.scons_top.proofs.ending.tell_requests.Goals as goal

pub loop-request-preserved : goal.loop-request-preserved
loop-request-preserved g c =
    let i = c.loop-request.invariant in
    let m = g.O.Sink.meaning in
    let requests = c.args.requests.now in
    let line = λ (request : Request). notice c.args.words.now (request_text c.args.graph.now c.args.started.now request) in
    let item = c.request-item in
    let marks = subst (AreMarks c.args.graph.now c.args.started.now) (sym c.as_slice.ensures.value) c.in_ok-marks.ensures in
    record {
      faults = c.in_ok-tell_request.ensures.step ∙ i.faults;
      prints = printed_as m _ _ _ _ (lines_next line requests c.loop-request.request-index item.result item.result c.loop-request-test.true item.is)
          (printed_then m _ _ _ _ _ i.prints (c.in_ok-tell_request.ensures.prints c.args.started.now marks));
    }

pub returns-in_err-marks-clause-step : goal.returns-in_err-marks-clause-step
returns-in_err-marks-clause-step g c = sink_memory _ c.from_residual.result c.from_residual.ensures.1

pub returns-in_err-tell_request-clause-step : goal.returns-in_err-tell_request-clause-step
returns-in_err-tell_request-clause-step g c =
    let r = c.from_residual-in_err-tell_request in
    sink_back _ _ _ r.result c.loop-request.invariant.faults (sink_exit _ _ r.result _ r.ensures.1 c.in_err-tell_request.ensures.step)

pub returns-in_err-marks-clause-prints : goal.returns-in_err-marks-clause-prints
returns-in_err-marks-clause-prints g c = up_to_exit g.O.Sink.meaning _ _ _ c.from_residual.result stop.Memory c.from_residual.ensures.1 tt (some_none g.O.Sink.meaning _ _)

pub returns-in_err-tell_request-clause-prints : goal.returns-in_err-tell_request-clause-prints
returns-in_err-tell_request-clause-prints g c =
    let m = g.O.Sink.meaning in
    let requests = c.args.requests.now in
    let line = λ (request : Request). notice c.args.words.now (request_text c.args.graph.now c.args.started.now request) in
    let item = c.request-item in
    let marks = subst (AreMarks c.args.graph.now c.args.started.now) (sym c.as_slice.ensures.value) c.in_ok-marks.ensures in
    let r = c.from_residual-in_err-tell_request in
    let h = c.in_err-tell_request.ensures.prints c.args.started.now marks in
    let front = some_more m _ _ _ _ (some_behind m _ _ _ _ _ c.loop-request.invariant.prints h.1) in
    up_to_as m _ _ _ _ r.result (sym (lines_before line requests c.loop-request.request-index item.result item.result c.loop-request-test.true item.is))
    (up_to_exit m _ _ _ r.result _ r.ensures.1 h.0 front)
