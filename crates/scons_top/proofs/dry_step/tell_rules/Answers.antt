use Rattle.scons_top.specs.declared.step.Step.TheVariants as step
use Rattle.scons_top.proofs.Stepping.{ends_exit, sink_at}
use Rattle.std.proofs.Common.{◌≡◌, ◌∙◌, arith, refl, sym, take}
use Rattle.std.specs.List.{slice_get}
use Rattle.std.proofs.lemmas.List.{take_all}
use Rattle.scons_base.specs.declared.ids.RuleId.{RuleId}
use Rattle.scons_top.specs.RunLines.{line_by, notice}
use Rattle.scons_top.proofs.Printing.{lines_all, lines_before, lines_next, printed_as, printed_then, some_as, some_behind, some_more, up_to_exit}
use Rattle.scons_top.proofs.Causing.{same_out, exit_report, sink_stop, stop_back, good_step}
use Rattle.scons_top.proofs.dry_step.tell_rules.Goals as goal

pub loop-rule-preserved : goal.loop-rule-preserved
loop-rule-preserved g c =
    let i = c.loop-rule.invariant in
    let m = g.O.Sink.meaning in
    let rules = c.args.rules.now in
    let line = λ (id : RuleId). notice c.args.words.now (line_by c.args.graph.now (slice_get c.args.graph.now.rules id.0)) in
    record {
      faults = c.in_ok-tell.ensures.step ∙ i.faults;
      prints = printed_as m _ _ _ _ (lines_next line rules c.loop-rule.rule-index _ _ c.loop-rule-test.true refl)
          (printed_then m _ _ _ _ _ i.prints (c.in_ok-tell.ensures.prints _ c.lines_of.ensures));
    }

pub returns-in_err-tell-clause-reports : goal.returns-in_err-tell-clause-reports
returns-in_err-tell-clause-reports g c = λ counts err.
    let r = c.from_residual in
    exit_report _ _ r.result _ r.ensures.1 (stop_back _ _ _ _ (same_out counts _ _ err c.loop-rule.invariant.faults) (sink_stop counts _ _ err _ c.in_err-tell.ensures.step))

pub returns-in_err-tell_done-clause-reports : goal.returns-in_err-tell_done-clause-reports
returns-in_err-tell_done-clause-reports g c = λ counts err.
    let r = c.from_residual-in_err-tell_done in
    exit_report _ _ r.result _ r.ensures.1 (stop_back _ _ _ _ (same_out counts _ _ err c.loop-rule.invariant.faults) (sink_stop counts _ _ err _ c.in_err-tell_done.ensures.step))

pub returns-clause-reports : goal.returns-clause-reports
returns-clause-reports g c = λ counts err. good_step _ _ c.good.result (same_out counts _ _ err (c.in_ok-tell_done.ensures.step ∙ c.loop-rule.invariant.faults)) c.good.ensures.faults

pub returns-in_err-tell-clause-ends : goal.returns-in_err-tell-clause-ends
returns-in_err-tell-clause-ends g c = let r = c.from_residual in ends_exit step.Listing r.result _ r.ensures.1 (sink_at step.Listing _ _ _ c.in_err-tell.ensures.step)

pub returns-in_err-tell_done-clause-ends : goal.returns-in_err-tell_done-clause-ends
returns-in_err-tell_done-clause-ends g c = let r = c.from_residual-in_err-tell_done in ends_exit step.Listing r.result _ r.ensures.1 (sink_at step.Listing _ _ _ c.in_err-tell_done.ensures.step)

pub returns-clause-ends : goal.returns-clause-ends
returns-clause-ends g c = c.good.ensures.ends

pub returns-in_err-tell-clause-prints : goal.returns-in_err-tell-clause-prints
returns-in_err-tell-clause-prints g c =
    let m = g.O.Sink.meaning in
    let rules = c.args.rules.now in
    let line = λ (id : RuleId). notice c.args.words.now (line_by c.args.graph.now (slice_get c.args.graph.now.rules id.0)) in
    let r = c.from_residual in
    let h = c.in_err-tell.ensures.prints _ c.lines_of.ensures in
    let front = some_more m _ _ _ _ (some_behind m _ _ _ _ _ c.loop-rule.invariant.prints h.1) in
    up_to_exit m _ _ _ r.result _ r.ensures.1 h.0
    (some_more m _ _ _ _ (some_as m _ _ _ _ (sym (lines_before line rules c.loop-rule.rule-index _ _ c.loop-rule-test.true refl)) front))

pub returns-in_err-tell_done-clause-prints : goal.returns-in_err-tell_done-clause-prints
returns-in_err-tell_done-clause-prints g c =
    let m = g.O.Sink.meaning in
    let rules = c.args.rules.now in
    let line = λ (id : RuleId). notice c.args.words.now (line_by c.args.graph.now (slice_get c.args.graph.now.rules id.0)) in
    let whole : take c.loop-rule.rule-index rules ≡ rules = take_all c.loop-rule.rule-index rules (omega arith) in
    let r = c.from_residual-in_err-tell_done in
    let h = c.in_err-tell_done.ensures.prints in
    up_to_exit m _ _ _ r.result _ r.ensures.1 h.0 (some_behind m _ _ _ _ _ (printed_as m _ _ _ _ (lines_all line rules c.loop-rule.rule-index whole) c.loop-rule.invariant.prints) h.1)

pub returns-clause-prints : goal.returns-clause-prints
returns-clause-prints g c =
    let m = g.O.Sink.meaning in
    let rules = c.args.rules.now in
    let line = λ (id : RuleId). notice c.args.words.now (line_by c.args.graph.now (slice_get c.args.graph.now.rules id.0)) in
    let whole : take c.loop-rule.rule-index rules ≡ rules = take_all c.loop-rule.rule-index rules (omega arith) in
    printed_then m _ _ _ _ _ (printed_as m _ _ _ _ (lines_all line rules c.loop-rule.rule-index whole) c.loop-rule.invariant.prints) c.in_ok-tell_done.ensures.prints
