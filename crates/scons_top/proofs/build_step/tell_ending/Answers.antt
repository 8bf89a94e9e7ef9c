use Rattle.std.proofs.Common.{◌∙◌, sym, ap}
use Rattle.scons_base.specs.declared.ids.RuleId.{RuleId}
use Rattle.rule_graph.specs.declared.build_fault.BuildFault.{BuildFault}
use Rattle.scons_top.proofs.Printing.{up_to_as}
use Rattle.scons_top.proofs.Serving.{ending_none, ending_some}
use Rattle.scons_top.proofs.build_step.tell_ending.Goals as goal

pub returns-then-is_empty-clause-prints : goal.returns-then-is_empty-clause-prints
returns-then-is_empty-clause-prints g c =
    let end = c.args.end.now in
    up_to_as g.O.Sink.meaning _ _ _ _ c.tell_done.result
    (sym (ending_none c.args.words.now c.args.graph.now c.args.requests.now end.started _ end.faults c.as_slice.ensures (sym c.is_empty.ensures ∙ c.if-is_empty.true)))
    c.tell_done.ensures.prints

pub returns-clause-prints : goal.returns-clause-prints
returns-clause-prints g c =
    let end = c.args.end.now in
    up_to_as g.O.Sink.meaning _ _ _ _ c.tell_faulty.result
    (sym (ending_some c.args.words.now c.args.graph.now c.args.requests.now end.started end.faults _ c.as_slice-2.ensures (sym c.is_empty.ensures ∙ c.if-is_empty.false)))
    c.tell_faulty.ensures.prints
