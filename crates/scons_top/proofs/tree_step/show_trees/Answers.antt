use Rattle.report_texts.specs.Texts.{done_text}
use Rattle.scons_report.specs.declared.tree_end.TreeEnd.{TreeEnd}
use Rattle.scons_top.specs.Sinks.{PrintsSuch}
use Rattle.scons_top.specs.Trees.{AreFrontTrees, IsCutTree}
use Rattle.scons_top.proofs.Treeing.{trees_done, trees_faulty, trees_lost, trees_nearly, trees_unasked}
use Rattle.scons_top.proofs.Telling.{stops_silent, tells_none}
use Rattle.rule_graph.specs.declared.build_fault.BuildFault.TheVariants as fault
use Rattle.scons_top.specs.declared.step.Step.TheVariants as step
use Rattle.scons_top.specs.declared.stop.Stop.TheVariants as stop
use Rattle.scons_top.proofs.Stepping.{ends_exit, sink_at, building_fault}
use Rattle.std.proofs.Common.{◌∙◌, subst}
use Rattle.scons_top.proofs.Causing.{same_out, report_back}
use Rattle.scons_top.proofs.Shown.{file_shown}
use Rattle.scons_top.proofs.tree_step.show_trees.Goals as goal

pub returns-in_default-clause-reports : goal.returns-in_default-clause-reports
returns-in_default-clause-reports g c =
    let i = c.in-Err-Fault in
    let old = g.W.Disk.meaning.counts c.args.world.now in
    let new = g.W.Disk.meaning.counts c.print_trees.new.world in
    let before = g.O.Sink.meaning.faults c.tell_requests.new.out in
    let after = g.O.Sink.meaning.faults c.print_trees.new.out in
    let cause = file_shown old new before after i.field-0 i.fault i.field-0-is c.in_default.not-OutFault i.ensures.cause in
    report_back _ _ _ c.end_with.result (same_out old (g.O.Sink.meaning.faults c.args.out.now) after _ (cause.1 ∙ c.in_ok-tell_requests.ensures.step))
    (c.end_with.ensures.reports old new cause.0)

pub returns-in_err-tell_requests-clause-ends : goal.returns-in_err-tell_requests-clause-ends
returns-in_err-tell_requests-clause-ends g c = let r = c.from_residual in ends_exit step.Building r.result _ r.ensures.1 (sink_at step.Building _ _ _ c.in_err-tell_requests.ensures.step)

pub returns-in_default-clause-ends : goal.returns-in_default-clause-ends
returns-in_default-clause-ends g c = c.end_with.ensures.ends (building_fault _) tt

pub returns-in_err-tell_requests-clause-tells : goal.returns-in_err-tell_requests-clause-tells
returns-in_err-tell_requests-clause-tells g c = stops_silent g.E.Sink.meaning c.args.err.now _ c.from_residual.result c.from_residual.ensures.1

pub returns-in_ok-say-in-Ok-clause-tells : goal.returns-in_ok-say-in-Ok-clause-tells
returns-in_ok-say-in-Ok-clause-tells g c = tells_none g.E.Sink.meaning c.args.err.now c.good.result c.good.ensures.faults

pub returns-in_err-tell_requests-clause-prints : goal.returns-in_err-tell_requests-clause-prints
returns-in_err-tell_requests-clause-prints g c =
    let h = c.in_err-tell_requests.ensures.prints in
    let r = c.from_residual in
    trees_unasked g.W.Disk.meaning g.O.Sink.meaning c.args.words.now c.args.declared c.args.graph.now c.args.requests.now c.args.started.now c.args.world.now c.args.out.now
    c.args.world.now _ r.result _ r.ensures.1 h.0 h.1

pub returns-in_err-say-in-Ok-clause-prints : goal.returns-in_err-say-in-Ok-clause-prints
returns-in_err-say-in-Ok-clause-prints g c =
    let h = c.in_err-say-in-Ok.ensures.prints done_text c.done_text.ensures in
    let r = c.from_residual-in_err-say-in-Ok in
    trees_nearly g.W.Disk.meaning g.O.Sink.meaning c.args.words.now c.args.declared c.args.graph.now c.args.requests.now c.args.started.now c.args.world.now c.args.out.now
    c.print_trees.new.world c.tell_requests.new.out c.print_trees.new.out c.in_ok-tell_requests.ensures.prints c.print_trees.new.graph c.in-Ok.ensures.prints c.say.new.out r.result _ r.ensures.1 h.0 h.1

pub returns-in_ok-say-in-Ok-clause-prints : goal.returns-in_ok-say-in-Ok-clause-prints
returns-in_ok-say-in-Ok-clause-prints g c =
    trees_done g.W.Disk.meaning g.O.Sink.meaning c.args.words.now c.args.declared c.args.graph.now c.args.requests.now c.args.started.now c.args.world.now c.args.out.now
    c.print_trees.new.world c.tell_requests.new.out c.print_trees.new.out c.in_ok-tell_requests.ensures.prints c.print_trees.new.graph c.in-Ok.ensures.prints c.say.new.out c.good.result c.good.ensures.faults
    (c.in_ok-say-in-Ok.ensures.prints done_text c.done_text.ensures)

pub returns-in_default-clause-prints : goal.returns-in_default-clause-prints
returns-in_default-clause-prints g c =
    let i = c.in-Err-Fault in
    let m = g.W.Disk.meaning in
    let p = g.O.Sink.meaning in
    let new = c.print_trees.new.world in
    let front = AreFrontTrees c.args.declared (m.around c.args.world.now) c.args.graph.now c.args.requests.now in
    trees_faulty m p c.args.words.now c.args.declared c.args.graph.now c.args.requests.now c.args.started.now c.args.world.now c.args.out.now
    new c.tell_requests.new.out c.print_trees.new.out c.in_ok-tell_requests.ensures.prints c.end_with.new.out i.fault c.end_with.result c.in_default.not-OutFault
    (subst (λ (e : TreeEnd). PrintsSuch p (m.tells new) front (IsCutTree e) c.tell_requests.new.out c.print_trees.new.out) i.field-0-is i.ensures.prints) c.end_with.ensures.prints

pub returns-in-OutFault-clause-prints : goal.returns-in-OutFault-clause-prints
returns-in-OutFault-clause-prints g c =
    trees_lost g.W.Disk.meaning g.O.Sink.meaning c.args.words.now c.args.declared c.args.graph.now c.args.requests.now c.args.started.now c.args.world.now c.args.out.now
    c.print_trees.new.world c.tell_requests.new.out c.print_trees.new.out c.in_ok-tell_requests.ensures.prints _ (stop.Build fault.OutFault) (λ u. tt) tt c.in-Err-Fault.ensures.prints

pub returns-in-Err-Memory-clause-prints : goal.returns-in-Err-Memory-clause-prints
returns-in-Err-Memory-clause-prints g c =
    trees_lost g.W.Disk.meaning g.O.Sink.meaning c.args.words.now c.args.declared c.args.graph.now c.args.requests.now c.args.started.now c.args.world.now c.args.out.now
    c.print_trees.new.world c.tell_requests.new.out c.print_trees.new.out c.in_ok-tell_requests.ensures.prints _ stop.Memory (λ u. tt) tt c.in-Err-Memory.ensures.prints
