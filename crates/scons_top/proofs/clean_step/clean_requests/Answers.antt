use Rattle.report_texts.specs.Texts.{cleaned_text, cleaning_text}
use Rattle.scons_top.specs.declared.stop.Stop.TheVariants as stop
use Rattle.scons_top.proofs.Printing.{some_all, some_none}
use Rattle.scons_top.proofs.Serving.{serve_cleaned, serve_nearly, serve_removing, serve_unclean}
use Rattle.scons_top.specs.declared.step.Step.TheVariants as step
use Rattle.scons_top.specs.Requested.{AreNodes, nodes_asked}
use Rattle.scons_top.proofs.Clearing.{asked_exit, cleans_ill, cleans_well, requested_list}
use Rattle.scons_top.proofs.Requesting.{are_below_all}
use Rattle.scons_top.proofs.Stepping.{ends_exit, ends_memory, sink_at}
use Rattle.world_api.proofs.Looking.{looks_same}
use Rattle.scons_top.proofs.Stopping.{steps_here}
use Rattle.scons_top.proofs.Remembered.{banks_here}
use Rattle.std.proofs.Common.{◌∙◌, inl, inr, refl, subst, sym}
use Rattle.scons_top.proofs.Causing.{same_out, exit_report, report_memory, sink_stop, stop_back, good_step}
use Rattle.scons_top.proofs.clean_step.clean_requests.Goals as goal

pub clean_rules-requires-clause-known : goal.clean_rules-requires-clause-known
clean_rules-requires-clause-known g c =
    let graph = c.args.graph.now in
    let below = are_below_all graph c.as_slice.result.now (subst (AreNodes graph) (sym c.as_slice.ensures.value) (c.in_ok-nodes.ensures.nodes graph c.requires.nodes)) in
    let list = requested_list graph c.as_slice.result.now (nodes_asked c.args.requests.now) c.as_slice-2.result.now _ (c.as_slice.ensures.value ∙ c.in_ok-nodes.ensures.are) c.as_slice-2.ensures below
    c.in_ok-rules.ensures in
    list.known

pub returns-in_err-nodes-clause-reports : goal.returns-in_err-nodes-clause-reports
returns-in_err-nodes-clause-reports g c = λ err. report_memory _ _ c.from_residual.result c.from_residual.ensures.1 refl

pub returns-in_err-say-clause-reports : goal.returns-in_err-say-clause-reports
returns-in_err-say-clause-reports g c = λ err.
    let r = c.from_residual-in_err-say in
    exit_report _ _ r.result _ r.ensures.1 (sink_stop _ _ _ err _ c.in_err-say.ensures.step)

pub returns-in_err-rules-clause-reports : goal.returns-in_err-rules-clause-reports
returns-in_err-rules-clause-reports g c = λ err.
    let r = c.from_residual-in_err-rules in
    report_memory _ _ r.result r.ensures.1 (same_out _ _ _ err c.in_ok-say.ensures.step)

pub returns-in_err-clean_rules-clause-reports : goal.returns-in_err-clean_rules-clause-reports
returns-in_err-clean_rules-clause-reports g c = λ err.
    let r = c.from_residual-in_err-clean_rules in
    exit_report _ _ r.result _ r.ensures.1 (stop_back _ _ _ _ (same_out _ _ _ err c.in_ok-say.ensures.step) (c.in_err-clean_rules.ensures.steps err))

pub returns-in_err-say-2-clause-reports : goal.returns-in_err-say-2-clause-reports
returns-in_err-say-2-clause-reports g c = λ err.
    let r = c.from_residual-in_err-say-2 in
    let same = c.in_ok-clean_rules.ensures.steps err ∙ same_out _ _ _ err c.in_ok-say.ensures.step in
    exit_report _ _ r.result _ r.ensures.1 (stop_back _ _ _ _ same (sink_stop _ _ _ err _ c.in_err-say-2.ensures.step))

pub returns-clause-reports : goal.returns-clause-reports
returns-clause-reports g c = λ err.
    let same = same_out _ _ _ err c.in_ok-say-2.ensures.step ∙ (c.in_ok-clean_rules.ensures.steps err ∙ same_out _ _ _ err c.in_ok-say.ensures.step) in
    good_step _ _ c.good.result same c.good.ensures.faults

pub returns-in_err-nodes-clause-safe : goal.returns-in_err-nodes-clause-safe
returns-in_err-nodes-clause-safe g c = steps_here g.W.Disk.meaning g.met.W.Disk.only_now c.args.world.now

pub returns-in_err-nodes-clause-moments : goal.returns-in_err-nodes-clause-moments
returns-in_err-nodes-clause-moments g c = banks_here g.W.Disk.meaning g.met.W.Disk.only_now c.args.world.now

pub returns-in_err-say-clause-safe : goal.returns-in_err-say-clause-safe
returns-in_err-say-clause-safe g c = steps_here g.W.Disk.meaning g.met.W.Disk.only_now c.args.world.now

pub returns-in_err-say-clause-moments : goal.returns-in_err-say-clause-moments
returns-in_err-say-clause-moments g c = banks_here g.W.Disk.meaning g.met.W.Disk.only_now c.args.world.now

pub returns-in_err-rules-clause-safe : goal.returns-in_err-rules-clause-safe
returns-in_err-rules-clause-safe g c = steps_here g.W.Disk.meaning g.met.W.Disk.only_now c.args.world.now

pub returns-in_err-rules-clause-moments : goal.returns-in_err-rules-clause-moments
returns-in_err-rules-clause-moments g c = banks_here g.W.Disk.meaning g.met.W.Disk.only_now c.args.world.now

pub returns-in_err-nodes-clause-ends : goal.returns-in_err-nodes-clause-ends
returns-in_err-nodes-clause-ends g c = ends_memory step.Cleaning c.from_residual.result c.from_residual.ensures.1

pub returns-in_err-say-clause-ends : goal.returns-in_err-say-clause-ends
returns-in_err-say-clause-ends g c = let r = c.from_residual-in_err-say in ends_exit step.Cleaning r.result _ r.ensures.1 (sink_at step.Cleaning _ _ _ c.in_err-say.ensures.step)

pub returns-in_err-rules-clause-ends : goal.returns-in_err-rules-clause-ends
returns-in_err-rules-clause-ends g c = let r = c.from_residual-in_err-rules in ends_memory step.Cleaning r.result r.ensures.1

pub returns-in_err-clean_rules-clause-ends : goal.returns-in_err-clean_rules-clause-ends
returns-in_err-clean_rules-clause-ends g c = let r = c.from_residual-in_err-clean_rules in ends_exit step.Cleaning r.result _ r.ensures.1 c.in_err-clean_rules.ensures.stops

pub returns-in_err-say-2-clause-ends : goal.returns-in_err-say-2-clause-ends
returns-in_err-say-2-clause-ends g c = let r = c.from_residual-in_err-say-2 in ends_exit step.Cleaning r.result _ r.ensures.1 (sink_at step.Cleaning _ _ _ c.in_err-say-2.ensures.step)

pub returns-clause-ends : goal.returns-clause-ends
returns-clause-ends g c = c.good.ensures.ends

pub returns-in_err-nodes-clause-cleans : goal.returns-in_err-nodes-clause-cleans
returns-in_err-nodes-clause-cleans g c = λ asks.
    let m = g.W.Disk.meaning in
    asked_exit m _ _ _ c.args.world.now c.args.world.now c.from_residual.result _ c.from_residual.ensures.1 (inr (looks_same m c.args.world.now))

pub returns-in_err-say-clause-cleans : goal.returns-in_err-say-clause-cleans
returns-in_err-say-clause-cleans g c = λ asks.
    let m = g.W.Disk.meaning in
    let r = c.from_residual-in_err-say in
    asked_exit m _ _ _ c.args.world.now c.args.world.now r.result _ r.ensures.1 (inr (looks_same m c.args.world.now))

pub returns-in_err-rules-clause-cleans : goal.returns-in_err-rules-clause-cleans
returns-in_err-rules-clause-cleans g c = λ asks.
    let m = g.W.Disk.meaning in
    let r = c.from_residual-in_err-rules in
    asked_exit m _ _ _ c.args.world.now c.args.world.now r.result _ r.ensures.1 (inr (looks_same m c.args.world.now))

pub returns-in_err-clean_rules-clause-cleans : goal.returns-in_err-clean_rules-clause-cleans
returns-in_err-clean_rules-clause-cleans g c = λ asks.
    let m = g.W.Disk.meaning in
    let graph = c.args.graph.now in
    let r = c.from_residual-in_err-clean_rules in
    let below = are_below_all graph c.as_slice.result.now (subst (AreNodes graph) (sym c.as_slice.ensures.value) (c.in_ok-nodes.ensures.nodes graph asks)) in
    let list = requested_list graph c.as_slice.result.now (nodes_asked c.args.requests.now) c.as_slice-2.result.now _ (c.as_slice.ensures.value ∙ c.in_ok-nodes.ensures.are) c.as_slice-2.ensures below
    c.in_ok-rules.ensures in
    asked_exit m _ graph (nodes_asked c.args.requests.now) c.args.world.now c.clean_rules.new.world r.result _ r.ensures.1
    (inl (cleans_ill m c.args.words.now graph _ _ c.args.world.now c.clean_rules.new.world list c.clean_rules.ensures.cleared))

pub returns-in_err-say-2-clause-cleans : goal.returns-in_err-say-2-clause-cleans
returns-in_err-say-2-clause-cleans g c = λ asks.
    let m = g.W.Disk.meaning in
    let graph = c.args.graph.now in
    let r = c.from_residual-in_err-say-2 in
    let below = are_below_all graph c.as_slice.result.now (subst (AreNodes graph) (sym c.as_slice.ensures.value) (c.in_ok-nodes.ensures.nodes graph asks)) in
    let list = requested_list graph c.as_slice.result.now (nodes_asked c.args.requests.now) c.as_slice-2.result.now _ (c.as_slice.ensures.value ∙ c.in_ok-nodes.ensures.are) c.as_slice-2.ensures below
    c.in_ok-rules.ensures in
    asked_exit m _ graph (nodes_asked c.args.requests.now) c.args.world.now c.clean_rules.new.world r.result _ r.ensures.1
    (inl (cleans_ill m c.args.words.now graph _ _ c.args.world.now c.clean_rules.new.world list c.clean_rules.ensures.cleared))

pub returns-clause-cleans : goal.returns-clause-cleans
returns-clause-cleans g c = λ asks.
    let m = g.W.Disk.meaning in
    let graph = c.args.graph.now in
    let below = are_below_all graph c.as_slice.result.now (subst (AreNodes graph) (sym c.as_slice.ensures.value) (c.in_ok-nodes.ensures.nodes graph asks)) in
    let list = requested_list graph c.as_slice.result.now (nodes_asked c.args.requests.now) c.as_slice-2.result.now _ (c.as_slice.ensures.value ∙ c.in_ok-nodes.ensures.are) c.as_slice-2.ensures below
    c.in_ok-rules.ensures in
    cleans_well m c.args.words.now graph (nodes_asked c.args.requests.now) _ c.args.world.now c.clean_rules.new.world _ list c.clean_rules.ensures.cleared c.in_ok-clean_rules.ensures.gone

pub returns-in_err-nodes-clause-prints : goal.returns-in_err-nodes-clause-prints
returns-in_err-nodes-clause-prints g c = λ asks.
    serve_unclean g.W.Disk.meaning g.O.Sink.meaning c.args.words.now c.args.graph.now c.args.requests.now c.args.world.now c.args.world.now c.args.out.now c.args.out.now c.from_residual.result stop.Memory
    c.from_residual.ensures.1 tt (some_none g.O.Sink.meaning c.args.out.now _)

pub returns-in_err-say-clause-prints : goal.returns-in_err-say-clause-prints
returns-in_err-say-clause-prints g c = λ asks.
    let r = c.from_residual-in_err-say in
    let h = c.in_err-say.ensures.prints cleaning_text c.cleaning_text.ensures in
    serve_unclean g.W.Disk.meaning g.O.Sink.meaning c.args.words.now c.args.graph.now c.args.requests.now c.args.world.now c.args.world.now c.args.out.now _ r.result _ r.ensures.1 h.0 h.1

pub returns-in_err-rules-clause-prints : goal.returns-in_err-rules-clause-prints
returns-in_err-rules-clause-prints g c = λ asks.
    let r = c.from_residual-in_err-rules in
    serve_unclean g.W.Disk.meaning g.O.Sink.meaning c.args.words.now c.args.graph.now c.args.requests.now c.args.world.now c.args.world.now c.args.out.now _ r.result stop.Memory r.ensures.1 tt
    (some_all g.O.Sink.meaning _ _ _ (c.in_ok-say.ensures.prints cleaning_text c.cleaning_text.ensures))

pub returns-in_err-clean_rules-clause-prints : goal.returns-in_err-clean_rules-clause-prints
returns-in_err-clean_rules-clause-prints g c = λ asks.
    let graph = c.args.graph.now in
    let r = c.from_residual-in_err-clean_rules in
    let below = are_below_all graph c.as_slice.result.now (subst (AreNodes graph) (sym c.as_slice.ensures.value) (c.in_ok-nodes.ensures.nodes graph asks)) in
    let list = requested_list graph c.as_slice.result.now (nodes_asked c.args.requests.now) c.as_slice-2.result.now _ (c.as_slice.ensures.value ∙ c.in_ok-nodes.ensures.are) c.as_slice-2.ensures below
    c.in_ok-rules.ensures in
    serve_removing g.W.Disk.meaning g.O.Sink.meaning c.args.words.now graph c.args.requests.now c.args.world.now c.clean_rules.new.world c.args.out.now _ _ _ r.result _ list
    (c.in_ok-say.ensures.prints cleaning_text c.cleaning_text.ensures) r.ensures.1 c.in_err-clean_rules.ensures.prints

pub returns-in_err-say-2-clause-prints : goal.returns-in_err-say-2-clause-prints
returns-in_err-say-2-clause-prints g c = λ asks.
    let graph = c.args.graph.now in
    let r = c.from_residual-in_err-say-2 in
    let below = are_below_all graph c.as_slice.result.now (subst (AreNodes graph) (sym c.as_slice.ensures.value) (c.in_ok-nodes.ensures.nodes graph asks)) in
    let list = requested_list graph c.as_slice.result.now (nodes_asked c.args.requests.now) c.as_slice-2.result.now _ (c.as_slice.ensures.value ∙ c.in_ok-nodes.ensures.are) c.as_slice-2.ensures below
    c.in_ok-rules.ensures in
    let h = c.in_err-say-2.ensures.prints cleaned_text c.cleaned_text.ensures in
    serve_nearly g.W.Disk.meaning g.O.Sink.meaning c.args.words.now graph c.args.requests.now c.args.world.now c.clean_rules.new.world c.args.out.now _ _ _ _ list
    (c.in_ok-say.ensures.prints cleaning_text c.cleaning_text.ensures) c.in_ok-clean_rules.ensures.prints r.result _ r.ensures.1 h.0 h.1

pub returns-clause-prints : goal.returns-clause-prints
returns-clause-prints g c = λ asks.
    let graph = c.args.graph.now in
    let below = are_below_all graph c.as_slice.result.now (subst (AreNodes graph) (sym c.as_slice.ensures.value) (c.in_ok-nodes.ensures.nodes graph asks)) in
    let list = requested_list graph c.as_slice.result.now (nodes_asked c.args.requests.now) c.as_slice-2.result.now _ (c.as_slice.ensures.value ∙ c.in_ok-nodes.ensures.are) c.as_slice-2.ensures below
    c.in_ok-rules.ensures in
    serve_cleaned g.W.Disk.meaning g.O.Sink.meaning c.args.words.now graph c.args.requests.now c.args.world.now c.clean_rules.new.world c.args.out.now _ _ _ _ list
    (c.in_ok-say.ensures.prints cleaning_text c.cleaning_text.ensures) c.in_ok-clean_rules.ensures.prints c.good.result (c.in_ok-say-2.ensures.prints cleaned_text c.cleaned_text.ensures)
