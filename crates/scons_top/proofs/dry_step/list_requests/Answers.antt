use Rattle.report_texts.specs.Texts.{building_text}
use Rattle.scons_top.proofs.Serving.{serve_faulty, serve_listed, serve_unlisted, serve_wanting}
use Rattle.scons_top.proofs.Telling.{early_none, none_told, stops_silent}
use Rattle.scons_top.proofs.Serving.{serve_unopened}
use Rattle.scons_top.proofs.Opening.{listing_ends, memory_unopened, store_unopened}
use Rattle.scons_top.specs.declared.step.Step.TheVariants as step
use Rattle.scons_top.proofs.Stepping.{ends_memory, ends_store, ends_exit, store_at, sink_at, listing_at}
use Rattle.std.proofs.Common.{◌∙◌, refl, subst, sym}
use Rattle.build_run.specs.Causes.{outside}
use Rattle.scons_top.specs.declared.stop.Stop.TheVariants as stop
use Rattle.scons_top.proofs.Watching.{watches_on}
use Rattle.scons_top.proofs.Causing.{same_world, same_out, exit_report, exit_store, report_memory, world_stop, store_end, store_well, sink_stop, stop_back, report_back, list_alone, list_faulty, list_later}
use Rattle.scons_top.specs.Requested.{AreNodes, nodes_asked}
use Rattle.scons_top.proofs.Listing.{lists_found}
use Rattle.scons_top.proofs.Requesting.{are_below_all}
use Rattle.scons_top.proofs.dry_step.list_requests.Goals as goal

pub returns-in_err-nodes-clause-reports : goal.returns-in_err-nodes-clause-reports
returns-in_err-nodes-clause-reports g c = report_memory _ _ c.from_residual.result c.from_residual.ensures.1 refl

pub returns-in_err-view-clause-reports : goal.returns-in_err-view-clause-reports
returns-in_err-view-clause-reports g c =
    let r = c.from_residual-in_err-view in
    exit_store _ _ r.result _ r.ensures.1 (world_stop _ _ _ _ _ (store_end _ _ _ c.view_of.result _ c.in_err-view.was c.view_of.ensures.cause))

pub returns-in_err-say-clause-reports : goal.returns-in_err-say-clause-reports
returns-in_err-say-clause-reports g c =
    let r = c.from_residual-in_err-say in
    exit_report _ _ r.result _ r.ensures.1 (stop_back _ _ _ _ (same_world _ _ _ _ (store_well _ _ _ c.view_of.result _ c.in_ok-view.was c.view_of.ensures.cause)) (sink_stop _ _ _ _ _ c.in_err-say.ensures.step))

pub returns-in-Ok-clause-watches : goal.returns-in-Ok-clause-watches
returns-in-Ok-clause-watches g c = watches_on _ _ _ _ c.view_of.ensures.watches c.list_of.ensures.watches

pub returns-in-Ok-clause-reports : goal.returns-in-Ok-clause-reports
returns-in-Ok-clause-reports g c =
    let same = same_world _ _ _ _ c.in-Ok.ensures.cause ∙ (same_out _ _ _ _ c.in_ok-say.ensures.step ∙ same_world _ _ _ _ (store_well _ _ _ c.view_of.result _ c.in_ok-view.was c.view_of.ensures.cause)) in
    report_back _ _ _ c.tell_rules.result same (c.tell_rules.ensures.reports _ _)

pub returns-in-Err-Memory-clause-watches : goal.returns-in-Err-Memory-clause-watches
returns-in-Err-Memory-clause-watches g c = watches_on _ _ _ _ c.view_of.ensures.watches c.list_of.ensures.watches

pub returns-in-Err-Memory-clause-reports : goal.returns-in-Err-Memory-clause-reports
returns-in-Err-Memory-clause-reports g c =
    let m = g.W.Disk.meaning in
    let old = m.counts c.args.world.now in
    let read = m.counts c.view_of.new.world in
    let new = m.counts c.list_of.new.world in
    let out = g.O.Sink.meaning.faults c.args.out.now in
    let said = g.O.Sink.meaning.faults c.say.new.out in
    let err = g.E.Sink.meaning.faults c.args.err.now in
    let well = store_well m c.args.world.now c.view_of.new.world c.view_of.result _ c.in_ok-view.was c.view_of.ensures.cause in
    let same = same_out read out said err c.in_ok-say.ensures.step ∙ same_world old read out err well in
    let alone = list_alone read new c.in-Err-Memory.field-0 c.in-Err-Memory.field-0-is c.in-Err-Memory.ensures.cause in
    stop_back (outside old out err) (outside read said err) (outside new said err) stop.Memory same (list_later read new said err alone)

pub returns-clause-watches : goal.returns-clause-watches
returns-clause-watches g c = watches_on _ _ _ _ c.view_of.ensures.watches c.list_of.ensures.watches

pub returns-clause-reports : goal.returns-clause-reports
returns-clause-reports g c =
    let same = same_out _ _ _ _ c.in_ok-say.ensures.step ∙ same_world _ _ _ _ (store_well _ _ _ c.view_of.result _ c.in_ok-view.was c.view_of.ensures.cause) in
    report_back _ _ _ c.end_with.result same (c.end_with.ensures.reports _ _ (list_faulty _ _ _ _ _ c.in-Err-Fault.field-0-is refl c.in-Err-Fault.ensures.cause))

pub returns-in_err-nodes-clause-ends : goal.returns-in_err-nodes-clause-ends
returns-in_err-nodes-clause-ends g c = ends_memory step.Store c.from_residual.result c.from_residual.ensures.1

pub returns-in_err-view-clause-ends : goal.returns-in_err-view-clause-ends
returns-in_err-view-clause-ends g c = let r = c.from_residual-in_err-view in ends_store step.Store r.result _ r.ensures.1 (store_at _)

pub returns-in_err-say-clause-ends : goal.returns-in_err-say-clause-ends
returns-in_err-say-clause-ends g c = let r = c.from_residual-in_err-say in ends_exit step.Listing r.result _ r.ensures.1 (sink_at step.Listing _ _ _ c.in_err-say.ensures.step)

pub returns-in-Ok-clause-ends : goal.returns-in-Ok-clause-ends
returns-in-Ok-clause-ends g c = c.tell_rules.ensures.ends

pub returns-clause-ends : goal.returns-clause-ends
returns-clause-ends g c = c.end_with.ensures.ends (listing_at _ _ _ _ c.in-Err-Fault.field-0-is c.in-Err-Fault.ensures.cause) tt

pub returns-in_err-nodes-clause-bytes : goal.returns-in_err-nodes-clause-bytes
returns-in_err-nodes-clause-bytes g c = λ t. memory_unopened _ c.from_residual.result c.from_residual.ensures.1

pub returns-in_err-view-clause-bytes : goal.returns-in_err-view-clause-bytes
returns-in_err-view-clause-bytes g c = λ t. let r = c.from_residual-in_err-view in store_unopened _ r.result _ r.ensures.1 (c.in_err-view.ensures.refused t)

pub returns-in_err-say-clause-bytes : goal.returns-in_err-say-clause-bytes
returns-in_err-say-clause-bytes g c = λ t. listing_ends _ c.from_residual-in_err-say.result (c.in_ok-view.ensures.readable t) (returns-in_err-say-clause-ends g c)

pub returns-in-Ok-clause-bytes : goal.returns-in-Ok-clause-bytes
returns-in-Ok-clause-bytes g c = λ t. listing_ends _ c.tell_rules.result (c.in_ok-view.ensures.readable (c.list_of.ensures.watches.looks.told.told t)) c.tell_rules.ensures.ends

pub returns-in-Err-Memory-clause-bytes : goal.returns-in-Err-Memory-clause-bytes
returns-in-Err-Memory-clause-bytes g c = λ t. record { stops = tt; readable = λ o. c.in_ok-view.ensures.readable (c.list_of.ensures.watches.looks.told.told t); opening = tt }

pub returns-clause-bytes : goal.returns-clause-bytes
returns-clause-bytes g c = λ t. listing_ends _ c.end_with.result (c.in_ok-view.ensures.readable (c.list_of.ensures.watches.looks.told.told t)) (returns-clause-ends g c)

pub returns-in_err-nodes-clause-tells : goal.returns-in_err-nodes-clause-tells
returns-in_err-nodes-clause-tells g c = stops_silent g.E.Sink.meaning c.args.err.now _ c.from_residual.result c.from_residual.ensures.1

pub returns-in_err-view-clause-tells : goal.returns-in_err-view-clause-tells
returns-in_err-view-clause-tells g c = stops_silent g.E.Sink.meaning c.args.err.now _ c.from_residual-in_err-view.result c.from_residual-in_err-view.ensures.1

pub returns-in_err-say-clause-tells : goal.returns-in_err-say-clause-tells
returns-in_err-say-clause-tells g c = stops_silent g.E.Sink.meaning c.args.err.now _ c.from_residual-in_err-say.result c.from_residual-in_err-say.ensures.1

pub returns-in_err-nodes-clause-prints : goal.returns-in_err-nodes-clause-prints
returns-in_err-nodes-clause-prints g c = λ asks.
    serve_unopened g.W.Disk.meaning g.O.Sink.meaning c.args.words.now c.args.graph.now c.args.requests.now c.args.world.now c.args.world.now c.args.out.now c.from_residual.result

pub returns-in_err-view-clause-prints : goal.returns-in_err-view-clause-prints
returns-in_err-view-clause-prints g c = λ asks.
    serve_unopened g.W.Disk.meaning g.O.Sink.meaning c.args.words.now c.args.graph.now c.args.requests.now c.args.world.now c.view_of.new.world c.args.out.now c.from_residual-in_err-view.result

pub returns-in-Ok-clause-tells : goal.returns-in-Ok-clause-tells
returns-in-Ok-clause-tells g c = none_told g.E.Sink.meaning c.args.err.now c.tell_rules.result c.tell_rules.ensures.faults

pub returns-in-Ok-clause-faults : goal.returns-in-Ok-clause-faults
returns-in-Ok-clause-faults g c = early_none c.tell_rules.result c.tell_rules.ensures.faults

pub returns-in_err-say-clause-prints : goal.returns-in_err-say-clause-prints
returns-in_err-say-clause-prints g c = λ asks.
    let r = c.from_residual-in_err-say in
    let h = c.in_err-say.ensures.prints building_text c.building_text.ensures in
    serve_unlisted g.W.Disk.meaning g.O.Sink.meaning c.args.words.now c.args.graph.now c.args.requests.now c.args.world.now c.view_of.new.world c.args.out.now c.args.out.now _ r.result _ r.ensures.1 h.0 h.1

pub returns-in-Ok-clause-prints : goal.returns-in-Ok-clause-prints
returns-in-Ok-clause-prints g c = λ asks.
    let m = g.W.Disk.meaning in
    let graph = c.args.graph.now in
    let requested = c.as_slice.result.now in
    let nodes = subst (AreNodes graph) (sym c.as_slice.ensures.value) (c.in_ok-nodes.ensures.nodes graph asks) in
    let reading = c.view_of.ensures.watches.looks in
    serve_listed m g.O.Sink.meaning c.args.words.now graph c.args.requests.now c.args.world.now c.list_of.new.world c.args.out.now c.say.new.out _ c.list_of.new.graph _ c.tell_rules.result
    c.tell_rules.ensures.faults (c.in_ok-say.ensures.prints building_text c.building_text.ensures) c.tell_rules.ensures.prints
    (lists_found m graph c.list_of.new.graph c.args.words.now.hash _ requested (nodes_asked c.args.requests.now) _ _ c.args.world.now c.view_of.new.world c.list_of.new.world
    reading c.list_of.ensures.watches.looks.told.told c.requires.idle c.in_ok-view.ensures.map (c.as_slice.ensures.value ∙ c.in_ok-nodes.ensures.are)
    (are_below_all graph requested nodes) c.as_slice-in-Ok.ensures c.in-Ok.ensures.lists)

pub returns-clause-prints : goal.returns-clause-prints
returns-clause-prints g c = λ asks.
    serve_faulty g.W.Disk.meaning g.O.Sink.meaning c.args.words.now c.args.graph.now c.args.requests.now c.args.world.now c.list_of.new.world c.args.out.now c.say.new.out _ _ c.end_with.result
    (c.in_ok-say.ensures.prints building_text c.building_text.ensures) c.end_with.ensures.prints

pub returns-in-Err-Memory-clause-prints : goal.returns-in-Err-Memory-clause-prints
returns-in-Err-Memory-clause-prints g c = λ asks.
    serve_wanting g.W.Disk.meaning g.O.Sink.meaning c.args.words.now c.args.graph.now c.args.requests.now c.args.world.now c.list_of.new.world c.args.out.now c.args.out.now c.say.new.out
    (c.in_ok-say.ensures.prints building_text c.building_text.ensures)
