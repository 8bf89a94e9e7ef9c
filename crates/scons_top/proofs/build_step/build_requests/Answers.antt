use Rattle.report_texts.specs.Texts.{building_text}
use Rattle.scons_top.proofs.Serving.{all_told, none_left, serve_built, serve_treed, serve_unbuilt, serve_unopened}
use Rattle.scons_top.proofs.Telling.{stops_silent, tells_behind, tells_closed}
use Rattle.build_run.specs.Causes.{Outside}
use Rattle.std.specs.Prelude.{Ok}
use Rattle.scons_top.proofs.Opening.{building_ends, memory_unopened, stops_unopened}
use Rattle.scons_top.specs.declared.step.Step.TheVariants as step
use Rattle.scons_top.proofs.Stepping.{ends_memory, ends_exit, reports_at, sink_at, building_at}
use Rattle.scons_top.proofs.Stopping.{runs_looked, steps_begun, steps_here, steps_on}
use Rattle.std.proofs.Common.{◌∙◌, ap, inl, refl, subst, sym, inr}
use Rattle.scons_top.proofs.Causing.{same_world, same_out, exit_report, report_memory, world_stop, sink_stop, stop_back, caused_back, build_found}
use Rattle.world_api.proofs.Looking.{looks_same}
use Rattle.sign_store.specs.Stores.{map_of}
use Rattle.build_run.proofs.Goings.{passes_on}
use Rattle.scons_top.specs.Requested.{AreNodes, nodes_asked}
use Rattle.scons_top.proofs.Building.{stops, stops_begun}
use Rattle.scons_top.proofs.Built.{build_done, built_looked}
use Rattle.scons_top.proofs.Reported.{reports_closed, reports_treed}
use Rattle.scons_top.proofs.Shown.{caused_skipping, ends_skipping, none_found, tells_skipping}
use Rattle.scons_top.proofs.Watching.{idle_of, passes_of}
use Rattle.scons_top.proofs.Requesting.{are_below_all}
use Rattle.scons_top.proofs.Following.{builds_exit}
use Rattle.scons_top.proofs.build_step.build_requests.Goals as goal

pub returns-in_err-nodes-clause-reports : goal.returns-in_err-nodes-clause-reports
returns-in_err-nodes-clause-reports g c = report_memory _ _ c.from_residual.result c.from_residual.ensures.1 refl

pub returns-in_err-store-clause-reports : goal.returns-in_err-store-clause-reports
returns-in_err-store-clause-reports g c =
    let r = c.from_residual-in_err-store in
    exit_report _ _ r.result _ r.ensures.1 (world_stop _ _ _ _ _ c.in_err-store.ensures.step)

pub returns-in_err-say-clause-reports : goal.returns-in_err-say-clause-reports
returns-in_err-say-clause-reports g c =
    let r = c.from_residual-in_err-say in
    exit_report _ _ r.result _ r.ensures.1 (stop_back _ _ _ _ (same_world _ _ _ _ c.in_ok-store.ensures.step) (sink_stop _ _ _ _ _ c.in_err-say.ensures.step))

pub returns-clause-reports : goal.returns-clause-reports
returns-clause-reports g c =
    let same = same_out _ _ _ _ c.in_ok-say.ensures.step ∙ same_world _ _ _ _ c.in_ok-store.ensures.step in
    caused_back _ _ _ c.closed.result same (c.closed.ensures.causes _ _ _ _ _ (build_found _ _ _ _ c.build-end.ensures.causes) c.tell_end-written.ensures.step)

pub returns-clause-passes : goal.returns-clause-passes
returns-clause-passes g c =
    let end = c.build-end.ensures in
    passes_on g.W.Disk.meaning _ _ _ c.begin_store.ensures.goes.passes (record { told = end.told; later = end.later })

pub returns-in_err-nodes-clause-builds : goal.returns-in_err-nodes-clause-builds
returns-in_err-nodes-clause-builds g c = λ asks.
    let m = g.W.Disk.meaning in
    stops m c.args.words.now c.args.world.now _ c.from_residual.result _ c.from_residual.ensures.1 (inl (looks_same m c.args.world.now))

pub returns-in_err-store-clause-builds : goal.returns-in_err-store-clause-builds
returns-in_err-store-clause-builds g c = λ asks.
    let r = c.from_residual-in_err-store in
    stops_begun g.W.Disk.meaning c.args.words.now c.args.world.now _ r.result _ r.ensures.1 c.begin_store.ensures.begins

pub returns-in_err-say-clause-builds : goal.returns-in_err-say-clause-builds
returns-in_err-say-clause-builds g c = λ asks.
    let r = c.from_residual-in_err-say in
    stops_begun g.W.Disk.meaning c.args.words.now c.args.world.now _ r.result _ r.ensures.1 c.begin_store.ensures.begins

pub returns-clause-builds : goal.returns-clause-builds
returns-clause-builds g c = λ asks ask tells sure.
    let graph = c.args.graph.now in
    let requested = c.as_slice.result.now in
    let nodes = subst (AreNodes graph) (sym c.as_slice.ensures.value) (c.in_ok-nodes.ensures.nodes graph asks) in
    let store = c.in_ok-store in
    let end = c.build-end in
    build_done g.W.Disk.meaning c.args.words.now graph requested (map_of store.store) c.args.world.now c.begin_store.new.world end.new.world
    (map_of end.new.store) end.result c.closed.result store.ensures.begins
    (steps_begun g.W.Disk.meaning g.met.W.Disk.reads_as c.args.world.now c.begin_store.new.world c.begin_store.ensures.goes.passes.told store.ensures.begins)
    end.ensures.told store.ensures.step store.ensures.map
    (are_below_all graph requested nodes) c.closed.ensures.well c.closed.ensures.whole
    (λ ne. all_told end.result.faults c.tell_end-written.result c.closed.result.faults (c.closed.ensures.list ne)) c.closed.ensures.skipped end.ensures.ends
    tells sure end.ensures.skips end.ensures.counts.counted end.ensures.remembers end.ensures.forgets end.ensures.succeeds
    (reports_closed c.args.words.now end.result.faults c.tell_end-written.result c.closed.result c.closed.ensures.list c.closed.ensures.only) end.ensures.faulted

pub returns-in_err-nodes-clause-safe : goal.returns-in_err-nodes-clause-safe
returns-in_err-nodes-clause-safe g c = λ asks. steps_here g.W.Disk.meaning g.met.W.Disk.only_now c.args.world.now

pub returns-in_err-store-clause-safe : goal.returns-in_err-store-clause-safe
returns-in_err-store-clause-safe g c = λ asks.
    let begun = c.begin_store.ensures in
    steps_begun g.W.Disk.meaning g.met.W.Disk.reads_as c.args.world.now c.begin_store.new.world begun.goes.passes.told begun.begins

pub returns-in_err-say-clause-safe : goal.returns-in_err-say-clause-safe
returns-in_err-say-clause-safe g c = λ asks.
    let begun = c.begin_store.ensures in
    steps_begun g.W.Disk.meaning g.met.W.Disk.reads_as c.args.world.now c.begin_store.new.world begun.goes.passes.told begun.begins

pub returns-clause-safe : goal.returns-clause-safe
returns-clause-safe g c = λ asks.
    let m = g.W.Disk.meaning in
    let graph = c.args.graph.now in
    let requested = c.as_slice.result.now in
    let nodes = subst (AreNodes graph) (sym c.as_slice.ensures.value) (c.in_ok-nodes.ensures.nodes graph asks) in
    let old = c.args.world.now in
    let begun = c.begin_store in
    let end = c.build-end in
    steps_on m old begun.new.world end.new.world end.ensures.told
    (steps_begun m g.met.W.Disk.reads_as old begun.new.world begun.ensures.goes.passes.told begun.ensures.begins)
    (λ s law truth. end.ensures.safe s law truth (are_below_all graph requested nodes))

-- behind a build without a fault

pub returns-then-has_trees-clause-passes : goal.returns-then-has_trees-clause-passes
returns-then-has_trees-clause-passes g c =
    let m = g.W.Disk.meaning in
    let end = c.build-end in
    passes_on m _ _ _ c.begin_store.ensures.goes.passes (passes_on m _ end.new.world c.tell_trees-report.new.world
    (record { told = end.ensures.told; later = end.ensures.later }) (passes_of m _ _ c.tell_trees-report.ensures.watches))

pub returns-then-has_trees-clause-idle : goal.returns-then-has_trees-clause-idle
returns-then-has_trees-clause-idle g c = idle_of g.W.Disk.meaning _ _ c.tell_trees-report.ensures.watches c.build-end.ensures.idle

pub returns-then-has_trees-clause-reports : goal.returns-then-has_trees-clause-reports
returns-then-has_trees-clause-reports g c =
    let is = c.if-has_trees.true in
    let has = c.has_trees.ensures in
    let none = none_found _ _ _ _ (has.faults is) (has.memory is) c.build-end.ensures.causes in
    let same = same_out _ _ _ _ c.in_ok-say.ensures.step ∙ same_world _ _ _ _ c.in_ok-store.ensures.step in
    let skipped = c.build-end.result.skipped in
    caused_back _ _ _ (record c.tell_trees-report.result { skipped = skipped }) (none ∙ same) (caused_skipping _ _ c.tell_trees-report.result skipped c.tell_trees-report.ensures.causes)

pub returns-then-has_trees-clause-builds : goal.returns-then-has_trees-clause-builds
returns-then-has_trees-clause-builds g c = λ asks ask tells sure.
    let m = g.W.Disk.meaning in
    let said = c.args.words.now in
    let old = c.args.world.now in
    let graph = c.args.graph.now in
    let requested = c.as_slice.result.now in
    let nodes = subst (AreNodes graph) (sym c.as_slice.ensures.value) (c.in_ok-nodes.ensures.nodes graph asks) in
    let store = c.in_ok-store in
    let end = c.build-end in
    let watches = c.tell_trees-report.ensures.watches in
    let here = watches.looks.told.told tells in
    let is = c.if-has_trees.true in
    let has = c.has_trees.ensures in
    let report = record c.tell_trees-report.result { skipped = end.result.skipped } in
    built_looked m said old end.new.world c.tell_trees-report.new.world report g.met.W.Disk.only_now watches tells end.ensures.idle
    (build_done m said graph requested (map_of store.store) old c.begin_store.new.world end.new.world (map_of end.new.store) end.result
    report store.ensures.begins
    (steps_begun m g.met.W.Disk.reads_as old c.begin_store.new.world c.begin_store.ensures.goes.passes.told store.ensures.begins)
    end.ensures.told store.ensures.step store.ensures.map (are_below_all graph requested nodes)
    (λ zero. (has.faults is, has.memory is)) (λ ne. has.memory is) (λ ne. none_left end.result.faults report.faults (has.faults is)) refl end.ensures.ends
    here (watches.looks.told.sure tells sure) end.ensures.skips end.ensures.counts.counted end.ensures.remembers end.ensures.forgets end.ensures.succeeds
    (reports_treed said end.result.faults report (has.shows is)) end.ensures.faulted)

pub returns-then-has_trees-clause-safe : goal.returns-then-has_trees-clause-safe
returns-then-has_trees-clause-safe g c = λ asks.
    let m = g.W.Disk.meaning in
    let graph = c.args.graph.now in
    let requested = c.as_slice.result.now in
    let nodes = subst (AreNodes graph) (sym c.as_slice.ensures.value) (c.in_ok-nodes.ensures.nodes graph asks) in
    let old = c.args.world.now in
    let begun = c.begin_store in
    let end = c.build-end in
    runs_looked m g.met.W.Disk.only_now old end.new.world c.tell_trees-report.new.world
    (steps_on m old begun.new.world end.new.world end.ensures.told
    (steps_begun m g.met.W.Disk.reads_as old begun.new.world begun.ensures.goes.passes.told begun.ensures.begins)
    (λ s law truth. end.ensures.safe s law truth (are_below_all graph requested nodes)))
    c.tell_trees-report.ensures.watches.looks

pub returns-in_err-nodes-clause-ends : goal.returns-in_err-nodes-clause-ends
returns-in_err-nodes-clause-ends g c = ends_memory step.Store c.from_residual.result c.from_residual.ensures.1

pub returns-in_err-store-clause-ends : goal.returns-in_err-store-clause-ends
returns-in_err-store-clause-ends g c = let r = c.from_residual-in_err-store in ends_exit step.Store r.result _ r.ensures.1 c.in_err-store.ensures.stops

pub returns-in_err-say-clause-ends : goal.returns-in_err-say-clause-ends
returns-in_err-say-clause-ends g c = let r = c.from_residual-in_err-say in ends_exit step.Building r.result _ r.ensures.1 (sink_at step.Building _ _ _ c.in_err-say.ensures.step)

pub returns-then-has_trees-clause-ends : goal.returns-then-has_trees-clause-ends
returns-then-has_trees-clause-ends g c = ends_skipping step.Building c.tell_trees-report.result c.build-end.result.skipped c.tell_trees-report.ensures.ends

pub returns-clause-ends : goal.returns-clause-ends
returns-clause-ends g c = reports_at step.Building c.closed.result c.closed.ensures.at (c.closed.ensures.ends (building_at _)) tt

pub returns-in_err-nodes-clause-leaves : goal.returns-in_err-nodes-clause-leaves
returns-in_err-nodes-clause-leaves g c = inl (looks_same g.W.Disk.meaning c.args.world.now)

pub returns-in_err-store-clause-leaves : goal.returns-in_err-store-clause-leaves
returns-in_err-store-clause-leaves g c =
    let m = g.W.Disk.meaning in
    inr (record { looked = c.args.world.now; looks = looks_same m c.args.world.now; begins = c.begin_store.ensures.begins })

pub returns-in_err-nodes-clause-bytes : goal.returns-in_err-nodes-clause-bytes
returns-in_err-nodes-clause-bytes g c = λ t. memory_unopened _ c.from_residual.result c.from_residual.ensures.1

pub returns-in_err-store-clause-bytes : goal.returns-in_err-store-clause-bytes
returns-in_err-store-clause-bytes g c = λ t.
    let r = c.from_residual-in_err-store in
    stops_unopened _ r.result _ r.ensures.1 (c.in_err-store.ensures.bytes t) (c.in_err-store.ensures.refused t)

pub returns-in_err-say-clause-bytes : goal.returns-in_err-say-clause-bytes
returns-in_err-say-clause-bytes g c = λ t. building_ends _ c.from_residual-in_err-say.result (c.in_ok-store.ensures.readable t) (returns-in_err-say-clause-ends g c)

pub returns-then-has_trees-clause-bytes : goal.returns-then-has_trees-clause-bytes
returns-then-has_trees-clause-bytes g c = λ t. building_ends _ (Ok (record c.tell_trees-report.result { skipped = c.build-end.result.skipped })) (c.in_ok-store.ensures.readable (c.build-end.ensures.told.told (c.tell_trees-report.ensures.watches.looks.told.told t))) (returns-then-has_trees-clause-ends g c)

pub returns-clause-bytes : goal.returns-clause-bytes
returns-clause-bytes g c = λ t. building_ends _ (Ok c.closed.result) (c.in_ok-store.ensures.readable (c.build-end.ensures.told.told t)) (returns-clause-ends g c)

pub returns-in_err-nodes-clause-prints : goal.returns-in_err-nodes-clause-prints
returns-in_err-nodes-clause-prints g c = λ asks.
    serve_unopened g.W.Disk.meaning g.O.Sink.meaning c.args.words.now c.args.graph.now c.args.requests.now c.args.world.now c.args.world.now c.args.out.now c.from_residual.result

pub returns-in_err-store-clause-prints : goal.returns-in_err-store-clause-prints
returns-in_err-store-clause-prints g c = λ asks.
    serve_unopened g.W.Disk.meaning g.O.Sink.meaning c.args.words.now c.args.graph.now c.args.requests.now c.args.world.now c.args.world.now c.args.out.now c.from_residual-in_err-store.result

pub returns-in_err-say-clause-prints : goal.returns-in_err-say-clause-prints
returns-in_err-say-clause-prints g c = λ asks.
    let r = c.from_residual-in_err-say in
    let h = c.in_err-say.ensures.prints building_text c.building_text.ensures in
    serve_unbuilt g.W.Disk.meaning g.O.Sink.meaning c.args.words.now c.args.graph.now c.args.requests.now c.args.world.now _ c.args.out.now _ r.result _ r.ensures.1 h.0 h.1

pub returns-then-has_trees-clause-prints : goal.returns-then-has_trees-clause-prints
returns-then-has_trees-clause-prints g c = λ asks.
    let graph = c.args.graph.now in
    let requested = c.as_slice.result.now in
    let nodes = subst (AreNodes graph) (sym c.as_slice.ensures.value) (c.in_ok-nodes.ensures.nodes graph asks) in
    let store = c.in_ok-store in
    let end = c.build-end in
    serve_treed g.W.Disk.meaning g.O.Sink.meaning c.args.words.now graph end.new.graph c.args.requests.now requested _ _ c.args.world.now c.begin_store.new.world end.new.world
    c.tell_trees-report.new.world c.args.out.now _ end.new.out c.tell_trees-report.new.out (map_of store.store) (map_of end.new.store) end.result c.tell_trees-report.result
    (c.as_slice.ensures.value ∙ c.in_ok-nodes.ensures.are) (are_below_all graph requested nodes) c.rules-declared.ensures.len store.ensures.begins end.ensures.told.told store.ensures.map
    (c.in_ok-say.ensures.prints building_text c.building_text.ensures) end.ensures.prints c.tell_trees-report.ensures.watches.looks end.ensures.idle
    (c.has_trees.ensures.shows c.if-has_trees.true) c.tell_trees-report.ensures.prints

pub returns-clause-prints : goal.returns-clause-prints
returns-clause-prints g c = λ asks.
    let graph = c.args.graph.now in
    let requested = c.as_slice.result.now in
    let nodes = subst (AreNodes graph) (sym c.as_slice.ensures.value) (c.in_ok-nodes.ensures.nodes graph asks) in
    let store = c.in_ok-store in
    let end = c.build-end in
    serve_built g.W.Disk.meaning g.O.Sink.meaning c.args.words.now graph end.new.graph c.args.requests.now requested c.args.world.now c.begin_store.new.world end.new.world
    c.args.out.now _ end.new.out c.tell_end-written.new.out (map_of store.store) (map_of end.new.store) end.result c.tell_end-written.result c.closed.result
    (c.as_slice.ensures.value ∙ c.in_ok-nodes.ensures.are) (are_below_all graph requested nodes) store.ensures.begins end.ensures.told.told store.ensures.map
    (c.in_ok-say.ensures.prints building_text c.building_text.ensures) end.ensures.prints c.tell_end-written.ensures.prints (c.has_trees.ensures.plain c.if-has_trees.false) c.closed.ensures.whole c.closed.ensures.list

pub returns-in_err-nodes-clause-tells : goal.returns-in_err-nodes-clause-tells
returns-in_err-nodes-clause-tells g c = stops_silent g.E.Sink.meaning c.args.err.now _ c.from_residual.result c.from_residual.ensures.1

pub returns-in_err-store-clause-tells : goal.returns-in_err-store-clause-tells
returns-in_err-store-clause-tells g c = stops_silent g.E.Sink.meaning c.args.err.now _ c.from_residual-in_err-store.result c.from_residual-in_err-store.ensures.1

pub returns-in_err-say-clause-tells : goal.returns-in_err-say-clause-tells
returns-in_err-say-clause-tells g c = stops_silent g.E.Sink.meaning c.args.err.now _ c.from_residual-in_err-say.result c.from_residual-in_err-say.ensures.1

pub returns-then-has_trees-clause-tells : goal.returns-then-has_trees-clause-tells
returns-then-has_trees-clause-tells g c =
    let is = c.if-has_trees.true in
    let has = c.has_trees.ensures in
    let none = none_found _ _ _ _ (has.faults is) (has.memory is) c.build-end.ensures.causes in
    let skipped = c.build-end.result.skipped in
    tells_behind g.E.Sink.meaning _ _ _ c.build-end.result (record c.tell_trees-report.result { skipped = skipped }) c.build-end.ensures.tells (has.faults is) (has.memory is) (ap (λ (o : Outside). o.err) none)
    (tells_skipping g.E.Sink.meaning _ _ c.tell_trees-report.result skipped c.tell_trees-report.ensures.tells)

pub returns-clause-tells : goal.returns-clause-tells
returns-clause-tells g c = tells_closed g.E.Sink.meaning _ _ c.build-end.result c.tell_end-written.result c.closed.result c.build-end.ensures.tells c.closed.ensures.whole c.closed.ensures.list

pub returns-in_err-nodes-clause-of : goal.returns-in_err-nodes-clause-of
returns-in_err-nodes-clause-of g c = λ asks. builds_exit g.W.Disk.meaning c.args.words.now c.args.graph.now (nodes_asked c.args.requests.now) c.args.world.now c.args.world.now c.from_residual.result _ c.from_residual.ensures.1 (returns-in_err-nodes-clause-builds g c asks)

pub returns-in_err-store-clause-of : goal.returns-in_err-store-clause-of
returns-in_err-store-clause-of g c = λ asks.
    let r = c.from_residual-in_err-store in
    builds_exit g.W.Disk.meaning c.args.words.now c.args.graph.now (nodes_asked c.args.requests.now) c.args.world.now c.begin_store.new.world r.result _ r.ensures.1 (returns-in_err-store-clause-builds g c asks)

pub returns-in_err-say-clause-of : goal.returns-in_err-say-clause-of
returns-in_err-say-clause-of g c = λ asks.
    let r = c.from_residual-in_err-say in
    builds_exit g.W.Disk.meaning c.args.words.now c.args.graph.now (nodes_asked c.args.requests.now) c.args.world.now c.begin_store.new.world r.result _ r.ensures.1 (returns-in_err-say-clause-builds g c asks)

pub returns-then-has_trees-clause-of : goal.returns-then-has_trees-clause-of
unfolding returns-then-has_trees-clause-builds built_looked build_done
returns-then-has_trees-clause-of g c = λ asks ask tells sure.
    inl (record { built = returns-then-has_trees-clause-builds g c asks ask tells sure; graph = refl; requested = c.as_slice.ensures.value ∙ c.in_ok-nodes.ensures.are })

pub returns-clause-of : goal.returns-clause-of
unfolding returns-clause-builds build_done
returns-clause-of g c = λ asks ask tells sure.
    inl (record { built = returns-clause-builds g c asks ask tells sure; graph = refl; requested = c.as_slice.ensures.value ∙ c.in_ok-nodes.ensures.are })
