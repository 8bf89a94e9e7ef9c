use Rattle.scons_top.proofs.Serving.{run_asked, run_help, run_read, run_served}
use Rattle.scons_top.proofs.Telling.{none_told, stops_silent}
use Rattle.scons_top.proofs.Wording.{reading_asks, reading_before, run_behind, run_refused, run_untold, serves_asks}
use Rattle.scons_top.proofs.Opening.{reading_ends, help_ends, asked_unopened, run_after}
use Rattle.scons_top.proofs.Clearing.{not_reading, cleans_after}
use Rattle.scons_top.specs.declared.step.Step.TheVariants as step
use Rattle.scons_top.proofs.Watching.{watches_on}
use Rattle.scons_top.proofs.Stepping.{reading_runs, serves_runs, leaves_reading, leaves_after, ends_exit}
use Rattle.scons_top.proofs.Asking.{stops_asked, unknown_stop, unknown_else, reading_else, serves_else}
use Rattle.scons_top.proofs.Stopping.{steps_looked, steps_on}
use Rattle.world_api.proofs.Looking.{looks_joined}
use Rattle.scons_top.proofs.Early.{any_stop, stop_after}
use Rattle.std.proofs.Common.{◌∙◌, ap, inl, subst, sym}
use Rattle.build_run.specs.Causes.{Outside}
use Rattle.scons_top.specs.Asked.{asked_by, words_asked, IsUnknownOf}
use Rattle.scons_top.specs.Requested.{AskForNodes, nodes_asked}
use Rattle.scons_top.proofs.Building.{no_help, stops}
use Rattle.scons_top.proofs.Built.{builds_looked}
use Rattle.scons_top.proofs.Causing.{same_world, exit_report, world_stop, stop_back, report_back}
use Rattle.scons_top.proofs.Following.{does_looked, follows_asked, follows_help, follows_read, follows_served}
use Rattle.scons_top.proofs.top.run.Goals as goal

pub returns-in_err-requests-clause-dry : goal.returns-in_err-requests-clause-dry
returns-in_err-requests-clause-dry g c = λ is. looks_joined _ _ _ _ c.read.ensures.watches.looks c.requests_of.ensures.watches.looks

pub returns-in_err-requests-clause-early : goal.returns-in_err-requests-clause-early
returns-in_err-requests-clause-early g c =
    any_stop _ c.from_residual-in_err-requests.result (looks_joined _ _ _ _ c.read.ensures.watches.looks c.requests_of.ensures.watches.looks)

pub returns-clause-dry : goal.returns-clause-dry
returns-clause-dry g c = λ is.
    looks_joined _ _ _ _ (looks_joined _ _ _ _ c.read.ensures.watches.looks c.requests_of.ensures.watches.looks) (c.serve.ensures.dry is)

pub returns-clause-early : goal.returns-clause-early
returns-clause-early g c =
    stop_after _ _ _ _ c.serve.result (looks_joined _ _ _ _ c.read.ensures.watches.looks c.requests_of.ensures.watches.looks) c.serve.ensures.early

pub returns-in_err-graph-clause-reports : goal.returns-in_err-graph-clause-reports
returns-in_err-graph-clause-reports g c = exit_report _ _ c.from_residual.result _ c.from_residual.ensures.1 (c.in_err-graph.ensures.steps _)

pub returns-then-words-clause-reports : goal.returns-then-words-clause-reports
returns-then-words-clause-reports g c = report_back _ _ _ c.help.result (c.in_ok-graph.ensures.steps _) (c.help.ensures.reports _ _)

pub returns-in_err-requests-clause-reports : goal.returns-in_err-requests-clause-reports
returns-in_err-requests-clause-reports g c =
    let r = c.from_residual-in_err-requests in
    exit_report _ _ r.result _ r.ensures.1 (stop_back _ _ _ _ (c.in_ok-graph.ensures.steps _) (world_stop _ _ _ _ _ c.in_err-requests.ensures.step))

pub returns-clause-reports : goal.returns-clause-reports
returns-clause-reports g c = report_back _ _ _ c.serve.result (same_world _ _ _ _ c.in_ok-requests.ensures.step ∙ c.in_ok-graph.ensures.steps _) c.serve.ensures.reports

pub serve-requires-clause-nodes : goal.serve-requires-clause-nodes
serve-requires-clause-nodes g c = subst (AskForNodes c.requests_of.new.graph) (sym c.as_slice.ensures.value) c.in_ok-requests.ensures.nodes

pub returns-in_err-graph-clause-builds : goal.returns-in_err-graph-clause-builds
returns-in_err-graph-clause-builds g c =
    stops g.W.Disk.meaning c.args.words.now c.args.world.now _ c.from_residual.result _ c.from_residual.ensures.1 (inl c.read.ensures.watches.looks)

pub returns-then-words-clause-builds : goal.returns-then-words-clause-builds
returns-then-words-clause-builds g c = no_help c.args.words.now c.if-words.true

pub returns-in_err-requests-clause-builds : goal.returns-in_err-requests-clause-builds
returns-in_err-requests-clause-builds g c =
    let r = c.from_residual-in_err-requests in
    stops g.W.Disk.meaning c.args.words.now c.args.world.now _ r.result _ r.ensures.1
    (inl (looks_joined _ _ _ _ c.read.ensures.watches.looks c.requests_of.ensures.watches.looks))

pub returns-clause-builds : goal.returns-clause-builds
returns-clause-builds g c =
    let counts = c.in_ok-requests.ensures.step ∙ ap (λ (o : Outside). o.counts) (c.in_ok-graph.ensures.steps 0) in
    builds_looked g.W.Disk.meaning c.args.words.now c.args.world.now c.requests_of.new.world c.serve.new.world c.serve.result g.met.W.Disk.only_now
    (looks_joined _ _ _ _ c.read.ensures.watches.looks c.requests_of.ensures.watches.looks) c.serve.ensures.passes.told c.requires.idle counts
    (steps_looked g.W.Disk.meaning g.met.W.Disk.only_now c.args.world.now c.requests_of.new.world
    (looks_joined _ _ _ _ c.read.ensures.watches.looks c.requests_of.ensures.watches.looks))
    (c.serve.ensures.builds (subst (AskForNodes c.requests_of.new.graph) (sym c.as_slice.ensures.value) c.in_ok-requests.ensures.nodes))

pub returns-in_err-graph-clause-safe : goal.returns-in_err-graph-clause-safe
returns-in_err-graph-clause-safe g c =
    steps_looked g.W.Disk.meaning g.met.W.Disk.only_now _ _ c.read.ensures.watches.looks

pub returns-then-words-clause-safe : goal.returns-then-words-clause-safe
returns-then-words-clause-safe g c =
    steps_looked g.W.Disk.meaning g.met.W.Disk.only_now _ _ c.read.ensures.watches.looks

pub returns-in_err-requests-clause-safe : goal.returns-in_err-requests-clause-safe
returns-in_err-requests-clause-safe g c =
    steps_looked g.W.Disk.meaning g.met.W.Disk.only_now _ _
    (looks_joined _ _ _ _ c.read.ensures.watches.looks c.requests_of.ensures.watches.looks)

pub returns-clause-safe : goal.returns-clause-safe
returns-clause-safe g c =
    steps_on g.W.Disk.meaning c.args.world.now c.requests_of.new.world c.serve.new.world c.serve.ensures.passes.told
    (steps_looked g.W.Disk.meaning g.met.W.Disk.only_now c.args.world.now c.requests_of.new.world
    (looks_joined _ _ _ _ c.read.ensures.watches.looks c.requests_of.ensures.watches.looks))
    (c.serve.ensures.safe (subst (AskForNodes c.requests_of.new.graph) (sym c.as_slice.ensures.value) c.in_ok-requests.ensures.nodes))

pub returns-in_err-graph-clause-comes : goal.returns-in_err-graph-clause-comes
returns-in_err-graph-clause-comes g c = reading_runs c.args.words.now c.read.new.at c.read.ensures.reading

pub returns-clause-comes : goal.returns-clause-comes
returns-clause-comes g c = serves_runs c.args.words.now c.serve.new.at c.if-words.false c.serve.ensures.serves

pub returns-in_err-graph-clause-leaves : goal.returns-in_err-graph-clause-leaves
returns-in_err-graph-clause-leaves g c = leaves_reading _ _ _ _ c.read.ensures.reading c.read.ensures.watches.looks

pub returns-then-words-clause-leaves : goal.returns-then-words-clause-leaves
returns-then-words-clause-leaves g c = c.read.ensures.watches.looks

pub returns-in_err-requests-clause-leaves : goal.returns-in_err-requests-clause-leaves
returns-in_err-requests-clause-leaves g c = looks_joined _ _ _ _ c.read.ensures.watches.looks c.requests_of.ensures.watches.looks

pub returns-clause-leaves : goal.returns-clause-leaves
returns-clause-leaves g c = leaves_after _ g.met.W.Disk.only_now _ _ _ _ (watches_on _ _ _ _ c.read.ensures.watches c.requests_of.ensures.watches) c.serve.ensures.leaves

pub returns-in_err-graph-clause-ends : goal.returns-in_err-graph-clause-ends
returns-in_err-graph-clause-ends g c = ends_exit _ c.from_residual.result _ c.from_residual.ensures.1 c.in_err-graph.ensures.stops

pub returns-then-words-clause-ends : goal.returns-then-words-clause-ends
returns-then-words-clause-ends g c = c.help.ensures.ends

pub returns-in_err-requests-clause-ends : goal.returns-in_err-requests-clause-ends
returns-in_err-requests-clause-ends g c = let r = c.from_residual-in_err-requests in ends_exit step.Requests r.result _ r.ensures.1 (stops_asked (IsUnknownOf c.requests_of.new.graph (asked_by c.in_ok-graph.graph c.args.words.now)) _ c.in_err-requests.ensures.stops)

pub returns-clause-ends : goal.returns-clause-ends
returns-clause-ends g c = c.serve.ensures.ends

pub returns-in_err-graph-clause-cleans : goal.returns-in_err-graph-clause-cleans
returns-in_err-graph-clause-cleans g c = λ is. not_reading _ c.read.ensures.reading is

pub returns-then-words-clause-cleans : goal.returns-then-words-clause-cleans
returns-then-words-clause-cleans g c = λ is. absurd (let no = is in cc)

pub returns-in_err-requests-clause-cleans : goal.returns-in_err-requests-clause-cleans
returns-in_err-requests-clause-cleans g c = λ is. absurd (let no = is in cc)

pub returns-clause-cleans : goal.returns-clause-cleans
returns-clause-cleans g c =
    cleans_after g.W.Disk.meaning c.args.words.now _ c.args.world.now c.requests_of.new.world c.serve.new.world c.serve.result
    (watches_on _ _ _ _ c.read.ensures.watches c.requests_of.ensures.watches) c.requires.idle c.serve.ensures.passes.told.told
    (c.serve.ensures.cleans (subst (AskForNodes c.requests_of.new.graph) (sym c.as_slice.ensures.value) c.in_ok-requests.ensures.nodes))

pub returns-in_err-graph-clause-bytes : goal.returns-in_err-graph-clause-bytes
returns-in_err-graph-clause-bytes g c = λ t. reading_ends _ _ c.from_residual.result c.read.ensures.reading (returns-in_err-graph-clause-ends g c)

pub returns-then-words-clause-bytes : goal.returns-then-words-clause-bytes
returns-then-words-clause-bytes g c = λ t. help_ends _ c.help.result c.help.ensures.ends

pub returns-in_err-requests-clause-bytes : goal.returns-in_err-requests-clause-bytes
returns-in_err-requests-clause-bytes g c =
    let r = c.from_residual-in_err-requests in
    run_after g.W.Disk.meaning step.Requests c.args.world.now c.read.new.world c.requests_of.new.world r.result c.read.ensures.watches.looks c.requests_of.ensures.watches.looks.told.told
    (λ t. asked_unopened _ r.result _ r.ensures.1 (c.in_err-requests.ensures.bytes t))

pub returns-clause-bytes : goal.returns-clause-bytes
returns-clause-bytes g c =
    run_after g.W.Disk.meaning _ c.args.world.now c.requests_of.new.world c.serve.new.world c.serve.result
    (looks_joined _ _ _ _ c.read.ensures.watches.looks c.requests_of.ensures.watches.looks) c.serve.ensures.passes.told.told c.serve.ensures.bytes

pub returns-in_err-graph-clause-unknown : goal.returns-in_err-graph-clause-unknown
returns-in_err-graph-clause-unknown g c =
    unknown_else c.args.words.now c.read.new.at c.from_residual.result (λ word. reading_else _ word c.read.ensures.reading) (returns-in_err-graph-clause-ends g c)

pub returns-then-words-clause-unknown : goal.returns-then-words-clause-unknown
returns-then-words-clause-unknown g c = unknown_else c.args.words.now step.Help c.help.result (λ word h. h) c.help.ensures.ends

pub returns-in_err-requests-clause-unknown : goal.returns-in_err-requests-clause-unknown
returns-in_err-requests-clause-unknown g c =
    let r = c.from_residual-in_err-requests in
    unknown_stop c.args.words.now c.in_ok-graph.graph.defaults c.requests_of.new.graph r.result _ r.ensures.1 c.in_err-requests.ensures.stops

pub returns-clause-unknown : goal.returns-clause-unknown
returns-clause-unknown g c =
    unknown_else c.args.words.now c.serve.new.at c.serve.result (λ word. serves_else c.args.words.now _ word c.serve.ensures.serves) c.serve.ensures.ends

pub returns-in_err-graph-clause-prints : goal.returns-in_err-graph-clause-prints
returns-in_err-graph-clause-prints g c =
    run_read g.W.Disk.meaning g.O.Sink.meaning c.args.words.now c.read.new.at c.args.world.now _ _ _ c.from_residual.result _ c.read.ensures.reading c.from_residual.ensures.1 c.in_err-graph.ensures.prints

pub returns-then-words-clause-prints : goal.returns-then-words-clause-prints
returns-then-words-clause-prints g c =
    run_help g.W.Disk.meaning g.O.Sink.meaning c.args.words.now c.in_ok-graph.graph c.args.world.now c.args.world.now _ _ _ c.help.result c.in_ok-graph.ensures.prints c.help.ensures.prints

pub returns-in_err-requests-clause-prints : goal.returns-in_err-requests-clause-prints
returns-in_err-requests-clause-prints g c =
    run_asked g.W.Disk.meaning g.O.Sink.meaning c.args.words.now c.args.world.now c.args.world.now _ _ c.from_residual-in_err-requests.result c.in_ok-graph.ensures.prints

pub returns-clause-prints : goal.returns-clause-prints
returns-clause-prints g c =
    let graph = c.requests_of.new.graph in
    let requests = c.as_slice.result.now in
    let asks = subst (AskForNodes graph) (sym c.as_slice.ensures.value) c.in_ok-requests.ensures.nodes in
    run_served g.W.Disk.meaning g.O.Sink.meaning c.args.words.now _ graph requests c.args.world.now c.requests_of.new.world c.serve.new.world _ _ _ c.serve.result
    (looks_joined _ _ _ _ c.read.ensures.watches.looks c.requests_of.ensures.watches.looks) c.serve.ensures.passes.told.told c.requires.idle
    (ap words_asked c.as_slice.ensures.value ∙ c.in_ok-requests.ensures.words) asks c.in_ok-graph.ensures.prints c.serve.new.at c.serve.ensures.serves (c.serve.ensures.prints asks)

pub returns-in_err-graph-clause-tells : goal.returns-in_err-graph-clause-tells
returns-in_err-graph-clause-tells g c = stops_silent g.E.Sink.meaning c.args.err.now _ c.from_residual.result c.from_residual.ensures.1

pub returns-in_err-requests-clause-tells : goal.returns-in_err-requests-clause-tells
returns-in_err-requests-clause-tells g c = stops_silent g.E.Sink.meaning c.args.err.now _ c.from_residual-in_err-requests.result c.from_residual-in_err-requests.ensures.1

pub returns-then-words-clause-tells : goal.returns-then-words-clause-tells
returns-then-words-clause-tells g c = none_told g.E.Sink.meaning c.args.err.now c.help.result c.help.ensures.faults

pub returns-in_err-graph-clause-asks : goal.returns-in_err-graph-clause-asks
returns-in_err-graph-clause-asks g c =
    run_untold g.W.Disk.meaning c.args.words.now c.read.new.at c.args.world.now c.read.new.world c.from_residual.result (λ word. reading_else _ word c.read.ensures.reading)
    (reading_asks _ c.read.ensures.reading) (reading_before _ c.read.ensures.reading) (returns-in_err-graph-clause-ends g c)

pub returns-then-words-clause-asks : goal.returns-then-words-clause-asks
returns-then-words-clause-asks g c =
    run_untold g.W.Disk.meaning c.args.words.now step.Help c.args.world.now c.read.new.world c.help.result (λ word h. h) (λ is. let no = is in cc) (λ behind. behind) c.help.ensures.ends

pub returns-in_err-requests-clause-asks : goal.returns-in_err-requests-clause-asks
returns-in_err-requests-clause-asks g c =
    let r = c.from_residual-in_err-requests in
    run_refused g.W.Disk.meaning c.args.words.now c.in_ok-graph.graph c.args.world.now c.requests_of.new.world
    (looks_joined _ _ _ _ c.read.ensures.watches.looks c.requests_of.ensures.watches.looks) c.requires.idle r.result _ r.ensures.1 c.in_err-requests.ensures.names c.in_err-requests.ensures.misses

pub returns-clause-asks : goal.returns-clause-asks
returns-clause-asks g c =
    run_behind g.W.Disk.meaning c.args.words.now c.in_ok-graph.graph c.args.world.now c.requests_of.new.world
    (looks_joined _ _ _ _ c.read.ensures.watches.looks c.requests_of.ensures.watches.looks) c.requires.idle c.serve.new.at c.serve.new.world c.serve.result
    c.serve.ensures.passes.told.told c.in_ok-requests.ensures.names (λ word. serves_else c.args.words.now _ word c.serve.ensures.serves) (serves_asks c.args.words.now _ c.serve.ensures.serves) c.serve.ensures.ends

pub returns-in_err-graph-clause-follows : goal.returns-in_err-graph-clause-follows
returns-in_err-graph-clause-follows g c =
    follows_read g.W.Disk.meaning g.O.Sink.meaning c.args.words.now c.read.new.at c.args.world.now c.read.new.world c.args.out.now c.read.new.out c.from_residual.result _ c.read.ensures.reading
    c.from_residual.ensures.1 c.read.ensures.watches.looks c.requires.idle c.in_err-graph.ensures.reads

pub returns-then-words-clause-follows : goal.returns-then-words-clause-follows
returns-then-words-clause-follows g c =
    follows_help g.W.Disk.meaning g.O.Sink.meaning c.args.words.now c.in_ok-graph.graph c.args.world.now c.read.new.world c.args.out.now c.read.new.out c.read.ensures.watches.looks c.requires.idle
    c.in_ok-graph.ensures.reads c.help.new.out c.help.result c.help.ensures.prints

pub returns-in_err-requests-clause-follows : goal.returns-in_err-requests-clause-follows
returns-in_err-requests-clause-follows g c =
    let r = c.from_residual-in_err-requests in
    let looks = c.read.ensures.watches.looks in
    let on = c.requests_of.ensures.watches.looks in
    follows_asked g.W.Disk.meaning g.O.Sink.meaning c.args.words.now c.in_ok-graph.graph c.args.world.now c.read.new.world c.args.out.now c.read.new.out looks c.requires.idle c.in_ok-graph.ensures.reads
    c.requests_of.new.world on (looks_joined _ _ _ _ looks on) r.result _ r.ensures.1 c.in_err-requests.ensures.names

pub returns-clause-follows : goal.returns-clause-follows
returns-clause-follows g c =
    let m = g.W.Disk.meaning in
    let said = c.args.words.now in
    let old = c.args.world.now in
    let here = c.requests_of.new.world in
    let new = c.serve.new.world in
    let graph = c.requests_of.new.graph in
    let requests = c.as_slice.result.now in
    let asks = subst (AskForNodes graph) (sym c.as_slice.ensures.value) c.in_ok-requests.ensures.nodes in
    let looks = c.read.ensures.watches.looks in
    let on = c.requests_of.ensures.watches.looks in
    let all = looks_joined m _ _ _ looks on in
    let counts = c.in_ok-requests.ensures.step ∙ ap (λ (o : Outside). o.counts) (c.in_ok-graph.ensures.steps 0) in
    follows_served m g.O.Sink.meaning said c.in_ok-graph.graph old c.read.new.world c.args.out.now c.read.new.out looks c.requires.idle c.in_ok-graph.ensures.reads
    here on all graph requests c.requests_of.ensures.grown (ap words_asked c.as_slice.ensures.value ∙ c.in_ok-requests.ensures.words) asks c.in_ok-requests.ensures.names new c.serve.new.out c.serve.result
    c.serve.new.at c.serve.ensures.serves c.serve.ensures.passes.told.told
    (does_looked m said graph (nodes_asked requests) old here new c.serve.result g.met.W.Disk.only_now (watches_on m _ _ _ c.read.ensures.watches c.requests_of.ensures.watches) c.serve.ensures.passes.told
    c.requires.idle counts (steps_looked m g.met.W.Disk.only_now old here all) c.serve.new.at (c.serve.ensures.of asks))
    (c.serve.ensures.prints asks)
