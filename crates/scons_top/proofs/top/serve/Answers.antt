use Rattle.scons_top.proofs.Telling.{none_told}
use Rattle.scons_top.specs.Requested.{nodes_asked}
use Rattle.scons_top.proofs.Opening.{cleaning_ends}
use Rattle.scons_top.proofs.Clearing.{asked_or_stops, not_listing, not_building}
use Rattle.scons_top.proofs.Stepping.{listing_serves, building_serves, leaves_listing}
use Rattle.scons_top.proofs.Stopping.{steps_looked}
use Rattle.scons_top.proofs.Building.{no_clean, no_dry}
use Rattle.scons_top.proofs.Following.{builds_so, cleans_so, lists_so}
use Rattle.scons_top.proofs.top.serve.Goals as goal

pub returns-then-words-clause-reports : goal.returns-then-words-clause-reports
returns-then-words-clause-reports g c = c.clean_requests.ensures.reports _

pub returns-then-words-clause-builds : goal.returns-then-words-clause-builds
returns-then-words-clause-builds g c = λ asks. no_clean c.args.words.now c.if-words.true

pub returns-then-words-2-clause-builds : goal.returns-then-words-2-clause-builds
returns-then-words-2-clause-builds g c = λ asks. no_dry c.args.words.now c.if-words-2.true

pub returns-then-words-clause-safe : goal.returns-then-words-clause-safe
returns-then-words-clause-safe g c = λ asks.
    c.clean_requests.ensures.safe

pub returns-then-words-2-clause-safe : goal.returns-then-words-2-clause-safe
returns-then-words-2-clause-safe g c = λ asks.
    let m = g.W.Disk.meaning in
    let old = c.args.world.now in
    let new = c.list_requests.new.world in
    steps_looked m g.met.W.Disk.only_now old new c.list_requests.ensures.watches.looks

pub returns-then-words-2-clause-serves : goal.returns-then-words-2-clause-serves
returns-then-words-2-clause-serves g c = listing_serves c.args.words.now c.list_requests.new.at c.if-words.false c.if-words-2.true c.list_requests.ensures.listing

pub returns-clause-serves : goal.returns-clause-serves
returns-clause-serves g c = building_serves c.args.words.now c.build_requests.new.at c.if-words.false c.if-words-2.false c.build_requests.ensures.building

pub returns-then-words-clause-leaves : goal.returns-then-words-clause-leaves
returns-then-words-clause-leaves g c = record { stays = c.clean_requests.ensures.stays; moments = c.clean_requests.ensures.moments }

pub returns-then-words-2-clause-leaves : goal.returns-then-words-2-clause-leaves
returns-then-words-2-clause-leaves g c = leaves_listing _ _ _ _ c.list_requests.ensures.listing c.list_requests.ensures.watches.looks

pub returns-clause-leaves : goal.returns-clause-leaves
returns-clause-leaves g c = c.build_requests.ensures.leaves

pub returns-then-words-clause-ends : goal.returns-then-words-clause-ends
returns-then-words-clause-ends g c = c.clean_requests.ensures.ends

pub returns-then-words-2-clause-ends : goal.returns-then-words-2-clause-ends
returns-then-words-2-clause-ends g c = c.list_requests.ensures.ends

pub returns-clause-ends : goal.returns-clause-ends
returns-clause-ends g c = c.build_requests.ensures.ends

pub returns-then-words-clause-cleans : goal.returns-then-words-clause-cleans
returns-then-words-clause-cleans g c = λ asks is. asked_or_stops g.W.Disk.meaning c.args.words.now c.args.graph.now (nodes_asked c.args.requests.now) c.args.world.now c.clean_requests.new.world c.clean_requests.result (c.clean_requests.ensures.cleans asks)

pub returns-then-words-2-clause-cleans : goal.returns-then-words-2-clause-cleans
returns-then-words-2-clause-cleans g c = λ asks is. not_listing _ c.list_requests.ensures.listing is

pub returns-clause-cleans : goal.returns-clause-cleans
returns-clause-cleans g c = λ asks is. not_building _ c.build_requests.ensures.building is

pub returns-then-words-clause-bytes : goal.returns-then-words-clause-bytes
returns-then-words-clause-bytes g c = λ t. cleaning_ends _ c.clean_requests.result c.clean_requests.ensures.ends

pub returns-then-words-2-clause-bytes : goal.returns-then-words-2-clause-bytes
returns-then-words-2-clause-bytes g c = c.list_requests.ensures.bytes

pub returns-clause-bytes : goal.returns-clause-bytes
returns-clause-bytes g c = c.build_requests.ensures.bytes

pub returns-then-words-clause-tells : goal.returns-then-words-clause-tells
returns-then-words-clause-tells g c = none_told g.E.Sink.meaning c.args.err.now c.clean_requests.result c.clean_requests.ensures.faults

pub returns-then-words-clause-prints : goal.returns-then-words-clause-prints
returns-then-words-clause-prints g c = λ asks. c.clean_requests.ensures.prints asks

pub returns-then-words-2-clause-prints : goal.returns-then-words-2-clause-prints
returns-then-words-2-clause-prints g c = λ asks. c.list_requests.ensures.prints asks

pub returns-then-words-clause-of : goal.returns-then-words-clause-of
returns-then-words-clause-of g c = λ asks.
    cleans_so g.W.Disk.meaning c.args.words.now c.args.graph.now (nodes_asked c.args.requests.now) c.args.world.now c.clean_requests.new.world c.clean_requests.result (c.clean_requests.ensures.cleans asks)

pub returns-then-words-2-clause-of : goal.returns-then-words-2-clause-of
returns-then-words-2-clause-of g c = λ asks.
    lists_so g.W.Disk.meaning c.args.words.now c.args.graph.now (nodes_asked c.args.requests.now) c.args.world.now c.list_requests.new.world c.list_requests.new.at c.list_requests.result c.list_requests.ensures.listing

pub returns-clause-of : goal.returns-clause-of
returns-clause-of g c = λ asks.
    builds_so g.W.Disk.meaning c.args.words.now c.args.graph.now (nodes_asked c.args.requests.now) c.args.world.now c.build_requests.new.world c.build_requests.new.at c.build_requests.result
    c.build_requests.ensures.building (c.build_requests.ensures.of asks)
