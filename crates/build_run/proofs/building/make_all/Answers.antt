use Rattle.std.proofs.Common.{◌∙◌, ap, rules}
use Rattle.sign_store.specs.Stores.{map_of}
use Rattle.build_run.proofs.Choosing.{goes_before}
use Rattle.build_run.proofs.BuildPrinting.{goes_printed, makes_given}
use Rattle.build_run.proofs.Finishing.{first_along, has_made, made_given}
use Rattle.build_run.proofs.Lending.{accounts_given, idle_given, kept_closed, passes_given, reason_given, stored_given}
use Rattle.build_run.proofs.Sites.{sound_first}
use Rattle.build_run.proofs.Skipping.{has_skipped, none_noted, skipped_given}
use Rattle.build_run.proofs.Stopped.{along_first}
use Rattle.build_run.proofs.Turning.{first_safe, safe_given}
use Rattle.build_run.proofs.Reporting.{told_given}
use Rattle.build_run.proofs.Endings.{counts_given, counts_on, counts_still}
use Rattle.build_run.proofs.Unrecorded.{all_given, has_made_all}
use Rattle.build_run.proofs.Reported.{first_faulted}
use Rattle.build_run.proofs.Rings.{faulted_given, has_made_faulted}
use Rattle.std.proofs.Common.{subst, sym}
use Rattle.rule_graph.specs.Graphs.{RuleGraph}
use Rattle.build_run.specs.Faulted.{HasMadeFaulted}
use Rattle.build_run.proofs.building.make_all.Goals as goal

pub go_on-requires : goal.go_on-requires
go_on-requires g c = record { sound = sound_first g.W.Disk.meaning _ c.requires.none c.requires.held c.requires.unclosed c.requires.idle c.requires.live c.requires.kept }

pub returns-clause-passes : goal.returns-clause-passes
returns-clause-passes g c =
    let lent = c.close.ensures.same.world ∙ c.go_on.ensures.passes.same.world in
    passes_given g.W.Disk.meaning c.close.new.self _ _ _ (search rules) c.close.ensures.world c.go_on.ensures.passes.passes

pub returns-clause-idle : goal.returns-clause-idle
returns-clause-idle g c =
    let lent = c.close.ensures.same.world ∙ c.go_on.ensures.passes.same.world in
    idle_given g.W.Disk.meaning c.close.new.self _ _ (search rules) c.close.ensures.world c.go_on.ensures.idle

pub returns-clause-accounts : goal.returns-clause-accounts
returns-clause-accounts g c =
    let same = c.close.ensures.same in
    let passes = c.go_on.ensures.passes.same in
    let lent_world = same.world ∙ passes.world in
    let lent_out = same.out ∙ passes.out in
    let lent_err = same.err ∙ passes.err in
    let lent_account = same.account ∙ passes.account in
    accounts_given g.W.Disk.meaning c.close.new.self g.O.Sink.meaning g.E.Sink.meaning c.args.world.now c.args.out.now c.args.err.now c.args.account.now
    _ _ _ c.account-1.given.0 (search rules) (search rules) (search rules) (search rules)
    (λ start a. c.close.ensures.accounts start (c.go_on.ensures.accounts start a))

pub returns-clause-makes : goal.returns-clause-makes
returns-clause-makes g c = λ tells sure o ready.
    let m = g.W.Disk.meaning in
    let mid = c.go_on.new.self in
    let same = c.close.ensures.same in
    let passes = c.go_on.ensures.passes.same in
    let lent_world = same.world ∙ passes.world in
    let lent_account = same.account ∙ passes.account in
    let lent_store = same.store ∙ passes.store in
    let along = first_along m o _ ready c.requires.held c.requires.none in
    made_given m c.close.new.self o mid.world.now _ _ c.store-1.given.0 (search rules) (search rules) (search rules) c.close.ensures.world
    (λ t s. has_made m o ready.outset mid c.close.new.self.account.now (c.go_on.ensures.on t s o ready.outset along) (c.go_on.ensures.idle t)
    (c.go_on.ensures.still t s o ready.outset along) c.close.ensures.ends c.close.ensures.finishes c.finished_succeed.ensures
    c.go_on.ensures.put c.close.ensures.shut (map_of c.close.new.self.store.now) (ap map_of c.close.ensures.store))
    tells sure

pub returns-clause-skips : goal.returns-clause-skips
returns-clause-skips g c = λ tells sure o ready.
    let m = g.W.Disk.meaning in
    let mid = c.go_on.new.self in
    let same = c.close.ensures.same in
    let passes = c.go_on.ensures.passes.same in
    let lent_world = same.world ∙ passes.world in
    let lent_account = same.account ∙ passes.account in
    let lent_store = same.store ∙ passes.store in
    let along = first_along m o _ ready c.requires.held c.requires.none in
    skipped_given m c.close.new.self c.close.result o mid.world.now _ _ c.store-1.given.0 (search rules) (search rules) (search rules) c.close.ensures.world
    (λ t s. has_skipped m o ready.outset mid c.close.new.self.account.now (c.go_on.ensures.on t s o ready.outset along) (c.go_on.ensures.idle t)
    (c.go_on.ensures.still t s o ready.outset along) c.close.ensures.ends c.close.ensures.finishes c.finished_succeed.ensures
    c.go_on.ensures.put c.close.ensures.shut (map_of c.close.new.self.store.now) (ap map_of c.close.ensures.store) c.close.result c.close.ensures.skips c.close.ensures.holds c.close.ensures.noted
    (c.go_on.ensures.noting (none_noted c.args.run.now.plan c.args.graph.now c.args.account.now ready.sets.set.loaded.states)))
    tells sure

pub returns-clause-safe : goal.returns-clause-safe
returns-clause-safe g c = λ k outset safe.
    let m = g.W.Disk.meaning in
    let mid = c.go_on.new.self in
    let lent = c.close.ensures.same.world ∙ c.go_on.ensures.passes.same.world in
    let on = c.go_on.ensures.safe k
    (λ tells sure. along_first m k _ c.requires.held c.requires.none (outset tells sure))
    (first_safe m k _ c.requires.held c.requires.none safe) in
    safe_given m k c.close.new.self c.args.world.now mid.world.now _ (search rules) c.close.ensures.world
    (record { moments = on.moments; now = on.now.world })

pub returns-clause-stored : goal.returns-clause-stored
returns-clause-stored g c =
    let m = g.W.Disk.meaning in
    let mid = c.go_on.new.self in
    let same = c.close.ensures.same in
    let passes = c.go_on.ensures.passes.same in
    let lent_world = same.world ∙ passes.world in
    let lent_account = same.account ∙ passes.account in
    let lent_store = same.store ∙ passes.store in
    stored_given m c.close.new.self _ c.account-1.given.0 c.store-1.given.0 (search rules) (search rules) (search rules)
    (kept_closed m mid c.close.new.self c.close.ensures.world c.close.ensures.store c.close.ensures.shut c.go_on.ensures.stored)

pub returns-clause-prints : goal.returns-clause-prints
returns-clause-prints g c =
    let m = g.W.Disk.meaning in
    let p = g.O.Sink.meaning in
    let mid = c.go_on.new.self in
    let same = c.close.ensures.same in
    let passes = c.go_on.ensures.passes.same in
    let lent_world = same.world ∙ passes.world in
    let lent_out = same.out ∙ passes.out in
    let lent_account = same.account ∙ passes.account in
    makes_given m p _ _ _ _ _ _ _ c.close.new.self mid.world.now _ mid.account.now c.account-1.given.0 mid.out.now _ (search rules) (search rules)
    (search rules) c.close.ensures.world c.close.ensures.out
    (λ e. goes_before mid.account.now c.close.new.self.account.now c.close.ensures.ends e)
    (goes_printed m p _ mid c.requires.held c.requires.none passes.options c.go_on.ensures.printing)

pub returns-clause-texts : goal.returns-clause-texts
returns-clause-texts g c =
    let same = c.close.ensures.same in
    let passes = c.go_on.ensures.passes.same in
    let lent_err = same.err ∙ passes.err in
    let lent_account = same.account ∙ passes.account in
    told_given g.E.Sink.meaning c.close.new.self c.args.err.now c.args.account.now _ c.account-1.given.0 (search rules) (search rules)
    (λ start has. c.close.ensures.texts start (c.go_on.ensures.texts start has))

pub returns-clause-all : goal.returns-clause-all
returns-clause-all g c = λ tells sure o ready.
    let m = g.W.Disk.meaning in
    let mid = c.go_on.new.self in
    let same = c.close.ensures.same in
    let passes = c.go_on.ensures.passes.same in
    let lent_world = same.world ∙ passes.world in
    let lent_account = same.account ∙ passes.account in
    let lent_store = same.store ∙ passes.store in
    let along = first_along m o _ ready c.requires.held c.requires.none in
    all_given m c.close.new.self o mid.world.now _ _ c.store-1.given.0 (search rules) (search rules) (search rules) c.close.ensures.world
    (λ t s. has_made_all m o ready.outset mid c.close.new.self.account.now (c.go_on.ensures.on t s o ready.outset along) (c.go_on.ensures.idle t)
    (c.go_on.ensures.still t s o ready.outset along) c.close.ensures.ends c.close.ensures.finishes c.finished_succeed.ensures
    c.go_on.ensures.put c.close.ensures.shut (map_of c.close.new.self.store.now) (ap map_of c.close.ensures.store))
    tells sure

pub returns-clause-counts : goal.returns-clause-counts
returns-clause-counts g c =
    let m = g.W.Disk.meaning in
    let mid = c.go_on.new.self in
    let same = c.close.ensures.same in
    let passes = c.go_on.ensures.passes.same in
    let lent_world = same.world ∙ passes.world in
    let lent_account = same.account ∙ passes.account in
    counts_given m c.close.new.self c.args.world.now c.args.account.now mid.world.now _ c.account-1.given.0 (search rules) (search rules)
    c.close.ensures.world
    (counts_on m c.args.world.now c.args.account.now mid.world.now mid.account.now mid.world.now c.close.new.self.account.now (λ t. t)
    c.go_on.ensures.counts (counts_still m mid.world.now mid.account.now c.close.new.self.account.now c.close.ensures.want))

pub returns-clause-faulted : goal.returns-clause-faulted
returns-clause-faulted g c = λ tells sure o ready.
    let m = g.W.Disk.meaning in
    let mid = c.go_on.new.self in
    let last = c.close.new.self in
    let same = c.close.ensures.same in
    let passes = c.go_on.ensures.passes.same in
    let lent_world = same.world ∙ passes.world in
    let lent_account = same.account ∙ passes.account in
    let lent_store = same.store ∙ passes.store in
    let lent_graph = same.graph ∙ passes.graph in
    let along = first_along m o _ ready c.requires.held c.requires.none in
    faulted_given m last o mid.world.now _ _ c.store-1.given.0 c.graph-1.given.0 (search rules) (search rules) (search rules) (search rules) c.close.ensures.world
    (λ t s. subst (λ (of : RuleGraph). HasMadeFaulted o of (m.around mid.world.now) last.account.now (map_of last.store.now)) (sym c.close.ensures.graph)
    (has_made_faulted m o ready.outset mid last.account.now (c.go_on.ensures.on t s o ready.outset along) (c.go_on.ensures.idle t)
    (c.go_on.ensures.still t s o ready.outset along) c.close.ensures.ends c.close.ensures.finishes c.finished_succeed.ensures
    c.go_on.ensures.put c.close.ensures.shut (map_of last.store.now) (ap map_of c.close.ensures.store) c.close.ensures.want c.close.ensures.lists
    (c.go_on.ensures.faulted t s o ready.outset along (first_faulted m o _ _ _ _ _ _ ready))))
    tells sure

pub returns-clause-reason : goal.returns-clause-reason
returns-clause-reason g c = λ reason.
    let same = c.close.ensures.same in
    let passes = c.go_on.ensures.passes.same in
    let lent_account = same.account ∙ passes.account in
    reason_given c.close.new.self c.account-1.given.0 c.args.options (search rules) (same.options ∙ passes.options)
    (c.close.ensures.reason (c.go_on.ensures.reason reason))
