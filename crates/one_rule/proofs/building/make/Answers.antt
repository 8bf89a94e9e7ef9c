use Rattle.std.proofs.Common.{subst}
use Rattle.world_api.specs.Calls.{Starts}
use Rattle.one_rule.proofs.Builds.{no_step, asked, idle_leaves, run_leaves, run_makes}
use Rattle.one_rule.proofs.building.make.Goals as goal

pub returns-in_err-job-clause-leaves : goal.returns-in_err-job-clause-leaves
returns-in_err-job-clause-leaves g c told =
    let now = g.W.Disk.meaning.around c.args.world.now in
    idle_leaves c.args.rule (g.W.Disk.meaning.counts c.args.world.now) now now (no_step c.args.rule now (c.requires.idle told))

pub returns-in-Err-clause-leaves : goal.returns-in-Err-clause-leaves
returns-in-Err-clause-leaves g c told =
    let around = g.W.Disk.meaning.around in
    let calls = c.start.ensures in
    idle_leaves c.args.rule (g.W.Disk.meaning.counts c.args.world.now) (around c.args.world.now) (around c.start.new.self)
    (asked c.args.rule (around c.args.world.now) (around c.start.new.self) (c.requires.idle (calls.told.told told)) (c.in-Err.ensures.refused told))

-- the clauses of the start and of the ending, about the rule's job
pub returns-clause-leaves : goal.returns-clause-leaves
returns-clause-leaves g c told =
    let around = g.W.Disk.meaning.around in
    let counts = g.W.Disk.meaning.counts c.args.world.now in
    let started = c.wait.ensures.told.told told in
    let starts = subst (λ job. Starts job counts (around c.args.world.now) (around c.start.new.self)) c.in_ok-job.ensures (c.in-Ok.ensures.started started) in
    run_leaves c.args.rule counts (g.W.Disk.meaning.sure c.wait.new.self) c.wait.result (around c.args.world.now) (around c.start.new.self) (around c.wait.new.self)
    (c.requires.idle (c.start.ensures.told.told started)) starts (c.wait.ensures.around told)

pub returns-clause-makes : goal.returns-clause-makes
returns-clause-makes g c told =
    let around = g.W.Disk.meaning.around in
    let counts = g.W.Disk.meaning.counts c.args.world.now in
    let started = c.wait.ensures.told.told told in
    let starts = subst (λ job. Starts job counts (around c.args.world.now) (around c.start.new.self)) c.in_ok-job.ensures (c.in-Ok.ensures.started started) in
    rw c.ended.ensures
    (run_makes c.args.rule counts (g.W.Disk.meaning.sure c.wait.new.self) c.wait.result (around c.args.world.now) (around c.start.new.self) (around c.wait.new.self)
    (c.requires.idle (c.start.ensures.told.told started)) starts (c.wait.ensures.around told))
