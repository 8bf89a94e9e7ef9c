use Rattle.build_run.proofs.Safely.{safe_asked, safe_started}
use Rattle.build_run.proofs.Stopping.{none_kept}
use Rattle.std.proofs.Common.{[]}
use Rattle.build_run.specs.Holds.{holds_in}
use Rattle.build_run.proofs.Causing.{refused_start}
use Rattle.build_run.proofs.Clearing.{clears_asked}
use Rattle.build_run.proofs.Goings.{can_start, joined_started}
use Rattle.build_run.proofs.launch.begin.Goals as goal

pub start-requires-clause-free : goal.start-requires-clause-free
start-requires-clause-free g c = λ t. can_start c.args.job (g.W.Disk.meaning.around c.args.world.now) (holds_in c.args.run.now.tickets) (c.requires.joined.runs t) c.requires.apart (c.requires.clear t)

pub returns-in-Ok-clause-started : goal.returns-in-Ok-clause-started
returns-in-Ok-clause-started g c = joined_started g.W.Disk.meaning c.args.world.now c.start.new.self (holds_in c.args.run.now.tickets) c.args.job c.start.ensures.told.told (λ t. c.in-Ok.ensures.started t) c.requires.apart c.requires.joined

pub returns-in-Err-Fault-clause-cause : goal.returns-in-Err-Fault-clause-cause
returns-in-Err-Fault-clause-cause g c = refused_start _ _ _ (c.in-Err-Fault.ensures.rose (cc c.in-Err-Fault.field-0-is)) c.unstarted.ensures.unstarted

pub returns-in-Err-Fault-clause-asks : goal.returns-in-Err-Fault-clause-asks
returns-in-Err-Fault-clause-asks g c = clears_asked g.W.Disk.meaning [] c.args.world.now c.start.new.self (λ t. c.in-Err-Fault.ensures.refused t)

pub returns-in-Err-Memory-clause-asks : goal.returns-in-Err-Memory-clause-asks
returns-in-Err-Memory-clause-asks g c = clears_asked g.W.Disk.meaning [] c.args.world.now c.start.new.self (λ t. c.in-Err-Memory.ensures.refused t)

pub returns-in-Ok-clause-safe : goal.returns-in-Ok-clause-safe
returns-in-Ok-clause-safe g c = λ s safe.
    let is = c.start.ensures in
    safe_started g.W.Disk.meaning s c.args.world.now c.start.new.self is.told is.banks is.time safe c.args.job (λ t. c.in-Ok.ensures.started t)
    (λ t banks image. none_kept c.args.job.targets _ (c.requires.withdrawn.images (is.told.told t) banks image))

pub returns-in-Err-Fault-clause-safe : goal.returns-in-Err-Fault-clause-safe
returns-in-Err-Fault-clause-safe g c = λ s safe.
    let is = c.start.ensures in
    safe_asked g.W.Disk.meaning s c.args.world.now c.start.new.self is.told is.banks is.time safe (λ t. c.in-Err-Fault.ensures.refused t)

pub returns-in-Err-Memory-clause-safe : goal.returns-in-Err-Memory-clause-safe
returns-in-Err-Memory-clause-safe g c = λ s safe.
    let is = c.start.ensures in
    safe_asked g.W.Disk.meaning s c.args.world.now c.start.new.self is.told is.banks is.time safe (λ t. c.in-Err-Memory.ensures.refused t)

pub returns-in-Err-Fault-clause-faulted : goal.returns-in-Err-Fault-clause-faulted
returns-in-Err-Fault-clause-faulted g c = c.unstarted.ensures.named
