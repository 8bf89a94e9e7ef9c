use Rattle.std.specs.Prelude.{map}
use Rattle.task_plan.specs.Settled.{kept_of}
use Rattle.task_plan.proofs.CycleLemmas.{walk_before, walk_same}
use Rattle.task_plan.proofs.cycles.Walk.go_on.Goals as goal

pub take-requires : goal.take-requires
take-requires c =
    walk_before c.args.states.now (map kept_of c.args.tasks.now) c.args.files.now.origins.items c.args.self.now c.next_step.new.self c.in-Some.step c.requires c.next_step.ensures.rest c.in-Some.ensures.last

pub returns-in-None : goal.returns-in-None
returns-in-None c =
    walk_same c.args.states.now (map kept_of c.args.tasks.now) c.args.files.now.origins.items c.args.self.now c.next_step.new.self c.requires c.next_step.ensures.rest c.in-None.ensures.last
