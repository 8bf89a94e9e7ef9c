use Rattle.std.specs.Prelude.{map}
use Rattle.task_plan.specs.Settled.{kept_of}
use Rattle.task_plan.proofs.CycleLemmas.{before_leaving}
use Rattle.task_plan.proofs.cycles.Walk.take.Goals as goal

pub enter-requires : goal.enter-requires
enter-requires c = rw c.in-Enter.is at c.requires

pub returns-in-Leave : goal.returns-in-Leave
returns-in-Leave c =
    let l = c.leave.ensures in
    before_leaving c.args.states.now (map kept_of c.args.tasks.now) c.args.files.now.origins.items c.args.self.now c.leave.new.self c.in-Leave.rule (rw c.in-Leave.is at c.requires)
    l.steps l.chain l.colours
