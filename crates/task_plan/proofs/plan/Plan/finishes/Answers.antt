use Rattle.task_plan.proofs.RestLemmas.{finished}
use Rattle.task_plan.proofs.plan.Plan.finishes.Goals as goal

pub returns : goal.returns
returns c = λ still going free met from fits. finished c.args._graph.now c.args.self.now still met from fits going.each free
