use Rattle.task_plan.proofs.LoadLemmas.{task_loaded}
use Rattle.task_plan.proofs.naming.load.Goals as goal

pub returns : goal.returns
returns c =
    task_loaded c.args.graph.now c.args.rule.now c.load_needs.new.task c.load_targets.new.task (c.in_ok-load_needs.ensures {u = tt}) c.load_targets.ensures.rest c.in_ok-load_targets.ensures.targets
    c.in_ok-load_targets.ensures.excluded
