use Rattle.std.proofs.Common.{◌∙◌, ap}
use Rattle.env_subst.specs.Desks.{tasks_of}
use Rattle.env_subst.proofs.Stacks.{upon}
use Rattle.env_subst.proofs.desk.push.Goals as goal

pub returns : goal.returns
returns c = λ locals. ap (tasks_of locals) (c.in_ok-push.ensures {u = tt}).items ∙ upon locals c.args.stack.now.tasks.items c.args.task
