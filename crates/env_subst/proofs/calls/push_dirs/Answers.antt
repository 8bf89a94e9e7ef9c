use Rattle.std.proofs.Common.{◌≡◌, ◌∷◌, drop, subst}
use Rattle.std.specs.Prelude.{OnOk}
use Rattle.env_subst.specs.declared.locals.Locals.{Locals}
use Rattle.env_subst.specs.declared.task.Call.{Call}
use Rattle.env_subst.specs.Desks.{dirs, tasks_of}
use Rattle.env_subst.proofs.calls.push_dirs.Goals as goal

pub returns : goal.returns
returns c =
    subst (λ (x : Call). OnOk c.push.result ((locals : Locals) → tasks_of locals c.push.new.stack.tasks.items ≡ dirs x (drop c.args.next c.args.found) ∷ tasks_of locals c.args.stack.now.tasks.items))
    (c.in_ok-call.ensures {u = tt}) c.push.ensures
