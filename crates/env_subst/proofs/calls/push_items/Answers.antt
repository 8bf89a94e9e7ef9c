use Rattle.std.proofs.Common.{◌≡◌, ◌∷◌, subst}
use Rattle.std.specs.Prelude.{OnOk}
use Rattle.env_subst.specs.declared.locals.Locals.{Locals}
use Rattle.env_subst.specs.declared.task.Call.{Call}
use Rattle.env_subst.specs.Sayings.{sayings_of}
use Rattle.env_subst.specs.Desks.{items, tasks_of}
use Rattle.env_subst.proofs.calls.push_items.Goals as goal

pub returns : goal.returns
returns c =
    subst (λ (x : Call). OnOk c.push.result ((locals : Locals) → tasks_of locals c.push.new.stack.tasks.items ≡ items x (sayings_of locals c.args.rest) ∷ tasks_of locals c.args.stack.now.tasks.items))
    (c.in_ok-call.ensures {u = tt}) c.push.ensures
