use Rattle.std.proofs.Common.{◌≡◌, ℕ, List, ◌∷◌, subst}
use Rattle.std.specs.Prelude.{OnOk}
use Rattle.env_subst.specs.declared.locals.Locals.{Locals}
use Rattle.env_subst.specs.Sayings.{sayings_of}
use Rattle.env_subst.specs.Desks.{say, tasks_of}
use Rattle.env_subst.proofs.reading.push_sayings.Goals as goal

pub returns : goal.returns
returns c =
    subst (λ (x : List ℕ). OnOk c.push.result ((locals : Locals) → tasks_of locals c.push.new.stack.tasks.items ≡ say x (sayings_of locals c.args.rest) ∷ tasks_of locals c.args.stack.now.tasks.items))
    (c.in_ok-name.ensures {u = tt}) c.push.ensures
