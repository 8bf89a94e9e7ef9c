use Rattle.std.proofs.Common.{◌∙◌, Some, None}
use Rattle.std.specs.Prelude.{slice_get}
use Rattle.task_plan.specs.Settled.{needs_of}
use Rattle.task_plan.proofs.EnterLemmas.{entered_one}
use Rattle.task_plan.proofs.walk.enter_need.Goals as goal

pub returns-in_ok-push : goal.returns-in_ok-push
returns-in_ok-push c =
    (c.in_ok-push.ensures {u = tt}).items
    ∙ entered_one c.args.files.now.origins.items (slice_get (needs_of c.args.task.now) c.args.place) (Some c.in-Some.rule) c.args.steps.now.items c.in-Some.ensures

pub returns-in_default : goal.returns-in_default
returns-in_default c =
    entered_one c.args.files.now.origins.items (slice_get (needs_of c.args.task.now) c.args.place) None c.args.steps.now.items c.in_default.ensures
