use Rattle.std.proofs.Common.{◌≡◌, length, sym}
use Rattle.std.specs.Prelude.{map}
use Rattle.std.proofs.lemmas.List.{length-map}
use Rattle.task_plan.specs.Settled.{kept_of}
use Rattle.task_plan.proofs.CycleLemmas.{begun_walk}
use Rattle.task_plan.proofs.ExploreLemmas.{none_waits}
use Rattle.task_plan.proofs.cycles.cycle_of.Goals as goal

pub loop-step-init : goal.loop-step-init
loop-step-init c =
    let count : length c.args.tasks.now ≡ length (map kept_of c.args.tasks.now) = sym (length-map c.args.tasks.now kept_of) in
    begun_walk c.args.states.now (map kept_of c.args.tasks.now) c.args.files.now.origins.items (length c.args.tasks.now) c.in_ok-walk.walk count c.in_ok-walk.ensures

pub returns-then-is_done-clause-none : goal.returns-then-is_done-clause-none
returns-then-is_done-clause-none c =
    let seen = c.loop-step.invariant.explored in
    let done = c.is_done.ensures c.if-is_done.true in
    record {
      none = λ cycle i.
          none_waits c.args.states.now (map kept_of c.args.tasks.now) c.args.files.now.origins.items c.loop-step.walk.colours.items c.loop-step.walk.steps.items seen done cycle i;
    }
