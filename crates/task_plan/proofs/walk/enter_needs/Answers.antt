use Rattle.std.proofs.Common.{arith, ◌≡◌, ◌∙◌, suc, ◌-◌, drop, ap, sym}
use Rattle.std.proofs.lemmas.List.{drop_all}
use Rattle.task_plan.specs.Settled.{needs_of}
use Rattle.task_plan.specs.Orders.{makers_of}
use Rattle.task_plan.specs.Walks.{with_entered}
use Rattle.task_plan.proofs.EnterLemmas.{entered_more}
use Rattle.task_plan.proofs.walk.enter_needs.Goals as goal

pub loop-place-init : goal.loop-place-init
loop-place-init c =
    let none = drop_all c.needs-place.result (needs_of c.args.task.now) (omega arith) in
    sym (ap (λ files. with_entered c.args.steps.now.items (makers_of c.args.files.now.origins.items files)) none)

pub loop-place-preserved : goal.loop-place-preserved
loop-place-preserved c =
    let o = c.args.files.now.origins.items in
    let files = needs_of c.args.task.now in
    let first = c.args.steps.now.items in
    let before : c.loop-place.place ≡ suc (c.loop-place.place - 1) = omega arith in
    entered_more o files (c.loop-place.place - 1) first c.loop-place.steps.items c.enter_need.new.steps.items
    (c.loop-place.invariant ∙ ap (λ n. with_entered first (makers_of o (drop n files))) before) (c.in_ok-enter_need.ensures {u = tt})

pub returns : goal.returns
returns c =
    let all : c.loop-place.place ≡ 0 = omega arith in
    c.loop-place.invariant ∙ ap (λ n. with_entered c.args.steps.now.items (makers_of c.args.files.now.origins.items (drop n (needs_of c.args.task.now)))) all
