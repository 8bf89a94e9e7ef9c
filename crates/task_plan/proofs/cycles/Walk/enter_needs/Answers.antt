use Rattle.std.proofs.Common.{arith, ◌≡◌, ◌<◌, ◌≤◌, ◌∙◌, true, Some, length, refl, sym}
use Rattle.std.specs.Prelude.{slice_get}
use Rattle.std.proofs.lemmas.Bool.{ltb-true}
use Rattle.std.proofs.lemmas.List.{length-map}
use Rattle.std.proofs.lemmas.Option.{slice_get_read}
use Rattle.std.proofs.lemmas.Result.{on_ok_weaker}
use Rattle.task_plan.specs.States.{state_of}
use Rattle.task_plan.specs.Cycles.{is_unsettled}
use Rattle.task_plan.specs.Walks.{EntersNeeds}
use Rattle.std.specs.Prelude.{map}
use Rattle.task_plan.specs.Settled.{kept_of}
use Rattle.task_plan.proofs.CycleLemmas.{enters_needs}
use Rattle.task_plan.proofs.ExploreLemmas.{all_entered, none_entered, past_entered}
use Rattle.task_plan.proofs.cycles.Walk.enter_needs.Goals as goal

pub returns-then-not-is_unsettled-clause-enters : goal.returns-then-not-is_unsettled-clause-enters
returns-then-not-is_unsettled-clause-enters c = EntersNeeds.none

pub returns-in-Some-clause-enters : goal.returns-in-Some-clause-enters
returns-in-Some-clause-enters c =
    let tasks = c.args.tasks.now in
    let number = c.args.rule.0 in
    let found = c.in-Some.ensures.lookup in
    let within : number < length tasks = ltb-true number (length tasks) (sym found.0) in
    let at : slice_get tasks number ≡ Some c.in-Some.task.now = slice_get_read tasks (length tasks) number c.in-Some.task.now refl within found.1 in
    let unsettled : is_unsettled (state_of c.args.states.now number) ≡ true = sym c.is_unsettled.ensures ∙ c.if-not-is_unsettled.false in
    on_ok_weaker c.enter_needs.result
    (λ e. enters_needs c.args.states.now tasks c.args.files.now.origins.items c.args.rule c.in-Some.task.now c.args.self.now.steps.items c.enter_needs.new.steps.items unsettled at e) c.enter_needs.ensures

pub returns-in-None-clause-enters : goal.returns-in-None-clause-enters
returns-in-None-clause-enters c = EntersNeeds.none

pub returns-then-not-is_unsettled-clause-all : goal.returns-then-not-is_unsettled-clause-all
returns-then-not-is_unsettled-clause-all c =
    none_entered c.args.states.now (map kept_of c.args.tasks.now) c.args.files.now.origins.items c.args.rule c.args.self.now.steps.items c.args.self.now.steps.items
    (sym c.is_unsettled.ensures ∙ c.if-not-is_unsettled.true)

pub returns-in-Some-clause-all : goal.returns-in-Some-clause-all
returns-in-Some-clause-all c =
    let tasks = c.args.tasks.now in
    let number = c.args.rule.0 in
    let found = c.in-Some.ensures.lookup in
    let within : number < length tasks = ltb-true number (length tasks) (sym found.0) in
    let at : slice_get tasks number ≡ Some c.in-Some.task.now = slice_get_read tasks (length tasks) number c.in-Some.task.now refl within found.1 in
    on_ok_weaker c.enter_needs.result
    (λ e. all_entered c.args.states.now tasks c.args.files.now.origins.items c.args.rule c.in-Some.task.now c.args.self.now.steps.items c.enter_needs.new.steps.items at e) c.enter_needs.ensures

pub returns-in-None-clause-all : goal.returns-in-None-clause-all
returns-in-None-clause-all c =
    let tasks = c.args.tasks.now in
    let past : length tasks ≤ c.args.rule.0 = c.in-None.ensures.lookup.3 in
    let same : length (map kept_of tasks) ≡ length tasks = length-map tasks kept_of in
    past_entered c.args.states.now (map kept_of tasks) c.args.files.now.origins.items c.args.rule c.args.self.now.steps.items c.args.self.now.steps.items (omega arith)
