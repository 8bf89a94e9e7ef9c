use Rattle.std.proofs.Common.{arith, ◌≡◌, ◌<◌, ◌∙◌, [], suc, ◌-◌, drop, get_or, length, ap, sym}
use Rattle.std.proofs.lemmas.List.{drop_all}
use Rattle.std.proofs.lemmas.Option.{slice_get-get_or}
use Rattle.scons_base.specs.declared.ids.RuleId.{RuleId}
use Rattle.task_plan.specs.Walks.{with_entered}
use Rattle.task_plan.proofs.EnterLemmas.{entered_next}
use Rattle.task_plan.proofs.walk.enter_all.Goals as goal

pub loop-place-init : goal.loop-place-init
loop-place-init c = c.new-steps.ensures.items ∙ sym (ap (with_entered []) (drop_all (length c.args.rules.now) c.args.rules.now (omega arith)))

pub loop-place-preserved : goal.loop-place-preserved
loop-place-preserved c =
    let rules = c.args.rules.now in
    let place = c.loop-place.place - 1 in
    let none : RuleId = record { 0 = 0 } in
    let within : place < length rules = omega (arith, c.loop-place-test.true) in
    let before : c.loop-place.place ≡ suc place = omega arith in
    entered_next rules place (get_or rules place none) c.loop-place.steps.items c.push.new.self.items (slice_get-get_or rules place none within)
    (c.loop-place.invariant ∙ ap (λ n. with_entered [] (drop n rules)) before) (c.in_ok-push.ensures {u = tt}).items

pub returns : goal.returns
returns c =
    let all : c.loop-place.place ≡ 0 = omega arith in
    c.loop-place.invariant ∙ ap (λ n. with_entered [] (drop n c.args.rules.now)) all
