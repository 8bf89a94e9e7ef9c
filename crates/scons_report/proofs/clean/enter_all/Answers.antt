use Rattle.std.proofs.Common.{arith, ◌≡◌, ◌<◌, ◌∙◌, suc, ◌-◌, drop, get_or, length, ap, sym}
use Rattle.std.proofs.lemmas.List.{drop_all}
use Rattle.std.proofs.lemmas.Option.{slice_get-get_or}
use Rattle.scons_base.specs.declared.ids.NodeId.{NodeId}
use Rattle.task_plan.specs.Rooted.{makers_in}
use Rattle.scons_report.specs.Cleans.{with_entered}
use Rattle.scons_report.proofs.CleanEnters.{entered_more}
use Rattle.scons_report.proofs.clean.enter_all.Goals as goal

pub loop-place-init : goal.loop-place-init
loop-place-init c =
    let nodes = c.args.nodes.now in
    sym (ap (λ l. with_entered c.args.steps.now.items (makers_in c.args.graph.now l)) (drop_all (length nodes) nodes (omega arith)))

pub loop-place-preserved : goal.loop-place-preserved
loop-place-preserved c =
    let g = c.args.graph.now in
    let nodes = c.args.nodes.now in
    let first = c.args.steps.now.items in
    let place = c.loop-place.place - 1 in
    let none : NodeId = record { 0 = 0 } in
    let within : place < length nodes = omega (arith, c.loop-place-test.true) in
    let before : c.loop-place.place ≡ suc place = omega arith in
    entered_more g nodes place (get_or nodes place none) first c.loop-place.steps.items c.enter_one.new.steps.items (slice_get-get_or nodes place none within)
    (c.loop-place.invariant ∙ ap (λ n. with_entered first (makers_in g (drop n nodes))) before) (c.in_ok-enter_one.ensures {u = tt})

pub returns : goal.returns
returns c =
    let all : c.loop-place.place ≡ 0 = omega arith in
    c.loop-place.invariant ∙ ap (λ n. with_entered c.args.steps.now.items (makers_in c.args.graph.now (drop n c.args.nodes.now))) all
