use Rattle.std.proofs.Common.{subst, refl, Ok, Err, ◌≡◌}
use Rattle.py_heap.specs.Heap.{Objects}
use Rattle.scons_host.specs.Laws.{look_back}
use Rattle.scons_host.specs.Refusals.{of_refusal}
use Rattle.scons_host.specs.Shown.{IsTold}
use Rattle.scons_host.specs.SoFar.{so_far}
use Rattle.scons_host.specs.Starting.{arguments}
use Rattle.scons_host.specs.Untold.{untold_stop}
use Rattle.scons_host.proofs.Scripting.{exit_at}
use Rattle.scons_host.proofs.Showing.{front, rest}
use Rattle.scons_reading.specs.Beginning.{BeginsNot}
use Rattle.scons_reading.proofs.Beginning.{begins_so, begins_not, joined_so, joined_not, word_refused}
use Rattle.world_api.proofs.Looking.{files_joined}
use Rattle.scons_reading.proofs.starting.begun.Goals as goal

pub returns-clause-looks : goal.returns-clause-looks
returns-clause-looks g c = files_joined g.W.Disk.meaning _ _ _ c.top_path.ensures.looks c.first_script-script.ensures.looks

pub returns-clause-cause : goal.returns-clause-cause
returns-clause-cause g c =
    let m = g.W.Disk.meaning in
    let was = look_back (m.counts c.args.world.now) (m.counts c.top_path.new.world) (m.counts c.first_script-script.new.world) c.first_script-script.result c.in_ok-top.ensures.cause c.first_script-script.ensures.cause in
    c.joined.ensures.cause (m.counts c.args.world.now) (m.counts c.first_script-script.new.world) was

pub returns-clause-ok : goal.returns-clause-ok
returns-clause-ok g c = λ f s.
    let m = g.W.Disk.meaning in
    let there = c.top_path.ensures.looks in
    let on = c.first_script-script.ensures.looks in
    let w = c.args.words.now in
    let state = c.in_ok-state.state in
    let heap = c.new.new.heap in
    let after = c.first_script-script.new.state in
    joined_so f w heap c.joined.result after c.first_script-script.result c.joined.ensures.ok
    (begins_so f w c.in_ok-top.top state.declared.locals state.arguments heap (so_far state)
    (c.in_ok-top.ensures.ok f (front m c.args.world.now c.top_path.new.world c.first_script-script.new.world f on s))
    c.in_ok-state.ensures.locals
    (subst (λ (h : Objects). arguments h w.arguments ≡ Ok (state.arguments, heap)) c.requires c.in_ok-state.ensures.arguments)
    c.in_ok-state.ensures.state (so_far after) c.first_script-script.result
    (c.first_script-script.ensures.ok f (rest m c.args.world.now c.top_path.new.world c.first_script-script.new.world f there on s)))

pub returns-clause-fault : goal.returns-clause-fault
returns-clause-fault g c = λ f s.
    let m = g.W.Disk.meaning in
    let there = c.top_path.ensures.looks in
    let on = c.first_script-script.ensures.looks in
    let w = c.args.words.now in
    let state = c.in_ok-state.state in
    let heap = c.new.new.heap in
    joined_not f w c.joined.result c.first_script-script.result c.joined.ensures.fault
    (begins_not f w c.in_ok-top.top state.declared.locals state.arguments heap (so_far state)
    (c.in_ok-top.ensures.ok f (front m c.args.world.now c.top_path.new.world c.first_script-script.new.world f on s))
    c.in_ok-state.ensures.locals
    (subst (λ (h : Objects). arguments h w.arguments ≡ Ok (state.arguments, heap)) c.requires c.in_ok-state.ensures.arguments)
    c.in_ok-state.ensures.state c.first_script-script.result
    (c.first_script-script.ensures.fault f (rest m c.args.world.now c.top_path.new.world c.first_script-script.new.world f there on s)))

pub returns-in_err-top-clause-fault : goal.returns-in_err-top-clause-fault
returns-in_err-top-clause-fault g c = λ f s.
    exit_at (λ e. IsTold e → BeginsNot f c.args.words.now (untold_stop e)) c.in_err-top.field-0.0 c.from_residual.result c.from_residual.ensures.1
    (λ told. absurd (c.in_err-top.ensures.untold told))

pub returns-in_err-state-clause-fault : goal.returns-in_err-state-clause-fault
returns-in_err-state-clause-fault g c = λ f s.
    let w = c.args.words.now in
    let r = c.in_err-state.field-0.0 in
    exit_at (λ e. IsTold e → BeginsNot f w (untold_stop e)) (of_refusal r) c.from_residual-in_err-state.result c.from_residual-in_err-state.ensures.1
    (word_refused f w r (of_refusal r) refl (λ other. subst (λ (h : Objects). arguments h w.arguments ≡ Err r) c.requires (c.in_err-state.ensures.fault other)))
