use Rattle.std.proofs.Common.{◌≡◌, ◌∙◌, ap, ℕ, List, Err}
use Rattle.world_api.proofs.Looking.{files_joined}
use Rattle.scons_host.specs.Laws.{look_back}
use Rattle.scons_host.specs.Scripts.{first}
use Rattle.scons_host.specs.Shown.{IsTold}
use Rattle.scons_host.specs.SoFar.{so_far}
use Rattle.scons_host.specs.Untold.{untold_stop}
use Rattle.scons_host.proofs.Scripting.{exit_at}
use Rattle.scons_host.proofs.Showing.{front, rest}
use Rattle.scons_reading.specs.Beginning.{with_further}
use Rattle.scons_reading.specs.Firsts.{first_of}
use Rattle.scons_reading.proofs.Beginning.{first_so, first_not}
use Rattle.scons_reading.proofs.starting.first_script.Goals as goal

pub returns-clause-looks : goal.returns-clause-looks
returns-clause-looks g c = files_joined g.W.Disk.meaning _ _ _ c.first_path.ensures.looks c.first.ensures.looks

pub returns-clause-cause : goal.returns-clause-cause
returns-clause-cause g c =
    let m = g.W.Disk.meaning in
    look_back (m.counts c.args.world.now) (m.counts c.first_path.new.world) (m.counts c.first.new.world) c.first.result c.in_ok-path.ensures.cause c.first.ensures.cause

pub returns-clause-ok : goal.returns-clause-ok
returns-clause-ok g c = λ f s.
    let m = g.W.Disk.meaning in
    let there = c.first_path.ensures.looks in
    let on = c.first.ensures.looks in
    let scripts = c.args.words.now.scripts in
    first_so f (so_far c.first_path.new.state) (with_further scripts (so_far c.args.state.now)) c.in_ok-path.path (first_of f scripts) c.first.result (so_far c.first.new.state)
    (c.in_ok-path.ensures.state ∙ ap (λ (l : List (List ℕ)). with_further l (so_far c.args.state.now)) c.as_slice.ensures)
    (c.in_ok-path.ensures.ok f (front m c.args.world.now c.first_path.new.world c.first.new.world f on s) ∙ ap (first_of f) c.as_slice.ensures)
    (c.first.ensures.ok f (rest m c.args.world.now c.first_path.new.world c.first.new.world f there on s))

pub returns-clause-fault : goal.returns-clause-fault
returns-clause-fault g c = λ f s.
    let m = g.W.Disk.meaning in
    let there = c.first_path.ensures.looks in
    let on = c.first.ensures.looks in
    let scripts = c.args.words.now.scripts in
    first_not f (so_far c.first_path.new.state) (with_further scripts (so_far c.args.state.now)) c.in_ok-path.path (first_of f scripts) c.first.result
    (c.in_ok-path.ensures.state ∙ ap (λ (l : List (List ℕ)). with_further l (so_far c.args.state.now)) c.as_slice.ensures)
    (c.in_ok-path.ensures.ok f (front m c.args.world.now c.first_path.new.world c.first.new.world f on s) ∙ ap (first_of f) c.as_slice.ensures)
    (c.first.ensures.fault f (rest m c.args.world.now c.first_path.new.world c.first.new.world f there on s))

pub returns-in_err-path-clause-fault : goal.returns-in_err-path-clause-fault
returns-in_err-path-clause-fault g c = λ f s.
    let scripts = c.args.words.now.scripts in
    exit_at (λ e. IsTold e → first f (with_further scripts (so_far c.args.state.now)) (first_of f scripts) ≡ Err (untold_stop e)) c.in_err-path.field-0.0 c.from_residual.result c.from_residual.ensures.1
    (λ told. absurd (c.in_err-path.ensures.untold told))
