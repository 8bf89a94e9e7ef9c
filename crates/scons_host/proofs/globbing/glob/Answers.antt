use Rattle.std.proofs.Common.{ℕ, List, subst}
use Rattle.std.specs.List.{flat_map}
use Rattle.scons_host.specs.Shown.{SamePaths}
use Rattle.scons_host.specs.SoFar.{so_far}
use Rattle.scons_host.proofs.Globs.{glob_gives, glob_stops, glob_stops_behind}
use Rattle.scons_host.proofs.globbing.glob.Goals as goal

pub returns-in_err-dirs-clause-fault : goal.returns-in_err-dirs-clause-fault
returns-in_err-dirs-clause-fault g c = λ f s.
    let a = c.args in
    glob_stops f (so_far a.state.now) a.heap.now a.env.0 a.pattern.now c.in_err-dirs.field-0.0 c.from_residual.result c.from_residual.ensures.1 c.in_err-dirs.ensures.fault

pub returns-in_err-matched-clause-fault : goal.returns-in_err-matched-clause-fault
returns-in_err-matched-clause-fault g c = λ f s.
    let a = c.args in
    let r = c.from_residual-in_err-matched in
    let files = subst (λ (dirs : List (List ℕ)). SamePaths c.in_ok-files.files (flat_map f.listed dirs)) c.as_slice.ensures (c.in_ok-files.ensures.shown f s) in
    glob_stops_behind f (so_far a.state.now) a.heap.now a.env.0 a.pattern.now c.in_ok-dirs.dirs c.in_ok-files.files c.in_err-matched.field-0.0 r.result c.in_ok-dirs.ensures.ok files r.ensures.1 c.in_err-matched.ensures.fault

pub returns-clause-ok : goal.returns-clause-ok
returns-clause-ok g c = λ f s.
    let a = c.args in
    let files = subst (λ (dirs : List (List ℕ)). SamePaths c.in_ok-files.files (flat_map f.listed dirs)) c.as_slice.ensures (c.in_ok-files.ensures.shown f s) in
    glob_gives f (so_far a.state.now) a.heap.now a.env.0 a.pattern.now c.in_ok-dirs.dirs c.in_ok-files.files _ c.in_ok-dirs.ensures.ok files c.in_ok-matched.ensures.ok
