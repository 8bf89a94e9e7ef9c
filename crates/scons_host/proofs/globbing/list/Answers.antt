use Rattle.std.proofs.Common.{ℕ, List, subst, sym}
use Rattle.scons_host.specs.Shown.{SamePaths}
use Rattle.scons_host.proofs.globbing.list.Goals as goal

pub returns-in-Ok-clause-shown : goal.returns-in-Ok-clause-shown
returns-in-Ok-clause-shown g c = λ f s.
    subst (λ (paths : List (List ℕ)). SamePaths paths (f.listed c.args.dir.now)) (sym c.into_vec.ensures) (c.in-Ok.ensures.shown f s)
