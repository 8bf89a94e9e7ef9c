-- The targets of a running job hold nothing.
use Rattle.std.proofs.Common.{◌≡◌, sym, ap, subst, ℕ, List, Contains, None}
use Rattle.world_api.specs.Around.{Running}
use Rattle.world_mem.specs.AsAround.{around_of}
use Rattle.world_mem.specs.InSlots.{content_of}
use Rattle.world_mem.specs.Kept.{running_of}
use Rattle.world_mem.specs.declared.state.State.{State}
use Rattle.world_mem.proofs.Membership.{contains_unmap}

pub unmade_of : (s : State) (run : Running) (path : List ℕ) → Contains (around_of s).running run → Contains run.job.targets path → (around_of s).tree path ≡ None
unmade_of s run path here own =
    let found = contains_unmap running_of s.running.items run here in
    ap content_of (s.owned found.0 path found.1 (subst (λ (r : Running). Contains r.job.targets path) (sym found.2) own))
