-- A start in two steps, said of the world before the first.
use Rattle.std.proofs.Common.{◌≡◌, ◌∙◌, sym, ap, subst, refl, ℕ, List}
use Rattle.world_api.specs.Around.{Around}
use Rattle.world_api.specs.Calls.{Starts}
use Rattle.world_api.specs.Counts.{Counts}
use Rattle.world_api.specs.declared.job.Job.{Job}

pub started_over : (job job' : Job) (counts counts' : Counts) (a a' b : Around) → job ≡ job' → counts ≡ counts' → a ≡ a' → Starts job counts a b → Starts job' counts' a' b
started_over job job' counts counts' a a' b same_job same_counts same started =
    subst (λ (x : Around). Starts job' counts' x b) same
    (subst (λ (x : Counts). Starts job' x a b) same_counts (subst (λ (x : Job). Starts x counts a b) same_job started))
