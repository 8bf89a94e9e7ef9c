-- A running job with the contents that it had is the same job.
use Rattle.std.proofs.Common.{◌≡◌, ◌∙◌, ◌<◌, ap, ℕ, zero, suc, List, [], ◌∷◌, length, arith}
use Rattle.std.specs.Prelude.{slice_set, slice_index_or}
use Rattle.world_api.specs.Act.{Given}
use Rattle.world_mem.specs.declared.running.RunningJob.{RunningJob}

abbrev with_made : RunningJob → Given → RunningJob
with_made run made = record run { made = made }

pub put_back : (runs : List RunningJob) (place : ℕ) (run : RunningJob) (made : Given) → place < length runs → run ≡ slice_index_or runs place run → made ≡ run.made
    → slice_set runs place (record run { made = made }) ≡ runs
put_back [] place run made lt is same = absurd (omega arith)
put_back (x ∷ runs) zero run made lt is same = ap (λ (m : Given). with_made run m ∷ runs) same ∙ ap (λ (r : RunningJob). r ∷ runs) is
put_back (x ∷ runs) (suc place) run made lt is same = ap (λ (rest : List RunningJob). x ∷ rest) (put_back runs place run made (omega (arith, lt)) is same)
