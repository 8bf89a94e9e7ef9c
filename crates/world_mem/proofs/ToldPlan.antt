-- An ending that is told is the one that was planned.
use Rattle.std.proofs.Common.{◌≡◌, ◌∙◌, ◌<◌, sym, ap, refl, ℕ, List, Contains, length, map}
use Rattle.std.specs.List.{slice_index_or}
use Rattle.std.proofs.lemmas.List.{get_or-map}
use Rattle.world_api.specs.Act.{Content}
use Rattle.world_api.specs.Around.{Running}
use Rattle.world_api.specs.declared.job.Outcome.{Outcome}
use Rattle.world_api.specs.declared.job.Outcome.TheVariants.{Done}
use Rattle.world_mem.specs.Kept.{running_of}
use Rattle.world_mem.specs.Planned.{makes, ends}
use Rattle.act_table.specs.Filled.{contents_of}
use Rattle.world_mem.specs.Told.{IsTold}
use Rattle.world_mem.specs.declared.running.RunningJob.{RunningJob}
use Rattle.act_table.specs.declared.table.ActRow.{ActRow}
use Rattle.world_mem.proofs.Membership.{same_at}

pub planned_contents : (rows : List ActRow) (runs : List RunningJob) (place : ℕ) (outcome : Outcome) (made : List Content)
    → ((run : RunningJob) → Contains runs run → run.made ≡ makes rows run.job run.given) → place < length runs → outcome ≡ Done
    → ((d : Running) → IsTold rows (slice_index_or (map running_of runs) place d) outcome made) → (d : RunningJob) → made ≡ contents_of (slice_index_or runs place d).made
planned_contents rows runs place outcome made planned lt done told d =
    let run = slice_index_or runs place d in
    let at : slice_index_or (map running_of runs) place (running_of d) ≡ running_of run = get_or-map running_of runs place d (running_of d) lt in
    (told (running_of d)).contents done
    ∙ ap (λ (r : Running). contents_of (makes rows r.job r.given)) at
    ∙ sym (ap contents_of (planned run (place, lt, same_at runs place run d lt)))

pub planned_outcome : (rows rows' : List ActRow) (runs runs' : List RunningJob) (place : ℕ) (outcome : Outcome) (made : List Content) (ended : Outcome) (d : Running)
    → rows' ≡ rows → runs' ≡ runs → outcome ≡ Done
    → ended ≡ ends rows' (slice_index_or (map running_of runs') place d).job (slice_index_or (map running_of runs') place d).given
    → IsTold rows (slice_index_or (map running_of runs) place d) outcome made → ended ≡ outcome
planned_outcome rows rows' runs runs' place outcome made ended d same_rows same done by told =
    by
    ∙ ap (λ (r : List ActRow). ends r (slice_index_or (map running_of runs') place d).job (slice_index_or (map running_of runs') place d).given) same_rows
    ∙ ap (λ (r : List RunningJob). ends rows (slice_index_or (map running_of r) place d).job (slice_index_or (map running_of r) place d).given) same
    ∙ told.ends done
    ∙ sym done
