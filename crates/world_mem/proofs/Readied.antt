-- A job that was planned, and that has its room, may start at once.
use Rattle.std.proofs.Common.{◌≡◌, ◌∙◌, sym, ap, subst, ℕ, List, Contains, IsSome, false, length, ◌+◌, ◌-◌, ◌<◌, ◌≤◌}
use Rattle.std.specs.Prelude.{◌↔◌, vec_len}
use Rattle.std.specs.List.{slice_index_or}
use Rattle.std.specs.Vec.{vec_capacity}
use Rattle.world_api.specs.Around.{given_of}
use Rattle.world_api.specs.Calls.{CanStart}
use Rattle.world_api.specs.declared.job.Job.{Job}
use Rattle.world_mem.specs.AsAround.{around_of}
use Rattle.world_mem.specs.AsCourse.{course_of}
use Rattle.world_mem.specs.InSlots.{slot_at}
use Rattle.act_table.specs.Listed.{contents_in}
use Rattle.world_mem.specs.Past.{Course}
use Rattle.world_mem.specs.Planned.{makes, ends}
use Rattle.world_mem.specs.Ready.{IsMissing, IsReady}
use Rattle.world_mem.specs.Standing.{is_dir}
use Rattle.world_mem.specs.declared.event.Event.TheVariants.{Started}
use Rattle.world_mem.specs.declared.event.Faults.{Faults}
use Rattle.world_mem.specs.declared.state.Entering.{Entering}
use Rattle.world_mem.specs.declared.state.State.{State}
use Rattle.act_table.specs.declared.table.ActRow.{ActRow}

-- what a plan is, over the state that it was made of
pub record IsPlanned (e : Entering) (of_job : Job) (of_faults : Faults) (old : State) : Type 0 where
  pub job : e.run.job ≡ of_job
  pub given : e.run.given ≡ given_of (around_of old).tree of_job.deps
  pub made : e.run.made ≡ makes old.table of_job e.run.given
  pub kept : e.run.kept ≡ e.run.made
  pub gains : e.run.gained ≡ length (contents_in e.run.made)
  pub outcome : e.run.outcome ≡ ends old.table of_job e.run.given
  pub event : e.event ≡ Started of_job of_faults
  pub started : e.job ≡ of_job
  pub dirs : (dir : List ℕ) → Contains e.dirs dir ↔ IsMissing old of_job.targets dir

-- the room that was taken, and what stayed
pub record HasItsRoom (e : Entering) (old new : State) : Type 0 where
  pub course : course_of new ≡ course_of old
  pub dirs : (dir : List ℕ) → is_dir new.dirs dir ≡ is_dir old.dirs dir
  pub table : new.table ≡ old.table
  pub places : (k : ℕ) (d : List ℕ) → k < length e.run.job.targets → IsSome (slot_at new.slots (slice_index_or e.run.job.targets k d))
  pub fresh : (k : ℕ) (d : List ℕ) → k < length e.dirs → IsSome (slot_at new.dirs.slots (slice_index_or e.dirs k d))
  pub log_room : vec_len new.log + vec_len new.running + 2 ≤ vec_capacity new.log
  pub met_room : vec_len new.met + vec_len new.running + 1 ≤ vec_capacity new.met
  pub run_room : vec_len new.running + 1 ≤ vec_capacity new.running
  pub job_room : vec_len new.jobs + 1 ≤ vec_capacity new.jobs
  pub past_room : vec_len new.past + vec_len new.running + (262144 - new.removals) + 2 ≤ vec_capacity new.past

missing : (old new : State) (targets : List (List ℕ)) (dirs : List (List ℕ)) → ((dir : List ℕ) → is_dir new.dirs dir ≡ is_dir old.dirs dir)
    → ((dir : List ℕ) → Contains dirs dir ↔ IsMissing old targets dir) → (dir : List ℕ) → Contains dirs dir ↔ IsMissing new targets dir
missing old new targets dirs same of_old dir = (
  λ has. let m = (of_old dir).0 has in (m.0, same dir ∙ m.1),
  λ m. (of_old dir).1 (m.0, sym (same dir) ∙ m.1),
)

pub readied : (e : Entering) (of_job : Job) (of_faults : Faults) (old new : State) → IsPlanned e of_job of_faults old → HasItsRoom e old new → CanStart of_job (around_of old) → IsReady e new
readied e of_job of_faults old new plan room can = record {
  can = subst (λ (course : Course). CanStart e.run.job course.around) (sym room.course) (subst (λ (job : Job). CanStart job (around_of old)) (sym plan.job) can);
  given = plan.given
      ∙ ap (λ (job : Job). given_of (around_of old).tree job.deps) (sym plan.job)
      ∙ ap (λ (course : Course). given_of course.around.tree e.run.job.deps) (sym room.course);
  made = plan.made
      ∙ ap (λ (job : Job). makes old.table job e.run.given) (sym plan.job)
      ∙ ap (λ (rows : List ActRow). makes rows e.run.job e.run.given) (sym room.table);
  kept = plan.kept;
  gains = plan.gains;
  outcome = plan.outcome
      ∙ ap (λ (job : Job). ends old.table job e.run.given) (sym plan.job)
      ∙ ap (λ (rows : List ActRow). ends rows e.run.job e.run.given) (sym room.table);
  event = (of_faults, plan.event ∙ ap (λ (job : Job). Started job of_faults) (sym plan.job));
  started = plan.started ∙ sym plan.job;
  dirs = missing old new e.run.job.targets e.dirs room.dirs
      (subst (λ (job : Job). (dir : List ℕ) → Contains e.dirs dir ↔ IsMissing old job.targets dir) (sym plan.job) plan.dirs);
  places = room.places;
  fresh = room.fresh;
  log_room = room.log_room;
  met_room = room.met_room;
  run_room = room.run_room;
  job_room = room.job_room;
  past_room = room.past_room;
}
