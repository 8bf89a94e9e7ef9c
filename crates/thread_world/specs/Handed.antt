-- A job between the two steps of its start: it is out of the pool, and may enter the world.
use Rattle.std.specs.Prelude.{◌≡◌, ℕ, List, [], ◌∷◌, ◌++◌, Some}
use Rattle.job_runner.specs.declared.slip.Slip.{Slip}
use Rattle.world_api.specs.Around.{Tree, given_of}
use Rattle.world_api.specs.declared.job.Job.{Job}
use Rattle.world_mem.specs.AsAround.{around_of}
use Rattle.world_mem.specs.Ready.{MayEnter}
use Rattle.act_table.specs.Filled.{contents_of}
use Rattle.world_mem.specs.declared.event.Event.TheVariants.{Started}
use Rattle.world_mem.specs.declared.state.Entering.{Entering}
use Rattle.act_table.specs.declared.table.ActRow.{ActRow}
use Rattle.world_mem.specs.declared.world.MemWorld.{MemWorld}

-- what goes to a worker: the job, what its dependencies hold, and the table
pub record IsSlipFor (rows : List ActRow) (tree : Tree) (of_job : Job) (slip : Slip) : Type 0 where
  pub job : slip.job ≡ of_job
  pub given : slip.given ≡ Some (contents_of (given_of tree of_job.deps))
  pub table : slip.table ≡ Some rows

-- all that the start of the job needs is taken, and the pool has its slip, behind those that were out
pub record IsHandedOn (rows : List ActRow) (of_job : Job) (entering : Entering) (world : MemWorld) (out out' : List (ℕ × Slip)) : Type 0 where
  pub ready : MayEnter entering world
  pub job : entering.run.job ≡ of_job
  pub event : entering.event ≡ Started entering.run.job world.faults
  pub number : ℕ
  pub slip : Slip
  pub is : IsSlipFor rows (around_of world.state).tree entering.run.job slip
  pub list : out' ≡ out ++ (number, slip) ∷ []
