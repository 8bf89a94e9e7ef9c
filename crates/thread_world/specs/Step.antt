-- What is out of the pool is what runs in the world.
use Rattle.std.specs.Prelude.{◌≡◌, ℕ, List, [], Option, Some, None, Contains, map}
use Rattle.job_runner.specs.declared.slip.Slip.{Slip}
use Rattle.world_api.specs.Act.{Content}
use Rattle.world_api.specs.Around.{Running}
use Rattle.act_table.specs.Filled.{paired}
use Rattle.world_mem.specs.declared.calls.Calls.{Calls}
use Rattle.act_table.specs.declared.table.ActRow.{ActRow}

-- the contents, where there are any
abbrev pub listed : Option (List Content) → List Content
listed None = []
listed (Some given) = given

-- the job of a slip as one that runs
abbrev pub run_of : ℕ × Slip → Running
run_of entry = record { job = entry.1.job; given = paired entry.1.job.deps (listed entry.1.given) }

-- a slip goes with this table, and with some contents that its job is given
pub record IsWhole (rows : List ActRow) (slip : Slip) : Type 0 where
  pub table : slip.table ≡ Some rows
  pub given : slip.given ≡ Some (listed slip.given)

-- the slips that are out are the jobs that run, in their order, and each goes with the table
pub record InStep (rows : List ActRow) (running : List Running) (out : List (ℕ × Slip)) : Type 0 where
  pub same : running ≡ map run_of out
  pub whole : (entry : ℕ × Slip) → Contains out entry → IsWhole rows entry.1

-- no call is listed as one that fails, and there is no fuse
pub record IsSpared (calls : Calls) : Type 0 where
  pub listed : calls.failing.items ≡ []
  pub fuse : calls.fuse ≡ None
