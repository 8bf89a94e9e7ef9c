-- An ending that is told from elsewhere.
use Rattle.std.specs.Prelude.{◌≡◌, List}
use Rattle.act_table.specs.Filled.{contents_of}
use Rattle.world_api.specs.Act.{Content}
use Rattle.world_api.specs.Around.{Running}
use Rattle.world_api.specs.declared.job.Outcome.{Outcome}
use Rattle.world_api.specs.declared.job.Outcome.TheVariants.{Done}
use Rattle.world_mem.specs.Planned.{makes, ends}
use Rattle.act_table.specs.declared.table.ActRow.{ActRow}

-- where a job is done, that is how the table has it end, with these contents at its targets
pub record IsTold (rows : List ActRow) (run : Running) (outcome : Outcome) (made : List Content) : Type 0 where
  pub ends : outcome ≡ Done → ends rows run.job run.given ≡ Done
  pub contents : outcome ≡ Done → made ≡ contents_of (makes rows run.job run.given)
