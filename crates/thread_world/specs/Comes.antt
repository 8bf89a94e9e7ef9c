-- What the job of a slip comes to, where it has a table of actions and what it is given.
use Rattle.std.specs.Prelude.{ℕ, List, Option, Some, None}
use Rattle.job_runner.specs.Answers.{Answer}
use Rattle.job_runner.specs.declared.slip.Slip.{Slip}
use Rattle.world_api.specs.Act.{Content, Given}
use Rattle.world_api.specs.declared.job.Job.{Job}
use Rattle.world_mem.specs.Planned.{makes, ends}
use Rattle.act_table.specs.Filled.{contents_of, paired}
use Rattle.act_table.specs.declared.table.ActRow.{ActRow}

-- by a table: what its row says, and what the row makes at each target
abbrev pub answer_by : List ActRow → Job → Given → Answer
answer_by rows job given = record { outcome = ends rows job given; made = Some (contents_of (makes rows job given)) }

-- by the table and by what is given, where both are there
abbrev pub comes_by : Option (List ActRow) → Option (List Content) → Job → Option Answer
comes_by None given job = None
comes_by (Some rows) None job = None
comes_by (Some rows) (Some given) job = Some (answer_by rows job (paired job.deps given))

abbrev pub comes_to : Slip → Option Answer
comes_to slip = comes_by slip.table slip.given slip.job
