-- What the shell makes here: a table of actions, and a text of its own where no row fits.
use Rattle.std.specs.Prelude.{ℕ, List, Option, Some, None, is_some, pos, if◌then◌else◌}
use Rattle.scons_base.specs.declared.limits.TheConstants.{FILE_LIMIT}
use Rattle.text_files.specs.Refusals.{written_too_long}
use Rattle.world_api.specs.Act.{Content, Given, Law, act}
use Rattle.world_api.specs.Writing.{written}
use Rattle.act_table.specs.Filled.{contents_of}
use Rattle.world_api.specs.declared.job.Outcome.{Outcome}
use Rattle.world_api.specs.declared.job.Outcome.TheVariants.{Done, Failed}
use Rattle.world_api.specs.declared.job.Work.{Work}
use Rattle.world_api.specs.declared.job.Work.TheVariants.{Shell, Copy, Write}
use Rattle.world_mem.specs.Default.{default_content}
use Rattle.act_table.specs.Listed.{listed}
use Rattle.act_table.specs.Rows.{row_for}
use Rattle.act_table.specs.declared.table.ActRow.{ActRow}
use Rattle.act_table.specs.declared.table.Made.{Made}
use Rattle.act_table.specs.declared.table.Made.TheVariants.{Files, Fail}

abbrev pub content_by : Made → List ℕ → Content
content_by (Files contents) target = listed contents target
content_by (Fail code) target = None

abbrev pub shell_content : Option ActRow → List (List ℕ) → Given → List ℕ → Content
shell_content None signed given target = Some (default_content signed given target)
shell_content (Some row) signed given target = content_by row.made target

-- the table as a law of actions
abbrev pub law_of : List ActRow → Law
law_of rows signed targets given target = shell_content (row_for rows signed given) signed given target

abbrev pub outcome_by : Made → Outcome
outcome_by (Files contents) = Done
outcome_by (Fail code) = Failed code

abbrev pub shell_outcome : Option ActRow → Outcome
shell_outcome None = Done
shell_outcome (Some row) = outcome_by row.made

abbrev pub outcome_within : Option ℕ → Outcome
outcome_within None = Done
outcome_within (Some long) = Failed (pos 1)

-- a write fails where what it makes would be too long on its way
abbrev pub written_outcome : List (List ℕ) → Given → Outcome
written_outcome signed given = outcome_within (written_too_long FILE_LIMIT signed (contents_of given))

-- what it makes, and nothing where it fails
abbrev pub written_content : List (List ℕ) → Given → Content
written_content signed given =
    if is_some (written_too_long FILE_LIMIT signed (contents_of given)) then None else written signed (contents_of given)

-- what a job makes at a target: what its action makes, where a write doesn't fail
abbrev pub content_made : List ActRow → Work → List (List ℕ) → List (List ℕ) → Given → List ℕ → Content
content_made rows Shell signed targets given target = act (law_of rows) Shell signed targets given target
content_made rows Copy signed targets given target = act (law_of rows) Copy signed targets given target
content_made rows Write signed targets given target = written_content signed given

-- how a job ends: by its row, where it is one for the shell
abbrev pub outcome_of : List ActRow → Work → List (List ℕ) → Given → Outcome
outcome_of rows Shell signed given = shell_outcome (row_for rows signed given)
outcome_of rows Copy signed given = Done
outcome_of rows Write signed given = written_outcome signed given
