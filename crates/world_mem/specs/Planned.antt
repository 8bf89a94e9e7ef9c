-- What a job makes and how it ends: known as it starts, by the table and by what it is given.
use Rattle.std.specs.Prelude.{◌≡◌, ℕ, List, ◌++◌, codes, Option, Some, map}
use Rattle.world_api.specs.Act.{Content, Given, Law, act}
use Rattle.world_api.specs.declared.job.Job.{Job}
use Rattle.world_api.specs.declared.job.Outcome.{Outcome}
use Rattle.world_api.specs.declared.job.Work.TheVariants.{Copy}
use Rattle.world_api.specs.declared.job.Outcome.TheVariants.{Done, Failed, Broken, NoMemory}
use Rattle.world_mem.specs.Default.{line}
use Rattle.act_table.specs.Listed.{listed}
use Rattle.world_mem.specs.Table.{content_made, outcome_of, shell_content}
use Rattle.world_mem.specs.declared.plan.Recipe.{Recipe}
use Rattle.world_mem.specs.declared.plan.Recipe.TheVariants.{Same, Listed, Lines}
use Rattle.act_table.specs.declared.table.ActRow.{ActRow}

-- what a recipe makes at a target
abbrev pub gives : Recipe → List ℕ → Content
gives (Same content) target = content
gives (Listed contents) target = listed contents.now target
gives (Lines front back) target = Some (front.items ++ line (codes "-> " ++ target) ++ back.items)

-- each target with what the action makes there
abbrev pub makes : List ActRow → Job → Given → Given
makes rows job given =
    map (λ target. (target, content_made rows job.work job.signed job.targets given target)) job.targets

abbrev pub ends : List ActRow → Job → Given → Outcome
ends rows job given = outcome_of rows job.work job.signed given

-- done or failed
abbrev pub IsPlain : Outcome → Type 0
IsPlain Done = Unit {0}
IsPlain (Failed code) = Unit {0}
IsPlain Broken = ⊥
IsPlain NoMemory = ⊥

-- a content is what a job makes that copies the first of what it is given
abbrev pub IsFirstContent : Given → Content → Type 0
IsFirstContent given content = (law : Law) (signed targets : List (List ℕ)) (target : List ℕ)
    → content ≡ act law Copy signed targets given target

-- a recipe makes what the shell makes by a row, or without one
abbrev pub IsShellRecipe : Option ActRow → List (List ℕ) → Given → Recipe → Type 0
IsShellRecipe row signed given recipe = (target : List ℕ) → gives recipe target ≡ shell_content row signed given target

-- a recipe makes what the action of a job makes
abbrev pub IsRecipeOf : List ActRow → Job → Given → Recipe → Type 0
IsRecipeOf rows job given recipe = (target : List ℕ)
    → gives recipe target ≡ content_made rows job.work job.signed job.targets given target
