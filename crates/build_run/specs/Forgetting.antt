-- That nothing is recorded of what a job makes from its start on until it has ended well, wherever a build is stopped, whatever it
-- answers and whatever was at fault: so of what didn't end well nothing is recorded behind the build.
use Rattle.std.specs.Prelude.{◌≡◌, ◌≢◌, ◌++◌, true, List, None, Contains, length}
use Rattle.rule_graph.specs.Rules.{are_below}
use Rattle.sign_store.specs.Ends.{image_in}
use Rattle.world_api.specs.Around.{Entry, Started, Finished}
use Rattle.world_api.specs.Banks.{Banks}
use Rattle.world_api.specs.Counts.{Counts}
use Rattle.world_api.specs.Meaning.{Meaning, IsImage}
use Rattle.world_api.specs.declared.job.Job.{Job}
use Rattle.world_api.specs.declared.job.Outcome.{Outcome}
use Rattle.world_api.specs.declared.job.Outcome.TheVariants.{Done}
use Rattle.build_model.specs.Rules.{Path, Among}
use Rattle.build_means.specs.Builds.{Wanted}
use Rattle.build_run.specs.Remembering.{HasThroughout}
use Rattle.build_run.specs.Unmade.{HasNoneUnmade, Since}

-- By these entries a job that makes this path ended otherwise than well: its action failed, it couldn't be run, or memory was
-- wanting for it.
pub record IsFailed (path : Path) (entries : List Entry) : Type 0 where
  pub job : Job
  pub counts : Counts
  pub outcome : Outcome
  pub started : Among (Started job counts) entries
  pub makes : Contains job.targets path
  pub ended : Among (Finished job.id outcome) entries
  pub badly : outcome ≢ Done

-- nothing that a stop may leave of the banks now has a record of this path, and neither do the banks as they read
pub record IsForgotten {W : Type 0} (m : Meaning W) (world : W) (path : Path) : Type 0 where
  pub images : (banks : Banks) → IsImage m world banks → image_in banks path ≡ None
  pub reads : image_in (m.seen world) path ≡ None

-- A build forgot what it started to make. The entries are those that the log went on with.
pub record HasForgotten {W : Type 0} (m : Meaning W) (old new : W) : Type 0 where
  -- at every moment nothing is recorded of a path that is unmade by the log of that moment
  pub throughout : (path : Path) → HasThroughout m old new path (λ around found.
      Since (m.around old).log around.log (HasNoneUnmade path found))
  pub entries : List Entry
  pub grown : (m.around new).log ≡ (m.around old).log ++ entries
  -- and behind it nothing of what a job makes that ended otherwise than well
  pub failed : (path : Path) → IsFailed path entries → IsForgotten m new path

-- So builds do, in a world that tells and is sure, where the requested nodes are the graph's.
abbrev pub Forgets : {W : Type 0} → Meaning W → Wanted → W → W → Type 0
Forgets m w old new = m.tells new → m.sure new → are_below (length w.graph.nodes) w.requested ≡ true → HasForgotten m old new
