-- How far a build has come by its world: the steps so far, and the jobs that run.
use Rattle.std.specs.Prelude.{◌≡◌, false, List, [], ◌∷◌, length}
use Rattle.world_api.specs.Around.{Around, Entry, Running}
use Rattle.world_api.specs.Calls.{Grows}
use Rattle.world_api.specs.Counts.{Counts}
use Rattle.world_api.specs.Reads.{stamp_of}
use Rattle.build_model.specs.Rules.{Rule, Among, Unique}
use Rattle.build_model.specs.Moments.{Job as Given, IsCourse}
use Rattle.build_model.specs.OneJob.{TakesFirst}
use Rattle.build_model.specs.Steps.{Step, IsRunning, is_over, running}
use Rattle.build_model.specs.Waiting.{WaitsRightly}
use Rattle.build_means.specs.Builds.{Wanted, Kept, IsJobIn, setting_in, build_in}
use Rattle.build_means.specs.Logs.{AreUnrisen, HasStarted, IsLogged}

-- A running job of the world is that of a rule whose action runs: in the model the rule was given the same, and the
-- log has the start.
pub record IsOwn (w : Wanted) (kept : Kept) (before around : Around) (jobs : List Given) (past : List Step)
    (entries : List Entry) (run : Running) (r : Rule) : Type 0 where
  pub given : Among (record { rule = r; given = run.given }) jobs
  pub runs : IsRunning past r
  pub job_of : IsJobIn w kept before around r run.job
  pub started : HasStarted (IsJobIn w kept before around) entries r run.job.id

-- these jobs run, each for the rule in its place
pub data AreOwn (w : Wanted) (kept : Kept) (before around : Around) (jobs : List Given) (past : List Step)
    (entries : List Entry) : List Running → List Rule → Type 0 where
  none_runs : AreOwn w kept before around jobs past entries [] []
  one_runs : {run : Running} {r : Rule} {more : List Running} {rules : List Rule} →
      IsOwn w kept before around jobs past entries run r → AreOwn w kept before around jobs past entries more rules →
      AreOwn w kept before around jobs past entries (run ∷ more) (r ∷ rules)

-- A build that began with this store and these surroundings has come so far: it took these steps and started these
-- jobs of the model, and what stands around is what a course of the model comes to.
pub record IsWay (w : Wanted) (kept : Kept) (counts : Counts) (before : Around) (jobs : List Given) (around : Around)
    (past : List Step) : Type 0 where
  pub course : IsCourse (setting_in w before) (build_in w kept before around) jobs around.tree (stamp_of around) past
  pub log : IsLogged (IsJobIn w kept before around) (AreUnrisen w.keep counts) past before.log around.log
  -- the rules for which jobs run, no two for one
  pub rules : List Rule
  pub own : AreOwn w kept before around jobs past log.entries around.running rules
  pub once : Unique rules
  pub count : running past ≡ length around.running
  pub law : around.law ≡ before.law
  pub met : Grows before.met around.met
  -- of the rules that could be decided the one that stands first was taken
  pub first : TakesFirst (setting_in w before) (build_in w kept before around) past
  -- while nothing is at fault: it waited only where as many actions ran as may, or nothing could be decided
  pub waits : is_over false past ≡ false → WaitsRightly (setting_in w before) (build_in w kept before around) past
