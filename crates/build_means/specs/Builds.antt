-- Builds: what is wanted, what ran, and what succeeded.
use Rattle.std.specs.Prelude.{◌≡◌, ℕ, Bool, List, min, max, Option}
use Rattle.scons_base.specs.declared.limits.TheConstants.{JOB_LIMIT}
use Rattle.scons_base.specs.declared.ids.NodeId.{NodeId}
use Rattle.world_api.specs.Around.{Around, Entry, Started}
use Rattle.world_api.specs.Counts.{Counts}
use Rattle.world_api.specs.Reads.{stamp_of}
use Rattle.world_api.specs.declared.hash.Hash.{Hash}
use Rattle.world_api.specs.declared.job.Job.{Job}
use Rattle.deciders.specs.declared.recorded.Rec.{Rec}
use Rattle.rule_graph.specs.Graphs.{RuleGraph}
use Rattle.build_model.specs.Rules.{Path, content, Rule, Setting, Among}
use Rattle.build_model.specs.Records.{AreDistinct, AreSound}
use Rattle.build_model.specs.Needs.{Found}
use Rattle.build_model.specs.Resting.{IsAtRest}
use Rattle.build_model.specs.Steps.{Step, Build, began, present_dependencies, Succeeds}
use Rattle.build_model.specs.Graphs.{Graph, setting}
use Rattle.build_model.specs.Laws.{AnyDecider, IsSeenSo}
use Rattle.build_model.specs.OneJob.{TakesFirst}
use Rattle.build_model.specs.Waiting.{WaitsRightly}
use Rattle.build_model.specs.Headline.{IsNeeded, IsBuilt}
use Rattle.build_model.specs.Leaving.{IsRecordAfter}
use Rattle.build_means.specs.Rules.{paths_of}
use Rattle.build_means.specs.Graphs.{graph_of}
use Rattle.build_means.specs.Records.{records_in}
use Rattle.build_means.specs.Logs.{IsJobOf, AreUnrisen, HasStarted, IsLogged}

-- What a build is asked for.
pub record Wanted : Type 0 where
  -- as it was read: its rules are the declared ones
  pub graph : RuleGraph
  pub requested : List NodeId
  -- the jobs of the options: at most 64 run, and 0 counts as 1
  pub jobs : ℕ
  -- whether it goes on after a fault
  pub keep : Bool
  -- by which function it makes digests
  pub hash : Hash

-- what stores have: the record of each path that has one
abbrev pub Kept : Type 0
Kept = List ℕ → Option Rec

-- how many actions may run at once
abbrev pub jobs_at_once : ℕ → ℕ
jobs_at_once jobs = min (max jobs 1) JOB_LIMIT

abbrev pub graph_in : Wanted → Around → Graph
graph_in w before = graph_of w.graph before.law w.hash before.tree

abbrev pub setting_in : Wanted → Around → Setting
setting_in w before = setting (graph_in w before) before.tree

-- A build that began with this store and these surroundings and ended with those. What it met is what was met at its end.
abbrev pub build_in : Wanted → Kept → Around → Around → Build
build_in w kept before after = record {
  before = before.tree;
  stamps_before = stamp_of before;
  records = records_in kept;
  requested = paths_of w.graph w.requested;
  jobs = jobs_at_once w.jobs;
  keeps_going = w.keep;
  met = after.met;
  after = after.tree;
  stamps_after = stamp_of after;
}

-- a job is that of a rule, on its dependencies in the tree at the end
abbrev pub IsJobIn : Wanted → Kept → Around → Around → Rule → Job → Type 0
IsJobIn w kept before after r job = IsJobOf w.graph (present_dependencies (setting_in w before) (build_in w kept before after) r) r job

-- What a build did: its steps are those of a build that looked at what stood there, only targets of rules that began were
-- changed, the log grew by these steps, and of the rules that could be decided the one that stands first was taken.
pub record Runs (w : Wanted) (kept : Kept) (counts : Counts) (before after : Around) : Type 0 where
  pub steps : List Step
  pub seen : IsSeenSo (setting_in w before) (build_in w kept before after) after.tree (stamp_of after) steps
  pub log : IsLogged (IsJobIn w kept before after) (AreUnrisen w.keep counts) steps before.log after.log
  pub first : TakesFirst (setting_in w before) (build_in w kept before after) steps

-- Each path has the record that such steps leave: that of its rule, where its action ended well, none, where it began and did
-- not, and else the one that stood there before.
abbrev pub KeepsRecords : (w : Wanted) (kept : Kept) (before after : Around) → List Step → Kept → Type 0
KeepsRecords w kept before after steps later =
    (p : Path) → IsRecordAfter (setting_in w before) (build_in w kept before after) steps (records_in later) p

-- Where a build came to rest: all that can be scanned is, and for none of the needed rules anything is left to do.
pub record Rests (w : Wanted) (kept : Kept) (before after : Around) (steps : List Step) : Type 0 where
  pub found : Found
  pub at_rest : IsAtRest (setting_in w before) (build_in w kept before after) steps found

-- every rule that makes what is requested is settled
abbrev pub AllSettled : (w : Wanted) (kept : Kept) (before after : Around) → List Step → Type 0
AllSettled w kept before after steps = Succeeds (setting_in w before) (build_in w kept before after) steps

-- What a build goes by that decides by content: records that told the truth when it began, no two contents with one digest, and
-- no needed rule with another decider.
pub record IsByContent (w : Wanted) (kept : Kept) (before after : Around) : Type 0 where
  pub sound : AreSound (setting_in w before) after.met before.tree (records_in kept)
  pub distinct : AreDistinct (setting_in w before) after.met
  pub decider : (r : Rule) → IsNeeded (graph_in w before) (build_in w kept before after) r → r.decider ≡ content

-- What a build did that ended well: it waited only where as many actions ran as may or nothing could be decided; it settled
-- what is needed and started what is due, by whatever decider; and by content it left what a build from sources alone makes.
pub record Succeeded (w : Wanted) (kept : Kept) (counts : Counts) (before after : Around) : Type 0 where
  pub runs : Runs w kept counts before after
  pub waits : WaitsRightly (setting_in w before) (build_in w kept before after) runs.steps
  pub due : AnyDecider (setting_in w before) (build_in w kept before after) runs.steps
  pub built : IsByContent w kept before after → IsBuilt (graph_in w before) (build_in w kept before after) runs.steps

-- The jobs that a build started are those of the rules that began: each job is of such a rule, and each such rule has one.
pub record AreJobsOf (w : Wanted) (kept : Kept) (before after : Around) (steps : List Step) (entries : List Entry) : Type 0 where
  pub each : (job : Job) (counts : Counts) → Among (Started job counts) entries → (r : Rule) × Among r (began steps) × IsJobIn w kept before after r job
  pub all : (r : Rule) → Among r (began steps) → (id : ℕ) × HasStarted (IsJobIn w kept before after) entries r id
