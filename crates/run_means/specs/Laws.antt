-- What each turn of a build keeps: a law for each.
use Rattle.std.specs.Prelude.{◌≡◌, ◌⊎◌, false, List, [], ◌∷◌, ◌++◌, Some, None}
use Rattle.world_api.specs.Around.{Around}
use Rattle.world_api.specs.Calls.{Starts, Ends}
use Rattle.world_api.specs.Counts.{Counts}
use Rattle.world_api.specs.declared.job.Ended.{Ended}
use Rattle.world_api.specs.declared.job.Job.{Job}
use Rattle.build_model.specs.Rules.{Path, Tree, Rule, Among}
use Rattle.build_model.specs.Moments.{Job as Given}
use Rattle.build_model.specs.Steps as model
use Rattle.build_model.specs.Steps.{Step, Fresh, Began, Lacks, Halts, settled, IsLacking, is_over, running}
use Rattle.build_model.specs.Waiting.{IsIdle}
use Rattle.build_means.specs.Rules.{IsReading}
use Rattle.build_means.specs.Builds.{Wanted, Kept, Runs, setting_in, build_in, jobs_at_once}
use Rattle.run_means.specs.Ways.{IsWay}
use Rattle.run_means.specs.Clears.{Clears}
use Rattle.run_means.specs.Turns.{MayBeFresh, MayBegin, job_for, IsHanded, EndsFor}

-- Where nothing runs a build has come no step far.
abbrev pub WaysBegin : Type 0
WaysBegin = (w : Wanted) (kept : Kept) (counts : Counts) (before : Around) → before.running ≡ [] →
    IsWay w kept counts before [] before []

-- It stays where it is through calls that change no more than what running jobs write.
abbrev pub ClearsKeepWays : Type 0
ClearsKeepWays = (w : Wanted) (kept : Kept) (counts : Counts) (before old new : Around) (jobs : List Given)
    (past : List Step) → IsReading w.graph → IsWay w kept counts before jobs old past → Clears [] old new →
    IsWay w kept counts before jobs new past

-- It comes a step further where a rule is found up to date,
abbrev pub FreshKeepsWays : Type 0
FreshKeepsWays = (w : Wanted) (kept : Kept) (counts : Counts) (before around : Around) (jobs : List Given)
    (past : List Step) (r : Rule) → IsWay w kept counts before jobs around past →
    MayBeFresh w kept before around past r → IsWay w kept counts before jobs around (Fresh r ∷ past)

-- where one lacks a dependency,
abbrev pub LacksKeepWays : Type 0
LacksKeepWays = (w : Wanted) (kept : Kept) (counts : Counts) (before around : Around) (jobs : List Given)
    (past : List Step) (r : Rule) (p : Path) → IsWay w kept counts before jobs around past →
    IsLacking (setting_in w before) (build_in w kept before around) past r p →
    IsWay w kept counts before jobs around (Lacks r p ∷ past)

-- and where nothing further is decided.
abbrev pub HaltsKeepWays : Type 0
HaltsKeepWays = (w : Wanted) (kept : Kept) (counts : Counts) (before around : Around) (jobs : List Given)
    (past : List Step) → IsWay w kept counts before jobs around past →
    IsWay w kept counts before jobs around (Halts ∷ past)

-- A rule begins: its targets are cleared, and its job starts.
abbrev pub LaunchesKeepWays : Type 0
LaunchesKeepWays = (w : Wanted) (kept : Kept) (counts : Counts) (before old mid new : Around) (jobs : List Given)
    (past : List Step) (r : Rule) (job : Job) (at : Counts) → IsReading w.graph →
    (way : IsWay w kept counts before jobs old past) → MayBegin w kept before old past r → Clears r.targets old mid →
    Starts job at mid new → IsHanded w kept counts before old way.log.entries r job at →
    IsWay w kept counts before (job_for w before old r ∷ jobs) new (Began r ∷ past)

-- Or no job starts: then the rule has ended otherwise than well.
abbrev pub RefusalsKeepWays : Type 0
RefusalsKeepWays = (w : Wanted) (kept : Kept) (counts : Counts) (before old new : Around) (jobs : List Given)
    (past : List Step) (r : Rule) → IsReading w.graph → IsWay w kept counts before jobs old past →
    MayBegin w kept before old past r → Clears r.targets old new →
    IsWay w kept counts before (job_for w before old r ∷ jobs) new (model.Ended r false ∷ Began r ∷ past)

-- it may wait for an ending, unless something is at fault: as many actions run as may, or nothing can be decided
abbrev pub MayWait : Wanted → Kept → Around → Around → List Step → Type 0
MayWait w kept before around past = is_over false past ≡ false →
    (running past ≡ jobs_at_once w.jobs) ⊎ IsIdle (setting_in w before) (build_in w kept before around) past

-- A job ends, in a world that is sure: what it made is what the law says. It holds by whatever makes a world sure
-- (`ended_for` of proofs/Ending.antt); a law can't say so.
abbrev pub EndingsKeepWays : Type 0
EndingsKeepWays = (w : Wanted) (kept : Kept) (counts : Counts) (before old new : Around) (jobs : List Given)
    (past : List Step) (ended : Ended) → IsReading w.graph → (way : IsWay w kept counts before jobs old past) →
    MayWait w kept before old past → (ends : Ends (Unit {0}) ended old new) →
    EndsFor w kept counts before jobs old new past way.log.entries ends.which ended

-- what no rule makes, and what these rules make, is the same in two trees
pub record StaysSo (w : Wanted) (before : Around) (rules : List Rule) (t u : Tree) : Type 0 where
  pub sources : (p : Path) → (setting_in w before).rule_of p ≡ None → t p ≡ u p
  pub made : (p : Path) (r : Rule) → (setting_in w before).rule_of p ≡ Some r → Among r rules → t p ≡ u p

-- From one place of a build's way to a later one what no rule makes, and what is settled there, stays.
abbrev pub SettledStay : Type 0
SettledStay = (w : Wanted) (kept : Kept) (counts : Counts) (before old new : Around) (jobs more : List Given)
    (past later : List Step) → IsReading w.graph → IsWay w kept counts before jobs old past →
    IsWay w kept counts before (more ++ jobs) new (later ++ past) → StaysSo w before (settled past) old.tree new.tree

-- the steps of a build are these
abbrev pub RunsSo : Wanted → Kept → Counts → Around → Around → List Step → Type 0
RunsSo w kept counts before after past = (runs : Runs w kept counts before after) × (runs.steps ≡ past)

-- However far a build has come by its world, it did these steps.
abbrev pub WaysAreRuns : Type 0
WaysAreRuns = (w : Wanted) (kept : Kept) (counts : Counts) (before after : Around) (jobs : List Given)
    (past : List Step) → IsReading w.graph → IsWay w kept counts before jobs after past →
    RunsSo w kept counts before after past
