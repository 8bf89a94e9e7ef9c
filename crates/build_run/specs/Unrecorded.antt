-- The jobs that a build started and whose records aren't there behind it.
use Rattle.std.specs.Prelude.{◌≡◌, ◌≤◌, ◌+◌, Bool, true, false, List, is_none, length}
use Rattle.std.specs.List.{count_by, list_any}
use Rattle.scons_base.specs.Rising.{Rose}
use Rattle.scons_base.specs.declared.ids.NodeId.{NodeId}
use Rattle.world_api.specs.Around.{Around, Entry, started_of}
use Rattle.world_api.specs.Counts.{Counts}
use Rattle.world_api.specs.Meaning.{Meaning}
use Rattle.world_api.specs.declared.job.Job.{Job}
use Rattle.rule_graph.specs.Graphs.{RuleGraph}
use Rattle.rule_graph.specs.Rules.{are_below}
use Rattle.sign_store.specs.Stores.{map_of}
use Rattle.sign_store.specs.Tables.{Map}
use Rattle.sign_store.specs.declared.store.Store.{Store}
use Rattle.build_means.specs.Builds.{Wanted}
use Rattle.build_model.specs.Steps.{running}
use Rattle.turn_means.specs.Standing.{Outset}
use Rattle.build_run.specs.Counting.{RoseBy}
use Rattle.build_run.specs.Endings.{CountsEndings, count_ended, is_breaking, is_failure}
use Rattle.build_run.specs.Outsets.{wanted_of, HasMade, HasRun, IsReadyFor}
use Rattle.build_run.specs.declared.account.Account.{Account}
use Rattle.build_run.specs.declared.building.Options.{Options}
use Rattle.build_run.specs.declared.end.BuildEnd.{BuildEnd}
use Rattle.build_run.specs.declared.site.Run.{Run}

-- a target of a job has no record
abbrev pub is_unrecorded : Map → Job → Bool
is_unrecorded kept job = list_any (λ path. is_none (kept path)) job.targets

-- no more of the jobs that started by these entries lack a record than failed or couldn't be run
abbrev pub AreFewUnrecorded : Map → List Entry → Type 0
AreFewUnrecorded kept entries = count_by (is_unrecorded kept) (started_of entries) ≤ count_ended is_failure entries + count_ended is_breaking entries

-- ---- what was made

-- What a build did, and that none of its jobs runs any more.
pub record HasMadeAll (o : Outset) (around : Around) (account : Account) (behind : Map) : Type 0 where
  pub made : HasMade o around account behind
  pub idle : running made.runs.steps ≡ 0

abbrev pub EndsAll : {W : Type 0} → Meaning W → RuleGraph → Run → Store → W → Account → Options → W → Account → Store → Type 0
EndsAll m g run store world account options new new_account new_store = m.tells new → m.sure new → (o : Outset) →
    IsReadyFor m o g run store world account options → HasMadeAll o (m.around new) new_account (map_of new_store)

-- ---- builds

-- Of the jobs that these entries say were started no more failed than `action_failures` rose by, and no more couldn't be run than
-- `start_faults` did; and, unless the signature file's disk was at fault or memory was wanting, no more lack a record than both
-- together.
pub record CountsJobs (before after : Counts) (memory : Bool) (behind : Map) (entries : List Entry) : Type 0 where
  pub failed : RoseBy (count_ended is_failure entries) before.action_failures after.action_failures
  pub broken : RoseBy (count_ended is_breaking entries) before.start_faults after.start_faults
  pub few : (Rose before.disk_faults after.disk_faults → ⊥) → memory ≡ false → AreFewUnrecorded behind entries

-- What a build did, and that its jobs are counted.
pub record HasCounted {W : Type 0} (m : Meaning W) (w : Wanted) (map : Map) (old new : W) (behind : Map) (ended memory : Bool) : Type 0 where
  pub run : HasRun m w map old new behind ended
  pub jobs : CountsJobs (m.counts old) (m.counts new) memory behind run.runs.log.entries

-- So builds do, in a world that tells and is sure, where the requested nodes are the graph's. Endings are counted in any that tells.
pub record BuildCounts {W : Type 0} (m : Meaning W) (g : RuleGraph) (requested : List NodeId) (options : Options) (store : Store) (old : W)
    (new_store : Store) (new : W) (answer : BuildEnd) : Type 0 where
  pub endings : m.tells new → CountsEndings (m.counts old) (m.counts new) answer.memory (m.around old).log (m.around new).log
  pub counted : m.tells new → m.sure new → are_below (length g.nodes) requested ≡ true →
      HasCounted m (wanted_of g requested options) (map_of store) old new (map_of new_store) answer.is_ended answer.memory
