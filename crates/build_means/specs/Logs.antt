-- What a world's log says of the steps of a build.
use Rattle.std.specs.Prelude.{◌≡◌, ◌≢◌, ℕ, Bool, true, false, List, [], ◌∷◌, ◌++◌}
use Rattle.std.specs.Option.{option_map, unwrap_or}
use Rattle.world_api.specs.Around.{Entry, Started, Finished}
use Rattle.world_api.specs.Counts.{Counts}
use Rattle.world_api.specs.declared.job.Job.{Job}
use Rattle.world_api.specs.declared.job.Line.{Line}
use Rattle.world_api.specs.declared.job.Outcome.{Outcome}
use Rattle.world_api.specs.declared.job.Outcome.TheVariants.{Done, Failed, Broken, NoMemory}
use Rattle.deciders.specs.Spelling.{work_byte}
use Rattle.rule_graph.specs.Graphs.{RuleGraph}
use Rattle.build_model.specs.Rules.{Path, Rule, Among}
use Rattle.build_model.specs.Steps.{Step, Fresh, Began, Ended, Lacks, Halts, began}
use Rattle.build_means.specs.Rules.{rule_for}

-- the lines of a rule: those of the declared one, and none of a copy
abbrev pub lines_for : RuleGraph → Rule → List Line
lines_for g r = unwrap_or (option_map (λ declared. declared.lines) (rule_for g r.targets)) []

-- A job is that of a rule with these dependencies, in their order.
pub record IsJobOf (g : RuleGraph) (dependencies : List Path) (r : Rule) (job : Job) : Type 0 where
  pub work : work_byte job.work ≡ r.work
  pub targets : job.targets ≡ r.targets
  pub lines : job.lines ≡ lines_for g r
  pub signed : job.signed ≡ r.signed
  pub deps : job.deps ≡ dependencies

-- No count has risen since these, but for the failures of actions in a build that goes on after them.
pub record AreUnrisen (keeps_going : Bool) (begun counts : Counts) : Type 0 where
  pub disk : counts.disk_faults ≡ begun.disk_faults
  pub tree : counts.tree_faults ≡ begun.tree_faults
  pub start : counts.start_faults ≡ begun.start_faults
  pub action : keeps_going ≡ false → counts.action_failures ≡ begun.action_failures

abbrev pub is_done : Outcome → Bool
is_done Done = true
is_done (Failed status) = false
is_done Broken = false
is_done NoMemory = false

-- no job of these entries has this id
abbrev pub IsNewId : List Entry → ℕ → Type 0
IsNewId entries id = (job : Job) (counts : Counts) → Among (Started job counts) entries → job.id ≢ id

-- a job of a rule has started
pub record HasStarted (IsJob : Rule → Job → Type 0) (entries : List Entry) (r : Rule) (id : ℕ) : Type 0 where
  pub job : Job
  pub counts : Counts
  pub of_rule : IsJob r job
  pub started : Among (Started job counts) entries
  pub has_id : job.id ≡ id

-- What stands in the log of the steps of a build, the latest step first and the latest entry last: a start, by a job of the
-- rule with an id of its own, with the counts at that moment; and an ending of a rule that began, by the id of its job. Whatever else a step is has
-- no entry, and neither has a rule that couldn't be started.
pub data AreEntries (IsJob : Rule → Job → Type 0) (AreAt : Counts → Type 0) : List Step → List Entry → Type 0 where
  nothing : AreEntries IsJob AreAt [] []
  is_fresh : {past : List Step} {entries : List Entry} (r : Rule) →
      AreEntries IsJob AreAt past entries → AreEntries IsJob AreAt (Fresh r ∷ past) entries
  has_begun : {past : List Step} {entries : List Entry} (r : Rule) (job : Job) (counts : Counts) →
      IsJob r job → AreAt counts → IsNewId entries job.id →
      AreEntries IsJob AreAt past entries → AreEntries IsJob AreAt (Began r ∷ past) (entries ++ Started job counts ∷ [])
  was_refused : {past : List Step} {entries : List Entry} (r : Rule) →
      AreEntries IsJob AreAt past entries → AreEntries IsJob AreAt (Ended r false ∷ Began r ∷ past) entries
  has_ended : {past : List Step} {entries : List Entry} (r : Rule) (id : ℕ) (outcome : Outcome) → Among r (began past) →
      HasStarted IsJob entries r id → AreEntries IsJob AreAt past entries →
      AreEntries IsJob AreAt (Ended r (is_done outcome) ∷ past) (entries ++ Finished id outcome ∷ [])
  lacks_one : {past : List Step} {entries : List Entry} (r : Rule) (p : Path) →
      AreEntries IsJob AreAt past entries → AreEntries IsJob AreAt (Lacks r p ∷ past) entries
  has_halted : {past : List Step} {entries : List Entry} →
      AreEntries IsJob AreAt past entries → AreEntries IsJob AreAt (Halts ∷ past) entries

-- a log grew by the entries of these steps
pub record IsLogged (IsJob : Rule → Job → Type 0) (AreAt : Counts → Type 0) (steps : List Step) (old new : List Entry) : Type 0 where
  pub entries : List Entry
  pub grown : new ≡ old ++ entries
  pub are : AreEntries IsJob AreAt steps entries

-- a start is that of a rule that began
pub record HasBegun (IsJob : Rule → Job → Type 0) (AreAt : Counts → Type 0) (steps : List Step) (job : Job) (counts : Counts) : Type 0 where
  pub rule : Rule
  pub stands : Among rule (began steps)
  pub of_rule : IsJob rule job
  pub at : AreAt counts

-- a start behind these entries is that of a rule that began where the steps before had these entries
pub record BeganAt (IsJob : Rule → Job → Type 0) (AreAt : Counts → Type 0) (steps : List Step) (front : List Entry) (job : Job) (counts : Counts) : Type 0 where
  pub rule : Rule
  pub later : List Step
  pub past : List Step
  pub parts : steps ≡ later ++ Began rule ∷ past
  pub before : AreEntries IsJob AreAt past front
  pub of_rule : IsJob rule job
  pub at : AreAt counts
  pub new_id : IsNewId front job.id

-- the job of a rule ended well
pub record EndedWell (IsJob : Rule → Job → Type 0) (entries : List Entry) (r : Rule) : Type 0 where
  pub id : ℕ
  pub started : HasStarted IsJob entries r id
  pub done : Among (Finished id Done) entries
