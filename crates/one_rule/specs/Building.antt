-- How the one rule of a script is built.
use Rattle.std.specs.Prelude.{◌≡◌, ◌≢◌, ◌⊎◌, ℕ, ◌<◌, ◌≤◌, ℤ, List, [], ◌∷◌, ◌++◌, length, Some, None, false}
use Rattle.scons_base.specs.declared.limits.TheConstants.{FILE_LIMIT}
use Rattle.world_api.specs.Act.{Content, Law, act}
use Rattle.world_api.specs.Around.{Around, Tree, Entry, Started, Finished, given_of}
use Rattle.world_api.specs.Calls.{Grows}
use Rattle.world_api.specs.Counts.{Counts}
use Rattle.world_api.specs.declared.job.Job.{Job}
use Rattle.world_api.specs.declared.job.Outcome.{Outcome}
use Rattle.world_api.specs.declared.job.Work.TheVariants.{Shell}
use Rattle.one_rule.specs.declared.rule.Rule.{Rule}
use Rattle.one_rule.specs.Course.{Course, Stopped, Failed as Fails, Built}
use Rattle.one_rule.specs.declared.report.Top.TheVariants.{Missing, ActionFailed, TreeFault, StartFault, TooLarge}

-- the job that makes a rule's target of its source
abbrev pub job_of : Rule → Job
job_of rule = record {
  id = 0;
  work = Shell;
  targets = rule.target ∷ [];
  lines = record { text = rule.line; quiet = false; ignore = false } ∷ [];
  signed = rule.line ∷ [];
  deps = rule.source ∷ [];
}

-- The content of the target in a clean build: what its action makes of the source as it stands. (The source is no
-- target, so it stands as its author left it.)
abbrev pub clean_content : Law → Tree → Rule → Content
clean_content law tree rule = act law Shell (rule.line ∷ []) (rule.target ∷ []) (given_of tree (rule.source ∷ [])) rule.target

-- the source is a file, not too large
pub record HasSource (tree : Tree) (rule : Rule) : Type 0 where
  pub bytes : List ℕ
  pub is : tree rule.source ≡ Some bytes
  pub small : length bytes ≤ FILE_LIMIT

-- The courses that building may take: which faults of the files come, and which of the outside may.
pub data MayBuild (tree : Tree) (rule : Rule) : Course → Type 0 where
  no_source : tree rule.source ≡ None → MayBuild tree rule (Stopped (Missing rule.source rule.target))
  large_source : (bytes : List ℕ) → tree rule.source ≡ Some bytes → FILE_LIMIT < length bytes → MayBuild tree rule (Stopped (TooLarge rule.source (length bytes)))
  unreadable_source : MayBuild tree rule (Stopped (TreeFault rule.source))
  kept_target : HasSource tree rule → MayBuild tree rule (Stopped (TreeFault rule.target))
  not_started : HasSource tree rule → MayBuild tree rule (Fails rule (StartFault rule.target))
  failed : (code : ℤ) → HasSource tree rule → MayBuild tree rule (Fails rule (ActionFailed rule.target code))
  built : HasSource tree rule → MayBuild tree rule (Built rule)

-- what the log gains: nothing, or the start of the rule's job, with the counts before it, and its ending
pub data Logs (rule : Rule) (counts : Counts) (old : List Entry) : List Entry → Type 0 where
  nothing : Logs rule counts old old
  ran : (outcome : Outcome) → Logs rule counts old ((old ++ Started (job_of rule) counts ∷ []) ++ Finished 0 outcome ∷ [])

-- what building leaves, however it ends: no file but the target is another, and nothing runs
pub record Leaves (rule : Rule) (counts : Counts) (old new : Around) : Type 0 where
  pub files : (path : List ℕ) → path ≢ rule.target → new.tree path ≡ old.tree path
  pub running : new.running ≡ []
  pub log : Logs rule counts old.log new.log
  pub met : Grows old.met new.met
  pub law : new.law ≡ old.law

-- how the log ends by the course: a job that was built or failed ran; a job that wasn't started ran broken at most
abbrev pub HasLog : Rule → Counts → List Entry → List Entry → Outcome → Type 0
HasLog rule counts old new outcome = new ≡ (old ++ Started (job_of rule) counts ∷ []) ++ Finished 0 outcome ∷ []

-- nothing is another
pub record Unchanged (old new : Around) : Type 0 where
  pub files : (path : List ℕ) → new.tree path ≡ old.tree path
  pub running : new.running ≡ []
  pub log : new.log ≡ old.log
  pub met : Grows old.met new.met
  pub law : new.law ≡ old.law

-- what building leaves: nothing is another, or the source is there and the rule was run or about to be
abbrev pub LeavesBy : Rule → Counts → Around → Around → Type 0
LeavesBy rule counts old new = Unchanged old new ⊎ (HasSource old.tree rule × Leaves rule counts old new)

-- nothing ran, and no file but the target is another
pub record Idles (rule : Rule) (old new : Around) : Type 0 where
  pub files : (path : List ℕ) → path ≢ rule.target → new.tree path ≡ old.tree path
  pub running : new.running ≡ []
  pub log : new.log ≡ old.log
  pub met : Grows old.met new.met
  pub law : new.law ≡ old.law
