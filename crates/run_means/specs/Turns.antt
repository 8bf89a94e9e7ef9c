-- What a turn of a build does: what has to be so of a rule whose action begins, and how a job ends.
use Rattle.std.specs.Prelude.{List, ◌∷◌}
use Rattle.world_api.specs.Around.{Around, Entry, Running}
use Rattle.world_api.specs.Counts.{Counts}
use Rattle.world_api.specs.declared.job.Ended.{Ended}
use Rattle.world_api.specs.declared.job.Job.{Job}
use Rattle.build_model.specs.Rules.{Rule}
use Rattle.build_model.specs.Contents.{in_tree, dependencies}
use Rattle.build_model.specs.Moments.{Job as Given}
use Rattle.build_model.specs.OneJob.{IsTakenFirst}
use Rattle.build_model.specs.Steps as model
use Rattle.build_model.specs.Steps.{Step, IsDecided, IsFresh, IsStart, contents_of}
use Rattle.build_means.specs.Builds.{Wanted, Kept, IsJobIn, setting_in, build_in}
use Rattle.build_means.specs.Logs.{AreUnrisen, IsNewId, is_done}
use Rattle.run_means.specs.Ways.{IsOwn, IsWay}

-- a rule is found up to date: it is the first that may be decided, and isn't due
pub record MayBeFresh (w : Wanted) (kept : Kept) (before around : Around) (past : List Step) (r : Rule) : Type 0 where
  pub first : IsTakenFirst (setting_in w before) (build_in w kept before around) past r
  pub decided : IsDecided (setting_in w before) (build_in w kept before around) past r
  pub fresh : IsFresh (setting_in w before) (build_in w kept before around) r

-- a rule's action may begin: it is the first that may be decided, it is due, and fewer actions run than may
pub record MayBegin (w : Wanted) (kept : Kept) (before around : Around) (past : List Step) (r : Rule) : Type 0 where
  pub first : IsTakenFirst (setting_in w before) (build_in w kept before around) past r
  pub decided : IsDecided (setting_in w before) (build_in w kept before around) past r
  pub start : IsStart (setting_in w before) (build_in w kept before around) past r

-- the job of the model for a rule that begins now: it is given what its dependencies hold
abbrev pub job_for : Wanted → Around → Around → Rule → Given
job_for w before around r =
    record { rule = r; given = contents_of around.tree (dependencies (setting_in w before) (in_tree around.tree) r) }

-- the world is handed a job of the rule with an id of its own, when these were the counts
pub record IsHanded (w : Wanted) (kept : Kept) (counts : Counts) (before around : Around) (entries : List Entry)
    (r : Rule) (job : Job) (at : Counts) : Type 0 where
  pub job_of : IsJobIn w kept before around r job
  pub unrisen : AreUnrisen w.keep counts at
  pub new_id : IsNewId entries job.id

-- a build that came so far by its world goes on to there: the job that ended was that of this rule
pub record EndsFor (w : Wanted) (kept : Kept) (counts : Counts) (before : Around) (jobs : List Given) (old new : Around)
    (past : List Step) (entries : List Entry) (which : Running) (ended : Ended) : Type 0 where
  pub rule : Rule
  pub own : IsOwn w kept before old jobs past entries which rule
  pub way : IsWay w kept counts before jobs new (model.Ended rule (is_done ended.outcome) ∷ past)
