-- A build by what stands in the tree at each moment, as a program sees it.
use Rattle.std.specs.Prelude.{◌≡◌, true, false, List, [], ◌∷◌}
use Rattle.build_model.specs.Rules.{Path, Content, Tree, Stamps, Rule, Setting, Among}
use Rattle.build_model.specs.Contents.{in_tree, dependencies}
use Rattle.build_model.specs.Steps.{Step, Fresh, Began, Ended, Lacks, Halts, Build, done, contents_of, IsDecided, IsFresh, IsStart, IsRunning, IsLacking}

-- an action that was started, with the contents that it was given
pub record Job : Type 0 where
  pub rule : Rule
  pub given : List (Path × Content)

abbrev pub job_rule : Job → Rule
job_rule j = j.rule

-- the build, if it ended with this tree
abbrev pub so_far : Build → Tree → Stamps → Build
so_far b t stamps = record b { after = t; stamps_after = stamps }

-- the job may still write there
pub record MayWrite (jobs : List Job) (past : List Step) (p : Path) : Type 0 where
  pub job : Job
  pub started : Among job jobs
  pub not_done : Among job.rule (done past) → ⊥
  pub target : Among p job.rule.targets

-- nothing changed but targets of rules whose action runs
pub record Changes (jobs : List Job) (past : List Step) (t u : Tree) (stamps later : Stamps) : Type 0 where
  pub contents : (p : Path) → (MayWrite jobs past p → ⊥) → t p ≡ u p
  pub times : (p : Path) → (MayWrite jobs past p → ⊥) → stamps p ≡ later p

-- a running action made its targets of what it was given
abbrev pub HasMade : Setting → Tree → Job → Type 0
HasMade s t j = (p : Path) → Among p j.rule.targets →
    t p ≡ s.act j.rule.work j.rule.signed j.rule.targets j.given p

-- After these steps the jobs that were started are these, and the tree is this one. Each condition is one of the moment.
pub data IsCourse (s : Setting) (b : Build) : List Job → Tree → Stamps → List Step → Type 0 where
  begins : IsCourse s b [] b.before b.stamps_before []
  changes : {jobs : List Job} {t : Tree} {stamps : Stamps} {past : List Step} (u : Tree) (later : Stamps) →
      Changes jobs past t u stamps later → IsCourse s b jobs t stamps past → IsCourse s b jobs u later past
  finds : {jobs : List Job} {t : Tree} {stamps : Stamps} {past : List Step} (r : Rule) →
      IsDecided s (so_far b t stamps) past r → IsFresh s (so_far b t stamps) r →
      IsCourse s b jobs t stamps past → IsCourse s b jobs t stamps (Fresh r ∷ past)
  starts : {jobs : List Job} {t : Tree} {stamps : Stamps} {past : List Step} (r : Rule) →
      IsDecided s (so_far b t stamps) past r → IsStart s (so_far b t stamps) past r →
      IsCourse s b jobs t stamps past →
      IsCourse s b (record { rule = r; given = contents_of t (dependencies s (in_tree t) r) } ∷ jobs) t stamps (Began r ∷ past)
  makes : {jobs : List Job} {t : Tree} {stamps : Stamps} {past : List Step} (j : Job) →
      Among j jobs → IsRunning past j.rule → HasMade s t j →
      IsCourse s b jobs t stamps past → IsCourse s b jobs t stamps (Ended j.rule true ∷ past)
  fails : {jobs : List Job} {t : Tree} {stamps : Stamps} {past : List Step} (r : Rule) → IsRunning past r →
      IsCourse s b jobs t stamps past → IsCourse s b jobs t stamps (Ended r false ∷ past)
  lacks : {jobs : List Job} {t : Tree} {stamps : Stamps} {past : List Step} (r : Rule) (p : Path) →
      IsLacking s (so_far b t stamps) past r p →
      IsCourse s b jobs t stamps past → IsCourse s b jobs t stamps (Lacks r p ∷ past)
  halts : {jobs : List Job} {t : Tree} {stamps : Stamps} {past : List Step} →
      IsCourse s b jobs t stamps past → IsCourse s b jobs t stamps (Halts ∷ past)
