-- What follows from the steps of a build alone.
use Rattle.std.specs.Prelude.{◌≡◌, ℕ, ◌<◌, ◌≤◌, ◌++◌, true, false, List, ◌∷◌, map, Some, None}
use Rattle.build_model.specs.Rules.{Path, Content, Tree, Stamps, content, Rule, Setting, Among, Unique}
use Rattle.build_model.specs.Needs.{Needs, Needed, IsCycle}
use Rattle.build_model.specs.Contents.{View, in_tree, found_in, dependencies, clean, IsLawful, height}
use Rattle.build_model.specs.Records.{record_of, AreDistinct, AreSound}
use Rattle.build_model.specs.Stale.{IsDue, IsStale, IsUpToDate}
use Rattle.build_model.specs.Steps.{Step, Fresh, Began, Lacks, Build, settled, began, running, contents_of, present_dependencies, present_record, IsRun, Succeeds}
use Rattle.build_model.specs.Moments.{Job, job_rule, so_far, MayWrite, IsCourse}

-- a build of which no more is known than its steps: whatever its deciders, records and digests are
pub record IsBuild (s : Setting) (b : Build) (steps : List Step) : Type 0 where
  pub lawful : IsLawful s
  pub sources : (p : Path) → s.rule_of p ≡ None → b.before p ≡ b.after p
  pub run : IsRun s b steps

-- a rule is needed where the contents are these, and so one rule needs another
abbrev pub NeededIn : Setting → Build → View → Rule → Type 0
NeededIn s b view r = Needed s.rule_of (found_in s view) b.requested r

abbrev pub NeedsIn : Setting → View → Rule → Rule → Type 0
NeedsIn s view r q = Needs s.rule_of (found_in s view) r q

-- The setting's test finds a rule due, by what stood before the build, exactly where it is; and by content, where it
-- isn't, the rule is up to date.
pub record TestsDue (s : Setting) (b : Build) (r : Rule) : Type 0 where
  pub due : s.is_due r b.before b.stamps_before b.records (present_record s b r) ≡ true →
      IsDue b.before b.stamps_before b.records r (present_record s b r)
  pub spared : s.is_due r b.before b.stamps_before b.records (present_record s b r) ≡ false →
      IsDue b.before b.stamps_before b.records r (present_record s b r) → ⊥
  pub kept : r.decider ≡ content → s.is_due r b.before b.stamps_before b.records (present_record s b r) ≡ false →
      IsUpToDate b.before b.records r (present_record s b r)

-- A build by content: sound records, digests that tell contents apart, and needed rules that go by them.
pub record IsByContent (s : Setting) (b : Build) (top : ℕ) : Type 0 where
  pub tests : (r : Rule) → NeededIn s b (clean s b.before top) r → TestsDue s b r
  pub distinct : AreDistinct s b.met
  pub sound : AreSound s b.met b.before b.records
  pub decider : (r : Rule) → NeededIn s b (clean s b.before top) r → r.decider ≡ content

-- What was found up to date, and what ended well, is as in the clean build: its targets, dependencies and record.
pub record IsClean (s : Setting) (b : Build) (view : View) (r : Rule) : Type 0 where
  pub targets : (p : Path) → Among p r.targets → view p ≡ Some (b.after p)
  pub dependencies : dependencies s view r ≡ present_dependencies s b r
  pub record_is : record_of s r view b.stamps_after ≡ present_record s b r

-- A rule lacks a dependency: it is the first that is stuck, since it has no rule and is no file.
pub record IsFirstStuck (s : Setting) (b : Build) (view : View) (r : Rule) (p : Path) : Type 0 where
  pub needed : NeededIn s b view r
  pub front : List Path
  pub rest : List Path
  pub parts : dependencies s view r ≡ front ++ p ∷ rest
  pub front_known : (q : Path) → Among q front → (x : Content) × (view q ≡ Some x)
  pub no_rule : s.rule_of p ≡ None
  pub no_file : b.before p ≡ None
  pub stuck : view p ≡ None

pub record EachStep (s : Setting) (b : Build) (view : View) (steps : List Step) : Type 0 where
  pub settled : (r : Rule) → Among r (settled steps) → IsClean s b view r
  pub fresh : (r : Rule) → Among (Fresh r) steps → IsStale b.before b.records r (record_of s r view b.stamps_after) → ⊥
  pub began : (r : Rule) → Among r (began steps) → NeededIn s b view r × IsStale b.before b.records r (record_of s r view b.stamps_after)
  pub lacking : (r : Rule) (p : Path) → Among (Lacks r p) steps → IsFirstStuck s b view r p

-- At any status each step is right by the clean build, if that is high enough for what was settled.
abbrev pub EachStepIsClean : Type 0
EachStepIsClean = (s : Setting) (b : Build) (steps : List Step) (top : ℕ) → IsBuild s b steps → IsByContent s b top →
    height (settled steps) < top → EachStep s b (clean s b.before top) steps

-- Started are exactly the needed rules that are due, each once, where the contents are these.
pub record StartsExactly (s : Setting) (b : Build) (view : View) (IsRight : Rule → Type 0) (steps : List Step) : Type 0 where
  pub only : (r : Rule) → Among r (began steps) → NeededIn s b view r × IsRight r
  pub all : (r : Rule) → NeededIn s b view r → IsRight r → Among r (began steps)
  pub once : Unique (began steps)

-- Whatever the deciders are: a build that ended well settled each rule that is needed by what stands at its end, and
-- started exactly those that are due by the test.
pub record AnyDecider (s : Setting) (b : Build) (steps : List Step) : Type 0 where
  pub needed : (r : Rule) → NeededIn s b (in_tree b.after) r → Among r (settled steps)
  pub starts : StartsExactly s b (in_tree b.after) (λ r. IsDue b.before b.stamps_before b.records r (present_record s b r)) steps

abbrev pub HoldsForAnyDecider : Type 0
HoldsForAnyDecider = (s : Setting) (b : Build) (steps : List Step) → IsBuild s b steps →
    ((r : Rule) → NeededIn s b (in_tree b.after) r → TestsDue s b r) → Succeeds s b steps → AnyDecider s b steps

-- At any status: a rule is started at most once, and settled at most once.
pub record OnlyOnce (steps : List Step) : Type 0 where
  pub began : Unique (began steps)
  pub settled : Unique (settled steps)

abbrev pub EachOnlyOnce : Type 0
EachOnlyOnce = (s : Setting) (b : Build) (steps : List Step) → IsRun s b steps → OnlyOnce steps

-- At any status: when a rule is started, all that it needs is settled.
abbrev pub SettledBeforeStart : Type 0
SettledBeforeStart = (s : Setting) (b : Build) (later past : List Step) (r q : Rule) → IsRun s b (later ++ Began r ∷ past) →
    NeedsIn s (in_tree b.after) r q → Among q (settled past)

-- No build that ends well goes over a cycle of needed rules.
abbrev pub NoneOverCycle : Type 0
NoneOverCycle = (s : Setting) (b : Build) (steps : List Step) (r : Rule) (rs : List Rule) → IsBuild s b steps → Succeeds s b steps →
    NeededIn s b (in_tree b.after) r → IsCycle s.rule_of (found_in s (in_tree b.after)) (r ∷ rs) → ⊥

-- At any status and at any place of the build no more actions run than may.
abbrev pub AtMostJobs : Type 0
AtMostJobs = (s : Setting) (b : Build) (later past : List Step) → IsRun s b (later ++ past) → running past ≤ b.jobs

-- The steps are those of a build that ends with this tree, and only targets of rules that were started are changed, in
-- content or in stamp.
pub record IsSeenSo (s : Setting) (b : Build) (t : Tree) (stamps : Stamps) (past : List Step) : Type 0 where
  pub build : IsBuild s (so_far b t stamps) past
  pub untouched : (p : Path) → ((r : Rule) → Among r (began past) → Among p r.targets → ⊥) → b.before p ≡ t p
  pub unstamped : (p : Path) → ((r : Rule) → Among r (began past) → Among p r.targets → ⊥) → b.stamps_before p ≡ stamps p

-- What was seen at each moment is what stands there at the end: the steps of a course are those of a build, also if it
-- ended at this moment.
abbrev pub CoursesAreBuilds : Type 0
CoursesAreBuilds = (s : Setting) (b : Build) (jobs : List Job) (t : Tree) (stamps : Stamps) (past : List Step) → IsLawful s →
    IsCourse s b jobs t stamps past → IsSeenSo s b t stamps past

-- The jobs are those of the rules that began, in that order. What each was given stands there still: its rule has the same
-- dependencies, with the same contents, and no action that runs may write one of them.
pub record AreGivenSo (s : Setting) (jobs : List Job) (t : Tree) (past : List Step) : Type 0 where
  pub jobs_began : map job_rule jobs ≡ began past
  pub given : (j : Job) → Among j jobs → j.given ≡ contents_of t (dependencies s (in_tree t) j.rule)
  pub unwritten : (j : Job) → Among j jobs → (p : Path) → Among p (dependencies s (in_tree t) j.rule) → MayWrite jobs past p → ⊥

-- What a job was given is what stands in the tree at every later moment, whatever became of the job.
abbrev pub GivenStays : Type 0
GivenStays = (s : Setting) (b : Build) (jobs : List Job) (t : Tree) (stamps : Stamps) (past : List Step) → IsLawful s →
    IsCourse s b jobs t stamps past → AreGivenSo s jobs t past
