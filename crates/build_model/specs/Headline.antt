-- An incremental build equals a clean build: what one that ended well leaves and did, by content, for a graph with copies.
use Rattle.std.specs.Prelude.{◌≡◌, ◌⊎◌, ◌+◌, ◌*◌, ◌<◌, ◌++◌, true, false, List, ◌∷◌, length, Some, None}
use Rattle.build_model.specs.Rules.{Path, Tree, Stamps, Rule, Record, Among}
use Rattle.build_model.specs.Needs.{IsCycle, IsBuildOrder}
use Rattle.build_model.specs.Contents.{IsKnown, found_in, IsLawful, height}
use Rattle.build_model.specs.Records.{record_of}
use Rattle.build_model.specs.Stale.{IsStale}
use Rattle.build_model.specs.Steps.{Step, Began, Ended, Build, settled, began, present_record, IsRun, Succeeds}
use Rattle.build_model.specs.Graphs.{Graph, IsGraph, setting, rule_at, clean_build}
use Rattle.build_model.specs.Laws.{NeededIn, NeedsIn, IsByContent, StartsExactly}
use Rattle.build_model.specs.Resting.{IsFaulty}
use Rattle.build_model.specs.OneJob.{TakesFirst, StandsBefore, FollowsOrder, TakesInOrder}

abbrev pub no_stamps : Stamps
no_stamps p = None

-- The record of a rule in a clean build; the content decider keeps no stamps.
abbrev pub clean_record : Graph → Build → Rule → Record
clean_record g b r = record_of (setting g b.before) r (clean_build g b.before) no_stamps

-- a rule is needed in the clean build
abbrev pub IsNeeded : Graph → Build → Rule → Type 0
IsNeeded g b r = NeededIn (setting g b.before) b (clean_build g b.before) r

-- a rule is stale: a function of the state before the build, whatever its schedule
abbrev pub IsStaleBefore : Graph → Build → Rule → Type 0
IsStaleBefore g b r = IsStale b.before b.records r (clean_record g b r)

-- a build of a graph from sound records, of which every needed rule goes by content
pub record BuildsByContent (g : Graph) (b : Build) (steps : List Step) : Type 0 where
  pub graph : IsGraph g
  pub by : IsByContent (setting g b.before) b (2 * length g.rules + 1)
  pub sources : (p : Path) → rule_at g b.before p ≡ None → b.before p ≡ b.after p
  pub run : IsRun (setting g b.before) b steps

-- What such a build left and did.
pub record IsBuilt (g : Graph) (b : Build) (steps : List Step) : Type 0 where
  -- each target of a needed rule is as in the clean build, and so is each requested path that is known
  pub targets : (r : Rule) → IsNeeded g b r → (p : Path) → Among p r.targets → clean_build g b.before p ≡ Some (b.after p)
  pub requested : (p : Path) → Among p b.requested → IsKnown (setting g b.before) b.before p → clean_build g b.before p ≡ Some (b.after p)
  -- started is exactly what is needed and stale, each once
  pub starts : StartsExactly (setting g b.before) b (clean_build g b.before) (IsStaleBefore g b) steps
  -- what is recorded of a needed rule is its record in the clean build
  pub records : (r : Rule) → IsNeeded g b r → present_record (setting g b.before) b r ≡ clean_record g b r
  -- what a rule needs was settled when it was started
  pub order : (later past : List Step) (r q : Rule) → steps ≡ later ++ Began r ∷ past →
      NeedsIn (setting g b.before) (clean_build g b.before) r q → Among q (settled past)
  -- and no needed rule waits for itself
  pub no_cycle : (r : Rule) (rs : List Rule) → IsNeeded g b r →
      IsCycle (rule_at g b.before) (found_in (setting g b.before) (clean_build g b.before)) (r ∷ rs) → ⊥
  -- at one job rules began in the build order
  pub one_job : b.jobs ≡ 1 → TakesFirst (setting g b.before) b steps → (order : List Rule) →
      IsBuildOrder (rule_at g b.before) g.limit (found_in (setting g b.before) (clean_build g b.before)) b.requested order →
      FollowsOrder order steps

abbrev pub IncrementalIsClean : Type 0
IncrementalIsClean = (g : Graph) (b : Build) (steps : List Step) → BuildsByContent g b steps → Succeeds (setting g b.before) b steps →
    IsBuilt g b steps

-- What a build at one job that doesn't go on after faults began, at any status: a front of the stale rules in the build order,
-- and all of them that stand before a rule at fault.
pub record BeginsStaleFront (g : Graph) (b : Build) (order : List Rule) (steps : List Step) : Type 0 where
  pub only : (r : Rule) → Among r (began steps) → IsNeeded g b r × IsStaleBefore g b r
  pub follows : FollowsOrder order steps
  pub before_begun : (r x : Rule) → Among r (began steps) → StandsBefore order x r → IsStaleBefore g b x → Among x (began steps)
  pub before_fault : (r x : Rule) → IsFaulty steps r → StandsBefore order x r → IsStaleBefore g b x → Among x (began steps)
  -- a rule at fault that was started is the last that was
  pub last : (r : Rule) → Among (Ended r false) steps → (earlier : List Rule) × (began steps ≡ r ∷ earlier)

abbrev pub StaleFrontBegins : Type 0
StaleFrontBegins = (g : Graph) (b : Build) (steps : List Step) (order : List Rule) → BuildsByContent g b steps → b.jobs ≡ 1 →
    b.keeps_going ≡ false → TakesInOrder (setting g b.before) b steps →
    IsBuildOrder (rule_at g b.before) g.limit (found_in (setting g b.before) (clean_build g b.before)) b.requested order →
    BeginsStaleFront g b order steps

-- the same build after another one, with no edit between: it begins with the tree and the records that that one left
pub record IsAgain (g : Graph) (b c : Build) : Type 0 where
  pub tree : c.before ≡ b.after
  pub requested : c.requested ≡ b.requested
  pub records : (r : Rule) → IsNeeded g b r → (p : Path) → Among p r.targets → c.records p ≡ Some (clean_record g b r)

-- Then nothing is stale but what is always carried out, and what has a target that its action doesn't make.
abbrev pub AgainLittle : Type 0
AgainLittle = (g : Graph) (b c : Build) → ((p : Path) → rule_at g b.before p ≡ None → b.before p ≡ b.after p) → IsAgain g b c →
    (r : Rule) → IsNeeded g c r → IsStaleBefore g c r → (r.always ≡ true) ⊎ ((p : Path) × Among p r.targets × (b.after p ≡ None))

-- The rules of a graph have their places.
abbrev pub GraphsAreLawful : Type 0
GraphsAreLawful = (g : Graph) (t : Tree) → IsGraph g → IsLawful (setting g t)

-- The height of a clean build is above all that a build of the graph settles.
abbrev pub HighEnough : Type 0
HighEnough = (g : Graph) (b : Build) (steps : List Step) → IsGraph g → IsRun (setting g b.before) b steps →
    height (settled steps) < 2 * length g.rules + 1
