-- What is so of every reading, and of every build.
use Rattle.std.specs.Prelude.{ℕ, ◌≡◌, ◌↔◌, ◌⊎◌, Bool, true, List, ◌∷◌, ◌++◌, Option, Some, None}
use Rattle.std.specs.Option.{option_map}
use Rattle.world_api.specs.Act.{Law}
use Rattle.world_api.specs.Around.{Around, Entry, Started}
use Rattle.world_api.specs.Counts.{Counts}
use Rattle.world_api.specs.Reads.{stamp_of}
use Rattle.world_api.specs.declared.decider.Decider.{Decider}
use Rattle.world_api.specs.declared.hash.Hash.{Hash}
use Rattle.world_api.specs.declared.job.Job.{Job}
use Rattle.deciders.specs.declared.recorded.Rec.{Rec}
use Rattle.deciders.specs.Changes as kept
use Rattle.deciders.specs.Records.{IsValid}
use Rattle.rule_graph.specs.Graphs.{RuleGraph}
use Rattle.build_model.specs.Rules.{Path, Tree, Rule, Among}
use Rattle.build_model.specs.Contents.{IsKnown, in_tree}
use Rattle.build_model.specs.Graphs.{IsGraph, copy_rule, rule_at, setting, clean_build}
use Rattle.build_model.specs.Laws.{NeedsIn, TestsDue, EachStep, IsSeenSo}
use Rattle.build_model.specs.Needs.{Found}
use Rattle.build_model.specs.Moments.{Job as Given, IsCourse}
use Rattle.build_model.specs.Records.{AreSound}
use Rattle.build_model.specs.Resting.{LeavesAtRest, IsTakenOut, GoesOn}
use Rattle.build_model.specs.Stale.{HasChanged}
use Rattle.build_model.specs.Steps.{Step, Fresh, Ended, Build}
use Rattle.build_model.specs.Waiting.{WaitsRightly, IsBusy}
use Rattle.build_means.specs.Rules.{IsReading, rule_in, rule_with, decider_of}
use Rattle.build_means.specs.Copies.{copied_from, is_known}
use Rattle.build_means.specs.Records.{record_in, records_in}
use Rattle.build_means.specs.Graphs.{graph_of}
use Rattle.build_means.specs.Logs.{EndedWell}
use Rattle.build_means.specs.Builds.{Wanted, Kept, Runs, Rests, IsByContent, IsJobIn, AreJobsOf, KeepsRecords, AllSettled, Succeeded, graph_in, setting_in, build_in}

-- The test by which a rule is found due meets its definition, for all four deciders.
abbrev pub TestsMeetDue : Type 0
TestsMeetDue = (g : RuleGraph) (law : Law) (hash : Hash) (tree t : Tree) (b : Build) (r : Rule) →
    TestsDue (setting (graph_of g law hash tree) t) b r

-- By each decider a record of a store has changed where it has as a record of the model. For this each digest has to be by its
-- record's function, as it is in valid records.
abbrev pub ChangesAreAlike : Type 0
ChangesAreAlike = (decider : Decider) (target : Option ℕ) (old now : Rec) → IsValid old → IsValid now →
    kept.HasChanged decider old now target ↔ HasChanged (decider_of decider) target (record_in old) (record_in now)

-- A reading stands for a graph: its rules are no copies, and no two of them make one path.
abbrev pub ReadingsAreGraphs : Type 0
ReadingsAreGraphs = (g : RuleGraph) (law : Law) (hash : Hash) (tree : Tree) → IsReading g → IsGraph (graph_of g law hash tree)

abbrev pub or_copied : Option Rule → Option Rule → Option Rule
or_copied (Some r) copy = Some r
or_copied None copy = copy

-- The rule of a path is the one that was declared for it, or else the one that copies it.
abbrev pub RulesAreThese : Type 0
RulesAreThese = (g : RuleGraph) (law : Law) (hash : Hash) (tree : Tree) → IsReading g → (p : Path) →
    rule_at (graph_of g law hash tree) tree p ≡ or_copied (option_map (rule_in g) (rule_with g p)) (option_map (copy_rule p) (copied_from g tree p))

-- What an include line may mean is known where it has a rule or is a file.
abbrev pub KnownAreThese : Type 0
KnownAreThese = (g : RuleGraph) (law : Law) (hash : Hash) (tree : Tree) → IsReading g → (p : Path) →
    (is_known g tree p ≡ true) ↔ IsKnown (setting (graph_of g law hash tree) tree) tree p

-- What was seen at each moment is what stands at the end: a course from where a build began to where it ended is what `Runs` asks.
abbrev pub CoursesAreSeen : Type 0
CoursesAreSeen = (w : Wanted) (kept : Kept) (before after : Around) (jobs : List Given) (steps : List Step) → IsReading w.graph →
    IsCourse (setting_in w before) (build_in w kept before after) jobs after.tree (stamp_of after) steps →
    IsSeenSo (setting_in w before) (build_in w kept before after) after.tree (stamp_of after) steps

-- A build at whose end every rule that makes what is requested is settled, and that waited rightly, succeeded by what it did.
abbrev pub SettledSucceed : Type 0
SettledSucceed = (w : Wanted) (kept : Kept) (counts : Counts) (before after : Around) → IsReading w.graph →
    (runs : Runs w kept counts before after) → AllSettled w kept before after runs.steps →
    WaitsRightly (setting_in w before) (build_in w kept before after) runs.steps →
    (succeeded : Succeeded w kept counts before after) × (succeeded.runs ≡ runs)

-- At any status each step of a build by content is right by the clean build.
abbrev pub RunsAreRight : Type 0
RunsAreRight = (w : Wanted) (kept : Kept) (counts : Counts) (before after : Around) → IsReading w.graph →
    (runs : Runs w kept counts before after) → IsByContent w kept before after →
    EachStep (setting_in w before) (build_in w kept before after) (clean_build (graph_in w before) before.tree) runs.steps

-- Where a build came to rest, each needed rule is settled, faulty, skipped or held.
abbrev pub RestsAreRight : Type 0
RestsAreRight = (w : Wanted) (kept : Kept) (counts : Counts) (before after : Around) → (runs : Runs w kept counts before after) →
    (rests : Rests w kept before after runs.steps) →
    LeavesAtRest (setting_in w before) (build_in w kept before after) runs.steps rests.found

-- At any status: records that told the truth before a build tell it after.
abbrev pub RecordsStayTrue : Type 0
RecordsStayTrue = (w : Wanted) (kept : Kept) (counts : Counts) (before after : Around) → (runs : Runs w kept counts before after) →
    AreSound (setting_in w before) after.met before.tree (records_in kept) → (later : Kept) → KeepsRecords w kept before after runs.steps later →
    AreSound (setting_in w before) after.met after.tree (records_in later)

-- At any status: what a rule needs is settled before it starts, and stands before that start in the log unless it was found up
-- to date.
pub record IsInOrder (w : Wanted) (kept : Kept) (before after : Around) (steps : List Step) (front : List Entry) (job : Job) : Type 0 where
  pub rule : Rule
  pub job_of : IsJobIn w kept before after rule job
  pub needs : (q : Rule) → NeedsIn (setting_in w before) (in_tree after.tree) rule q →
      Among (Fresh q) steps ⊎ EndedWell (IsJobIn w kept before after) front q

abbrev pub LogsAreInOrder : Type 0
LogsAreInOrder = (w : Wanted) (kept : Kept) (counts : Counts) (before after : Around) → (runs : Runs w kept counts before after) →
    (front : List Entry) (job : Job) (at : Counts) (back : List Entry) → runs.log.entries ≡ front ++ Started job at ∷ back →
    IsInOrder w kept before after runs.steps front job

-- A build that ended well started one job for each rule that began, and no other.
abbrev pub SucceededHaveJobs : Type 0
SucceededHaveJobs = (w : Wanted) (kept : Kept) (counts : Counts) (before after : Around) → (well : Succeeded w kept counts before after) →
    AreJobsOf w kept before after well.runs.steps well.runs.log.entries

-- A build that went on after faults and came to rest, by the clean contents with the targets of hindered rules taken out: each
-- rule that is needed so and stale was started, or is faulty, skipped or held.
abbrev pub GoingOnIsRight : Type 0
GoingOnIsRight = (w : Wanted) (kept : Kept) (counts : Counts) (before after : Around) → IsReading w.graph →
    (runs : Runs w kept counts before after) → IsByContent w kept before after → (rests : Rests w kept before after runs.steps) →
    (taken : Found) → IsTakenOut (setting_in w before) (build_in w kept before after) (clean_build (graph_in w before) before.tree) runs.steps rests.found taken →
    GoesOn (setting_in w before) (build_in w kept before after) (clean_build (graph_in w before) before.tree) runs.steps rests.found taken

-- Before each ending of a build that ended well as many actions ran as may, or whatever is stale and could be started waited
-- for a stale rule that hadn't ended.
abbrev pub EndingsAreBusy : Type 0
EndingsAreBusy = (w : Wanted) (kept : Kept) (counts : Counts) (before after : Around) → IsReading w.graph →
    (well : Succeeded w kept counts before after) → IsByContent w kept before after →
    (later past : List Step) (r : Rule) (ended_well : Bool) → well.runs.steps ≡ later ++ Ended r ended_well ∷ past →
    IsBusy (setting_in w before) (build_in w kept before after) (clean_build (graph_in w before) before.tree) past
