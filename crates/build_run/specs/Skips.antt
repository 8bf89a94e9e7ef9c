-- Which rules a build says that it skipped, and for which others.
use Rattle.std.specs.Prelude.{◌≡◌, ◌⊎◌, ℕ, true, false, List, Some, length, slice_get}
use Rattle.scons_base.specs.declared.ids.NodeId.{NodeId}
use Rattle.scons_base.specs.declared.ids.RuleId.{RuleId}
use Rattle.world_api.specs.Around.{Around}
use Rattle.world_api.specs.Meaning.{Meaning}
use Rattle.rule_graph.specs.Graphs.{RuleGraph}
use Rattle.rule_graph.specs.declared.build_fault.BuildFault.{BuildFault}
use Rattle.rule_graph.specs.Rules.{are_below}
use Rattle.sign_store.specs.Stores.{map_of}
use Rattle.sign_store.specs.Tables.{Map}
use Rattle.sign_store.specs.declared.store.Store.{Store}
use Rattle.task_plan.specs.Cycles.{IsCycle}
use Rattle.task_plan.specs.Admits.{Fits}
use Rattle.task_plan.specs.Held.{AreHeld, HasAllHeld, HasEachOnce, HoldWhatNeeds}
use Rattle.task_plan.specs.Met.{AreFrom}
use Rattle.task_plan.specs.Watched.{IsComplete}
use Rattle.task_plan.specs.Orders.{is_among}
use Rattle.task_plan.specs.Plans.{Planned}
use Rattle.task_plan.specs.States.{is_faulty, state_of}
use Rattle.build_model.specs.Needs.{Found, Needed, NeedsThrough}
use Rattle.build_model.specs.Resting.{IsFaulty, IsUntouched, whole_found}
use Rattle.build_model.specs.Rules.{Path, Rule}
use Rattle.build_model.specs.Steps.{Step}
use Rattle.build_means.specs.Builds.{Wanted, Kept, setting_in, build_in}
use Rattle.build_files.specs.Firsts.{first_target_of}
use Rattle.turn_means.specs.Standing.{Outset}
use Rattle.build_run.specs.Causes.{HasAny}
use Rattle.build_run.specs.Noted.{IsOfRule}
use Rattle.build_run.specs.Outsets.{wanted_of, HasMade, HasRun, IsReadyFor}
use Rattle.build_run.specs.declared.account.Account.{Account}
use Rattle.build_run.specs.declared.building.Options.{Options}
use Rattle.build_run.specs.declared.end.BuildEnd.{BuildEnd}
use Rattle.build_run.specs.declared.site.Run.{Run}

-- ---- by a plan

-- a rule is at fault: it failed, lacks a dependency, or waits for itself
pub data IsAtFault (plan : Planned) (rule : ℕ) : Type 0 where
  by_state : is_faulty (state_of plan.states rule) ≡ true → IsAtFault plan rule
  in_cycle : (cycle : List RuleId) → IsCycle plan.states plan.rules plan.origins cycle → is_among rule cycle ≡ true → IsAtFault plan rule

-- each of these rules is
pub record AreAtFault (plan : Planned) (rules : List RuleId) : Type 0 where
  pub each : (rule : ℕ) → is_among rule rules ≡ true → IsAtFault plan rule

-- these are the paths by which two rules are named
pub record AreNamed (g : RuleGraph) (pair : RuleId × RuleId) (paths : Path × Path) : Type 0 where
  pub first : first_target_of g pair.0.0 ≡ Some paths.0
  pub second : first_target_of g pair.1.0 ≡ Some paths.1

-- pair by pair these paths name so many of the rules that are held, each with the one at fault
pub record AreNamedTo (g : RuleGraph) (held : List (RuleId × RuleId)) (count : ℕ) (pairs : List (Path × Path)) : Type 0 where
  pub size : length pairs ≡ count
  pub each : (n : ℕ) (paths : Path × Path) → slice_get pairs n ≡ Some paths →
      (pair : RuleId × RuleId) × (slice_get held n ≡ Some pair) × AreNamed g pair paths

-- those of the noted rules that are at fault by the plan are among these
abbrev pub TakesFaulty : Planned → List RuleId → List RuleId → Type 0
TakesFaulty plan noted rules = (rule : ℕ) → is_among rule noted ≡ true → is_faulty (state_of plan.states rule) ≡ true → is_among rule rules ≡ true

-- These pairs name just the rules that some at fault hold, each once; among those at fault are all noted ones that are so by
-- the plan.
pub record AreHeldPairs (g : RuleGraph) (plan : Planned) (noted : List RuleId) (pairs : List (Path × Path)) : Type 0 where
  pub faulty : List RuleId
  pub at_fault : AreAtFault plan faulty
  pub takes : TakesFaulty plan noted faulty
  pub held : List (RuleId × RuleId)
  pub real : AreHeld plan.states plan.rules plan.notes.waiters faulty held
  pub all : HasAllHeld plan.states plan.rules plan.notes.waiters faulty held
  pub once : HasEachOnce held
  pub named : AreNamedTo g held (length held) pairs

-- unless memory was wanting for them
abbrev pub HasHeldPairs : RuleGraph → Planned → Account → List (Path × Path) → Type 0
HasHeldPairs g plan account pairs = account.is_ended ≡ false → AreHeldPairs g plan account.faulty.items pairs

-- a plan that overlooks nothing holds what needs a rule at fault
abbrev pub HoldsNeedy : RuleGraph → Planned → Type 0
HoldsNeedy g plan = IsComplete plan → AreFrom g plan → Fits g plan → HoldWhatNeeds plan

-- ---- by the steps of a build

-- what was found once all was scanned that can be
abbrev pub found_by : Wanted → Kept → Around → Around → List Step → Found
found_by w kept before after steps = whole_found (setting_in w before) (build_in w kept before after) steps

-- one rule needs another, directly or through others, by what was found
abbrev pub NeedsBy : Wanted → Kept → Around → Around → List Step → Rule → Rule → Type 0
NeedsBy w kept before after steps r q = NeedsThrough (setting_in w before).rule_of (found_by w kept before after steps) r q

abbrev pub IsNeededBy : Wanted → Kept → Around → Around → List Step → Rule → Type 0
IsNeededBy w kept before after steps r =
    Needed (setting_in w before).rule_of (found_by w kept before after steps) (build_in w kept before after).requested r

-- Why a rule holds others back: its action ended otherwise than well, or it lacks a dependency, and the report has that fault of
-- it; or it needs itself.
pub data HoldsBack (w : Wanted) (kept : Kept) (before after : Around) (steps : List Step) (faults : List BuildFault) (rule : Rule) (path : Path) : Type 0 where
  by_fault : IsFaulty steps rule → HasAny (IsOfRule path) faults → HoldsBack w kept before after steps faults rule path
  by_cycle : NeedsBy w kept before after steps rule rule → HoldsBack w kept before after steps faults rule path

-- A pair names the first targets of two rules: one that was neither started nor settled, and isn't at fault itself, and one that it
-- needs, directly or through others, and that holds it back.
pub record IsSkip (w : Wanted) (kept : Kept) (before after : Around) (steps : List Step) (faults : List BuildFault) (paths : Path × Path) : Type 0 where
  pub rule : Rule
  pub other : Rule
  pub first : slice_get rule.targets 0 ≡ Some paths.0
  pub first_other : slice_get other.targets 0 ≡ Some paths.1
  pub needs : NeedsBy w kept before after steps rule other
  pub untouched : IsUntouched steps rule
  pub well : IsFaulty steps rule → ⊥
  pub why : HoldsBack w kept before after steps faults other paths.1

-- a pair names this rule first
pub record HasPair (pairs : List (Path × Path)) (rule : Rule) : Type 0 where
  pub place : ℕ
  pub paths : Path × Path
  pub at : slice_get pairs place ≡ Some paths
  pub first : slice_get rule.targets 0 ≡ Some paths.0

-- Each of these pairs is such, no rule stands first in two of them, and a needed rule that needs one at fault, directly or
-- through others, is at fault itself, needs itself, or has its pair.
pub record AreSkips (w : Wanted) (kept : Kept) (before after : Around) (steps : List Step) (faults : List BuildFault) (pairs : List (Path × Path)) : Type 0 where
  pub each : (n : ℕ) (paths : Path × Path) → slice_get pairs n ≡ Some paths → IsSkip w kept before after steps faults paths
  pub once : (n m : ℕ) (paths other : Path × Path) → slice_get pairs n ≡ Some paths → slice_get pairs m ≡ Some other →
      paths.0 ≡ other.0 → n ≡ m
  pub all : (r q : Rule) → IsNeededBy w kept before after steps r → NeedsBy w kept before after steps r q → IsFaulty steps q →
      IsFaulty steps r ⊎ (NeedsBy w kept before after steps r r ⊎ HasPair pairs r)

-- What a build did, and that it skipped what it says, unless an end came.
pub record HasMadeSkipping (o : Outset) (around : Around) (account : Account) (behind : Map) (skipped : List (Path × Path)) : Type 0 where
  pub made : HasMade o around account behind
  pub skips : account.is_ended ≡ false → AreSkips o.wanted o.kept o.before around made.runs.steps account.faults.items skipped

abbrev pub MakesSkipping : {W : Type 0} → Meaning W → RuleGraph → Run → Store → W → Account → Options → W → Account → Store → List (Path × Path) → Type 0
MakesSkipping m g run store world account options new new_account new_store skipped = m.tells new → m.sure new → (o : Outset) →
    IsReadyFor m o g run store world account options → HasMadeSkipping o (m.around new) new_account (map_of new_store) skipped

-- ---- builds

-- What a build did, and that it skipped what its answer says, unless a fault came after which nothing new starts.
pub record HasSkipped {W : Type 0} (m : Meaning W) (w : Wanted) (map : Map) (old new : W) (behind : Map) (answer : BuildEnd) : Type 0 where
  pub run : HasRun m w map old new behind answer.is_ended
  pub skips : answer.is_ended ≡ false → AreSkips w run.kept run.left (m.around new) run.runs.steps answer.faults answer.skipped

-- So builds do, in a world that tells and is sure, where the requested nodes are the graph's.
abbrev pub BuildSkips : {W : Type 0} → Meaning W → RuleGraph → List NodeId → Options → Store → W → Store → W → BuildEnd → Type 0
BuildSkips m g requested options store old new_store new answer =
    m.tells new → m.sure new → are_below (length g.nodes) requested ≡ true →
    HasSkipped m (wanted_of g requested options) (map_of store) old new (map_of new_store) answer
