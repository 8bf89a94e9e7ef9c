-- Which files a plan has met, and where they come from.
use Rattle.std.specs.Prelude.{◌≡◌, ◌≢◌, ◌≤◌, ◌⊎◌, ◌++◌, ℕ, Bool, true, false, List, [], Option, Some, None, length, slice_get}
use Rattle.std.specs.List.{list_all}
use Rattle.scons_base.specs.declared.ids.NodeId.{NodeId}
use Rattle.rule_graph.specs.Rules.{rule_of, are_below}
use Rattle.rule_graph.specs.Graphs.{RuleGraph}
use Rattle.rule_graph.specs.declared.rule.Rule.{Rule}
use Rattle.task_plan.specs.States.{state_of}
use Rattle.task_plan.specs.Named.{stands, put_all, named_of}
use Rattle.task_plan.specs.Settled.{Kept, origin_of}
use Rattle.task_plan.specs.Listed.{included}
use Rattle.task_plan.specs.Plans.{Planned, wanted}
use Rattle.task_plan.specs.declared.states.RuleState.{RuleState}
use Rattle.task_plan.specs.declared.states.RuleState.TheVariants.{Unneeded}
use Rattle.task_plan.specs.declared.files.Origin.{Origin}
use Rattle.task_plan.specs.declared.files.Origin.TheVariants.{Unmet, Source, Made}
use Rattle.task_plan.specs.declared.want.PlanEvent.{PlanEvent}
use Rattle.task_plan.specs.declared.want.PlanEvent.TheVariants.{Scanned, Fresh, Started, DoneOk, DoneFailed, Absent, Halt}

-- whether a file that comes from here was met
abbrev pub is_met_from : Origin → Bool
is_met_from Unmet = false
is_met_from Source = true
is_met_from (Made rule) = true

-- whether the plan knows where a file comes from
abbrev pub is_met : List Origin → NodeId → Bool
is_met origins node = is_met_from (origin_of origins node.0)

-- whether it knows that of all of these
abbrev pub are_met : List Origin → List NodeId → Bool
are_met origins nodes = list_all (λ n. is_met origins n) nodes

-- where a file comes from is what the graph says: no rule makes it, or this one does, and is needed
abbrev pub IsFrom : RuleGraph → List RuleState → ℕ → Origin → Type 0
IsFrom graph states node Unmet = Unit {0}
IsFrom graph states node Source = rule_of graph.rules node ≡ None
IsFrom graph states node (Made rule) = (rule_of graph.rules node ≡ Some rule.0) × (state_of states rule.0 ≢ Unneeded)

-- that is so of each file that was met
pub record AreFrom (graph : RuleGraph) (plan : Planned) : Type 0 where
  pub each : (node : ℕ) → IsFrom graph plan.states node (origin_of plan.origins node)

-- all that a rule requires and depends on was met, and what its files include, less what is left out
pub record AreNeedsMet (origins : List Origin) (kept : Kept) : Type 0 where
  pub required : are_met origins kept.required ≡ true
  pub deps : are_met origins kept.deps ≡ true
  pub found : (file other : NodeId) → stands (included kept.found file) other ≡ true → (stands kept.left_out other ≡ true) ⊎ (is_met origins other ≡ true)

-- that is so of each needed rule
pub record AllMet (plan : Planned) : Type 0 where
  pub each : (rule : ℕ) (kept : Kept) → state_of plan.states rule ≢ Unneeded → slice_get plan.rules rule ≡ Some kept → AreNeedsMet plan.origins kept

-- the rules of these nodes, and those of all that they require and depend on by what the graph says
pub data IsAskedFor (graph : RuleGraph) (nodes : List NodeId) : ℕ → Type 0 where
  asked : {rule : ℕ} (node : NodeId) → stands nodes node ≡ true → rule_of graph.rules node.0 ≡ Some rule → IsAskedFor graph nodes rule
  needs : {rule other : ℕ} (of : Rule) (node : NodeId) → IsAskedFor graph nodes rule → slice_get graph.rules rule ≡ Some of → stands (of.required ++ named_of of) node ≡ true
      → rule_of graph.rules node.0 ≡ Some other → IsAskedFor graph nodes other

-- those rules are needed, where the nodes are the graph's
pub record AllReached (graph : RuleGraph) (nodes : List NodeId) (states : List RuleState) : Type 0 where
  pub each : are_below (length graph.nodes) nodes ≡ true → (rule : ℕ) → IsAskedFor graph nodes rule → state_of states rule ≢ Unneeded

-- the nodes of an event are the graph's
abbrev pub AreNodes : RuleGraph → PlanEvent → Type 0
AreNodes graph (Scanned rule found) = are_below (length graph.nodes) found ≡ true
AreNodes graph (Fresh rule) = Unit {0}
AreNodes graph (Started rule) = Unit {0}
AreNodes graph (DoneOk rule) = Unit {0}
AreNodes graph (DoneFailed rule) = Unit {0}
AreNodes graph (Absent rule node) = Unit {0}
AreNodes graph Halt = Unit {0}

-- there is room for all nodes and rules of the graph
pub record HasRoom (graph : RuleGraph) (plan : Planned) : Type 0 where
  pub files : length graph.nodes ≤ length plan.origins
  pub states : length graph.rules ≤ length plan.states

-- met files stay met, and there is room for as much as there was
pub record KeepsRoom (old new : Planned) : Type 0 where
  pub met : (node : NodeId) → is_met old.origins node ≡ true → is_met new.origins node ≡ true
  pub files : length old.origins ≤ length new.origins
  pub states : length old.states ≤ length new.states

-- these nodes were met, and where files come from stays what the graph says
pub record Finds (graph : RuleGraph) (old new : Planned) (nodes : List NodeId) : Type 0 where
  pub met : are_below (length graph.nodes) nodes ≡ true → are_met new.origins nodes ≡ true
  pub from : AreFrom graph old → AreFrom graph new

-- all that is required and depended on, by what is known of a rule
abbrev pub needs_in : Option Kept → List NodeId
needs_in None = []
needs_in (Some kept) = kept.required ++ kept.deps

-- all that a rule requires and depends on
abbrev pub needs_at : List Kept → ℕ → List NodeId
needs_at rules rule = needs_in (slice_get rules rule)

-- behind a rule's files these are those that a file includes and that stood neither there nor among what is left out
pub record AreNews (plan : Planned) (rule : ℕ) (includes new : List NodeId) : Type 0 where
  pub kept : Kept
  pub at : slice_get plan.rules rule ≡ Some kept
  pub is : put_all kept.left_out kept.files includes ≡ kept.files ++ new

-- what the file that was wanted includes was met, less what stood among the rule's files or is left out; where none was no file is met
pub record FindsFile (graph : RuleGraph) (old new : Planned) (rule : ℕ) (includes : List NodeId) : Type 0 where
  pub keeps : KeepsRoom old new
  pub from : AreFrom graph old → AreFrom graph new
  pub met : (file : NodeId) (kept : Kept) → wanted old rule ≡ Some file → slice_get old.rules rule ≡ Some kept → are_below (length graph.nodes) includes ≡ true → (n : NodeId) → stands includes n ≡ true
      → (stands kept.left_out n ≡ true) ⊎ ((stands kept.files n ≡ true) ⊎ (is_met new.origins n ≡ true))
  pub same : wanted old rule ≡ None → new.origins ≡ old.origins

-- what an event makes of the files: only a scan changes them
abbrev pub FindsBy : RuleGraph → Planned → PlanEvent → Planned → Type 0
FindsBy graph old (Scanned rule found) new = FindsFile graph old new rule.0 found
FindsBy graph old (Fresh rule) new = new.origins ≡ old.origins
FindsBy graph old (Started rule) new = new.origins ≡ old.origins
FindsBy graph old (DoneOk rule) new = new.origins ≡ old.origins
FindsBy graph old (DoneFailed rule) new = new.origins ≡ old.origins
FindsBy graph old (Absent rule node) new = new.origins ≡ old.origins
FindsBy graph old Halt new = new.origins ≡ old.origins
