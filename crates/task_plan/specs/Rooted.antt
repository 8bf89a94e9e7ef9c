-- Which rules come to be needed: those that are reached, and no others.
use Rattle.std.specs.Prelude.{◌≡◌, ◌≢◌, ◌⊎◌, ◌++◌, ℕ, true, List, [], Option, Some, None, drop, length, slice_get}
use Rattle.std.specs.List.{filter_map}
use Rattle.std.specs.Option.{option_map}
use Rattle.scons_base.specs.declared.ids.NodeId.{NodeId}
use Rattle.scons_base.specs.declared.ids.RuleId.{RuleId}
use Rattle.rule_graph.specs.Rules.{rule_of}
use Rattle.rule_graph.specs.Graphs.{RuleGraph}
use Rattle.rule_graph.specs.declared.rule.Rule.{Rule}
use Rattle.task_plan.specs.States.{state_of}
use Rattle.task_plan.specs.Named.{stands, put_all, named_of}
use Rattle.task_plan.specs.Settled.{Kept}
use Rattle.task_plan.specs.Orders.{IsReached, needed_of}
use Rattle.task_plan.specs.Plans.{Planned}
use Rattle.task_plan.specs.Met.{is_met, needs_at, IsAskedFor}
use Rattle.task_plan.specs.Admits.{queues}
use Rattle.task_plan.specs.declared.states.RuleState.TheVariants.{Unneeded}
use Rattle.task_plan.specs.declared.want.PlanEvent.{PlanEvent}
use Rattle.task_plan.specs.declared.want.PlanEvent.TheVariants.{Scanned, Fresh, Started, DoneOk, DoneFailed, Absent, Halt}

-- the rules that make these nodes by what the graph says, in the order of the nodes; a node that no rule makes gives none
abbrev pub makers_in : RuleGraph → List NodeId → List RuleId
makers_in graph nodes = filter_map (λ n. option_map (λ r. record { 0 = r }) (rule_of graph.rules n.0)) nodes

-- the needed rules are those that are reached from the rules of the requested nodes, by what is known of the rules
pub record AreReached (plan : Planned) : Type 0 where
  pub each : (rule : ℕ) → state_of plan.states rule ≢ Unneeded → IsReached (needed_of plan.rules plan.origins) plan.notes.roots rule
  pub only : (rule : ℕ) → IsReached (needed_of plan.rules plan.origins) plan.notes.roots rule → state_of plan.states rule ≢ Unneeded

-- a needed rule requires or depends on a file
pub record IsSoughtBy (plan : Planned) (node : NodeId) : Type 0 where
  pub rule : ℕ
  pub needed : state_of plan.states rule ≢ Unneeded
  pub needs : stands (needs_at plan.rules rule) node ≡ true

-- Each file that the plan has met is requested, or a needed rule requires or depends on it.
pub record AreSought (requested : List NodeId) (plan : Planned) : Type 0 where
  pub each : (node : NodeId) → is_met plan.origins node ≡ true → (stands requested node ≡ true) ⊎ IsSoughtBy plan node

-- that stays so
pub record KeepsSought (old new : Planned) : Type 0 where
  pub each : (requested : List NodeId) → AreSought requested old → AreSought requested new

-- a rule that these nodes ask for requires or depends on a file, by what the graph says
pub record IsNeededFor (graph : RuleGraph) (nodes : List NodeId) (node : NodeId) : Type 0 where
  pub rule : ℕ
  pub of : Rule
  pub asked : IsAskedFor graph nodes rule
  pub at : slice_get graph.rules rule ≡ Some of
  pub needs : stands (of.required ++ named_of of) node ≡ true

-- each file that came to be met is one of these nodes, or a rule that they ask for needs it
pub record MeetsNoOthers (graph : RuleGraph) (old new : Planned) (nodes : List NodeId) : Type 0 where
  pub met : (node : NodeId) → is_met new.origins node ≡ true → (is_met old.origins node ≡ true) ⊎ ((stands nodes node ≡ true) ⊎ IsNeededFor graph nodes node)

-- the rules that came to be needed are asked for by these nodes, by what the graph says, and the files that came to be met are for them
pub record NeedsNoOthers (graph : RuleGraph) (old new : Planned) (nodes : List NodeId) : Type 0 where
  pub each : (rule : ℕ) → state_of old.states rule ≡ Unneeded → state_of new.states rule ≢ Unneeded → IsAskedFor graph nodes rule
  pub files : MeetsNoOthers graph old new nodes

-- they were put behind others, and no rule was that isn't asked for
pub record BringsNoOthers (graph : RuleGraph) (old new : Planned) (nodes : List NodeId) (before after : List RuleId) : Type 0 where
  pub more : List RuleId
  pub is : after ≡ before ++ more
  pub all : (rule : ℕ) → state_of old.states rule ≡ Unneeded → state_of new.states rule ≢ Unneeded → queues more rule ≡ true
  pub asked : (rule : ℕ) → queues more rule ≡ true → IsAskedFor graph nodes rule
  pub files : MeetsNoOthers graph old new nodes

-- that is so of all nodes that ask for a rule
pub record AdmitsNoOthers (graph : RuleGraph) (old new : Planned) (rule : ℕ) (before after : List RuleId) : Type 0 where
  pub each : (nodes : List NodeId) → IsAskedFor graph nodes rule → BringsNoOthers graph old new nodes before after

-- nodes that ask for these rules ask for all that came to be needed
pub record EndsNoOthers (graph : RuleGraph) (old new : Planned) (rules : List RuleId) : Type 0 where
  pub each : (nodes : List NodeId) → ((rule : ℕ) → queues rules rule ≡ true → IsAskedFor graph nodes rule) → NeedsNoOthers graph old new nodes

-- the files that come to a rule where a file includes these: less those that stand among its files or are left out
abbrev pub news_in : Option Kept → List NodeId → List NodeId
news_in None includes = []
news_in (Some kept) includes = drop (length kept.files) (put_all kept.left_out kept.files includes)

-- the files that come to a rule by an event: only a scan finds any
abbrev pub news_of : Planned → PlanEvent → List NodeId
news_of plan (Scanned rule found) = news_in (slice_get plan.rules rule.0) found
news_of plan (Fresh rule) = []
news_of plan (Started rule) = []
news_of plan (DoneOk rule) = []
news_of plan (DoneFailed rule) = []
news_of plan (Absent rule node) = []
news_of plan Halt = []
