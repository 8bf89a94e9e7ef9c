-- What is requested: nodes of the graph.
use Rattle.std.specs.Prelude.{◌≤◌, ◌<◌, ◌++◌, ◌∷◌, [], ℕ, List, length, All, Result, IfOk, IfSome, Vec}
use Rattle.scons_base.specs.declared.ids.NodeId.{NodeId}
use Rattle.rule_graph.specs.Graphs.{RuleGraph}
use Rattle.scons_top.specs.declared.below.Below.{Below}
use Rattle.scons_top.specs.declared.requests.Request.{Request}

-- these are numbers of nodes
abbrev pub AreNodes : RuleGraph → List NodeId → Type 0
AreNodes g nodes = All (λ node. node.0 < length g.nodes) nodes

-- so are those that were found
abbrev pub GivesNodes : {A E : Type 0} → RuleGraph → Result (Vec NodeId A) E → Type 0
GivesNodes g result = IfOk result (λ found. AreNodes g found.items)

-- where there were no others before, there are none with those that were added
abbrev pub AddsNodes : {A : Type 0} → RuleGraph → Vec NodeId A → Vec NodeId A → Type 0
AddsNodes g old new = AreNodes g old.items → AreNodes g new.items

-- paths with the numbers of nodes
abbrev pub HaveNodes : RuleGraph → List (List ℕ × NodeId) → Type 0
HaveNodes g targets = All (λ target. target.1.0 < length g.nodes) targets

-- the targets that were looked up have them
abbrev pub KnowsNodes : RuleGraph → Below → Type 0
KnowsNodes g below = IfSome below.targets (λ targets. HaveNodes g targets.items)

-- a request stands for nodes
abbrev pub AsksForNodes : RuleGraph → Request → Type 0
AsksForNodes g request = AreNodes g request.nodes.items

abbrev pub AskForNodes : RuleGraph → List Request → Type 0
AskForNodes g requests = All (AsksForNodes g) requests

-- what all requests stand for, in their order
abbrev pub nodes_asked : List Request → List NodeId
nodes_asked [] = []
nodes_asked (request ∷ requests) = request.nodes.items ++ nodes_asked requests

-- no node went
abbrev pub HasMore : RuleGraph → RuleGraph → Type 0
HasMore old new = length old.nodes ≤ length new.nodes
