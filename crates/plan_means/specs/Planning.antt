-- What a plan is for a graph, by its own words, and what an event makes of it.
use Rattle.std.specs.Prelude.{◌≡◌, ◌≤◌, true, List, length}
use Rattle.scons_base.specs.declared.ids.NodeId.{NodeId}
use Rattle.scons_base.specs.declared.limits.TheConstants.{NODE_LIMIT}
use Rattle.rule_graph.specs.Rules.{are_below}
use Rattle.rule_graph.specs.Graphs.{RuleGraph}
use Rattle.task_plan.specs.Plans.{Planned, Goes}
use Rattle.task_plan.specs.Met.{AllMet, AreFrom, AreNodes}
use Rattle.task_plan.specs.Admits.{Fits, AllFollow, Knows}
use Rattle.task_plan.specs.Rooted.{makers_in, AreReached, AreSought, KeepsSought}
use Rattle.task_plan.specs.Watched.{IsComplete}
use Rattle.task_plan.specs.Ordered.{KeepsOrder}
use Rattle.task_plan.specs.declared.want.PlanEvent.{PlanEvent}
use Rattle.build_means.specs.Rules.{IsReading}
use Rattle.build_means.specs.Grown.{Begun, IsGrown}

-- The graph as a build has it now: the one that was read, with nodes and copy rules behind.
pub record IsGraphNow (b : Begun) (g : RuleGraph) : Type 0 where
  pub read : IsReading b.graph
  pub reading : IsReading g
  pub grown : IsGrown b g
  pub room : length g.nodes ≤ NODE_LIMIT

-- A plan for this graph and these requested nodes: all that its own clauses say of one that hasn't halted.
pub record IsPlanFor (g : RuleGraph) (requested : List NodeId) (plan : Planned) : Type 0 where
  pub fits : Fits g plan
  pub follow : AllFollow plan
  pub from : AreFrom g plan
  pub met : AllMet plan
  pub reached : AreReached plan
  pub sought : AreSought requested plan
  pub complete : IsComplete plan
  pub order : KeepsOrder plan
  pub roots : plan.notes.roots ≡ makers_in g requested
  pub nodes : are_below (length g.nodes) requested ≡ true

-- What an event makes of a plan where memory sufficed: the clauses of a step.
pub record IsStep (g : RuleGraph) (old : Planned) (event : PlanEvent) (new : Planned) : Type 0 where
  pub states : Goes old event new.states
  pub knows : Knows g old event new
  pub fits : Fits g old → Fits g new
  pub follow : AllFollow new
  pub origins : AreFrom g old → AreFrom g new
  pub needs : AreNodes g event → Fits g old → AllMet old → AllMet new
  pub only : AreNodes g event → Fits g old → AreFrom g old → AllMet old → AreReached old → AreReached new
  pub sought : AreNodes g event → Fits g old → AreFrom g old → AllMet old → AreReached old → KeepsSought old new
  pub roots : new.notes.roots ≡ old.notes.roots
  pub complete : AreNodes g event → Fits g old → AreFrom g old → AllMet old → AreReached old → IsComplete old →
      IsComplete new
  pub order : AreNodes g event → Fits g old → AreFrom g old → AllMet old → KeepsOrder old → KeepsOrder new
