-- The rules of a reading on their way into the graph.
use Rattle.rule_graph.specs.Graphs.{RuleGraph}
use Rattle.scons_decls.specs.State.{Declared}

pub record Reading : Type 0 where
  -- what scripts declared
  pub declared : Declared
  -- the graph so far
  pub graph : RuleGraph
