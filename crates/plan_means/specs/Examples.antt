-- A plan that meets what laws ask: an object is made of a source, by a rule that doesn't scan, and is requested.
use Rattle.std.specs.Prelude.{List, ◌≡◌, true, false, [], ◌∷◌, length, Some, None, if◌then◌else◌}
use Rattle.std.specs.Str.{bytes_eq}
use Rattle.scons_base.specs.declared.ids.NodeId.{NodeId}
use Rattle.scons_base.specs.declared.ids.RuleId.{RuleId}
use Rattle.world_api.specs.declared.hash.Hash.TheVariants.{Md5}
use Rattle.world_api.specs.declared.job.Work.TheVariants.{Shell}
use Rattle.world_api.specs.declared.decider.Decider.TheVariants.{Content}
use Rattle.rule_graph.specs.declared.rule.Rule as declared
use Rattle.rule_graph.specs.Rules.{are_below}
use Rattle.rule_graph.specs.Graphs.{RuleGraph}
use Rattle.task_plan.specs.Settled.{first_kept}
use Rattle.task_plan.specs.Plans.{Planned, IsDecidedNext}
use Rattle.task_plan.specs.Orders.{IsOrder}
use Rattle.task_plan.specs.Ordered.{IsFirstOf}
use Rattle.task_plan.specs.Watched.{IsNoneReady}
use Rattle.task_plan.specs.declared.files.Origin.TheVariants.{Source, Made}
use Rattle.task_plan.specs.declared.states.RuleState.TheVariants.{Waiting, Settled}
use Rattle.task_plan.specs.declared.want.PlanEvent.TheVariants as told
use Rattle.build_model.specs.Rules.{Path, Tree}
use Rattle.build_model.specs.Steps.{Build, Fresh}
use Rattle.build_means.specs.Rules.{rule_in}
use Rattle.build_means.specs.Grown.{Begun, rule_numbered}
use Rattle.plan_means.specs.Planning.{IsGraphNow, IsStep}
use Rattle.plan_means.specs.Ties.{Ties}
use Rattle.plan_means.specs.Deciding.{IsTied}
use Rattle.plan_means.specs.Stepping.{Tells}
use Rattle.plan_means.specs.Growth.{Grows}
use Rattle.plan_means.specs.Beginning.{AreLookedFor, IsLoaded}

abbrev pub source : Path
source = 99 ∷ []

abbrev pub object : Path
object = 111 ∷ []

abbrev pub source_node : NodeId
source_node = record { 0 = 0 }

abbrev pub object_node : NodeId
object_node = record { 0 = 1 }

abbrev pub object_rule : declared.Rule
object_rule = record {
  work = Shell;
  targets = object_node ∷ [];
  sources = source_node ∷ [];
  libs = [];
  depends = [];
  required = [];
  ignored = [];
  lines = [];
  signed = [];
  paths = [];
  scans = false;
  always = false;
  decider = Content;
  builder = [];
}

abbrev pub graph : RuleGraph
graph = record {
  top = [];
  nodes = source ∷ object ∷ [];
  rules = object_rule ∷ [];
  aliases = [];
  defaults = [];
  helps = [];
  variants = [];
}

abbrev pub source_alone : Tree
source_alone p = if bytes_eq p source then Some (2 ∷ []) else None

abbrev pub begun : Begun
begun = record { graph = graph; law = λ signed targets given target. None; hash = Md5; tree = source_alone }

abbrev pub first_rule : RuleId
first_rule = record { 0 = 0 }

-- the plan as it is loaded: the rule waits, and can be decided
abbrev pub plan : Planned
plan = record {
  states = Waiting ∷ [];
  queue = record { order = first_rule ∷ []; numbers = 0 ∷ []; opens = true ∷ [] };
  halted = false;
  rules = first_kept graph object_rule ∷ [];
  origins = Source ∷ Made first_rule ∷ [];
  marks = false ∷ [];
  nexts = None ∷ [];
  notes = record {
    places = record { passed = 1; whole = 0; next = 0 } ∷ [];
    waiters = [] ∷ [] ∷ [];
    is_ordered = true;
    roots = first_rule ∷ [];
  };
}

-- and the same once its rule was found up to date
abbrev pub settled_plan : Planned
settled_plan = record plan {
  states = Settled ∷ [];
  queue = record { order = first_rule ∷ []; numbers = 0 ∷ []; opens = false ∷ [] };
}

-- the build as it begins
abbrev pub build : Build
build = record {
  before = source_alone;
  stamps_before = λ p. None;
  records = λ p. None;
  requested = object ∷ [];
  jobs = 1;
  keeps_going = false;
  met = [];
  after = source_alone;
  stamps_after = λ p. None;
}

-- It meets what is asked of a plan as it is loaded, so it is tied; it wants its rule decided, and that stands first; it
-- may be told that the rule is up to date; and its graph may grow, by nothing.
pub record AreMet : Type 0 where
  pub now : IsGraphNow begun graph
  pub below : are_below (length graph.nodes) (object_node ∷ []) ≡ true
  pub looked : AreLookedFor begun graph (object_node ∷ [])
  pub loaded : IsLoaded graph (object_node ∷ []) plan
  pub tied : Ties begun graph (object_node ∷ []) source_alone [] plan
  pub next : IsDecidedNext plan 0
  pub is : rule_numbered begun graph 0 ≡ Some (rule_in graph object_rule)
  pub build_tied : IsTied begun graph (object_node ∷ []) build [] plan
  pub none_ready : IsNoneReady plan
  pub first : (order : List RuleId) → IsOrder plan.rules plan.origins plan.notes.roots order →
      IsFirstOf plan order first_rule
  pub tells : Tells begun graph plan (told.Fresh first_rule) (Fresh (rule_in graph object_rule))
  pub step : IsStep graph plan (told.Fresh first_rule) settled_plan
  pub grows : Grows graph graph
