-- Graphs, seen through the paths of their nodes.
use Rattle.std.specs.Prelude.{ℕ, List, [], ◌∷◌, ◌++◌, Option, unwrap_or, Result, Ok, map}
use Rattle.scons_base.specs.declared.ids.NodeId.{NodeId}
use Rattle.variant_dirs.specs.declared.variants.Variant.{Variant}
use Rattle.rule_graph.specs.declared.wish.Wish.{Wish}
use Rattle.rule_graph.specs.Graphs.{RuleGraph, path_of}
use Rattle.scons_decls.specs.Tables.{Table, value_at, put}
use Rattle.scons_rules.specs.declared.fault.RuleReadFault.{RuleReadFault}
use Rattle.scons_rules.specs.Numbers.{interned}
use Rattle.scons_rules.specs.Nodes.{all_interned}
use Rattle.scons_rules.specs.PathRules.{PathRule, by_paths, with_rule}
use Rattle.scons_rules.specs.Steps.{and_then}

pub record PathGraph : Type 0 where
  -- the absolute path of the top directory
  pub top : List ℕ
  -- the paths that are named, each once, in the order in which they came
  pub nodes : List (List ℕ)
  pub rules : List PathRule
  pub aliases : Table (List (List ℕ))
  pub defaults : List Wish
  pub helps : List (List ℕ)
  pub variants : List Variant

abbrev pub alias_by : List (List ℕ) → List ℕ × List NodeId → List ℕ × List (List ℕ)
alias_by nodes alias = (alias.0, map (path_of nodes) alias.1)

abbrev pub graph_by : RuleGraph → PathGraph
graph_by g = record {
  top = g.top;
  nodes = g.nodes;
  rules = map (by_paths g.nodes) g.rules;
  aliases = map (alias_by g.nodes) g.aliases;
  defaults = g.defaults;
  helps = g.helps;
  variants = g.variants;
}

-- the paths that a rule names
abbrev pub named_by : PathRule → List (List (List ℕ))
named_by r = r.targets ∷ r.sources ∷ r.libs ∷ r.depends ∷ r.required ∷ r.ignored ∷ []

-- a rule put into a graph: its paths are nodes then
abbrev pub put_rule : PathRule → PathGraph → Result PathGraph RuleReadFault
put_rule r g =
    and_then (all_interned g.nodes (named_by r)) (λ nodes.
    and_then (with_rule g.rules r) (λ rules. Ok (record g { nodes = nodes; rules = rules })))
