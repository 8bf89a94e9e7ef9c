-- What a build over some graph and files begins with.
use Rattle.std.specs.Prelude.{◌≡◌, ℕ, true, false, List, [], length}
use Rattle.std.specs.List.{list_any}
use Rattle.std.specs.Str.{bytes_eq}
use Rattle.rule_graph.specs.Graphs.{RuleGraph}
use Rattle.world_api.specs.Around.{Around}
use Rattle.world_api.specs.declared.hash.Hash.{Hash}
use Rattle.build_model.specs.Rules.{Path}
use Rattle.build_means.specs.Copies.{is_copied}
use Rattle.build_means.specs.Grown.{Begun, IsGrown}
use Rattle.build_means.specs.Rules.{IsReading}
use Rattle.build_files.specs.Kept.{past}
use Rattle.build_files.specs.Leftovers.{is_made}

-- It begins with the graph as it was read, digests by this hash, and the files that stand, but for those that are looked past, which lie
-- in variant directories with copies. Nothing runs.
pub record Begins (b : Begun) (g : RuleGraph) (hash : Hash) (gone : List Path) (around : Around) : Type 0 where
  pub graph : b.graph ≡ g
  pub reading : IsReading g
  pub digests : b.hash ≡ hash
  pub tree : (path : Path) → b.tree path ≡ past gone around.tree path
  pub copied : (path : Path) → list_any (bytes_eq path) gone ≡ true → is_copied g path ≡ true
  pub idle : around.running ≡ []

-- It begins behind another one: the first so many rules of the graph are those that one had read, and copy rules stand behind them. What no
-- rule makes is as that one had found it, no file is looked past, and nothing runs.
pub record BeginsBehind (b : Begun) (g : RuleGraph) (declared : ℕ) (hash : Hash) (around : Around) : Type 0 where
  pub reading : IsReading b.graph
  pub grown : IsGrown b g
  pub count : declared ≡ length b.graph.rules
  pub digests : b.hash ≡ hash
  pub rest : (path : Path) → is_made g path ≡ false → around.tree path ≡ b.tree path
  pub idle : around.running ≡ []
