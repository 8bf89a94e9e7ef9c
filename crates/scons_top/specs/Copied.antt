-- Whether a path is copied into a variant directory.
use Rattle.std.specs.Prelude.{◌≡◌, ℕ, Bool, List, IfOk, Result, is_some, length}
use Rattle.world_api.specs.Meaning.{Meaning}
use Rattle.rule_graph.specs.Graphs.{RuleGraph}
use Rattle.build_files.specs.Leftovers.{copied_from}

-- a test says whether the path is copied, by the files of a world that tells
abbrev pub TellsCopied : {W E : Type 0} → Meaning W → RuleGraph → List ℕ → W → Result Bool E → Type 0
TellsCopied m g path world result = m.tells world → IfOk result (λ is. is ≡ is_some (copied_from g (length g.rules) (m.around world) path))
