-- What is found of a path where nothing stands.
use Rattle.std.specs.Prelude.{◌≡◌, ℕ, true, false, List, Result}
use Rattle.rule_graph.specs.Graphs.{RuleGraph}
use Rattle.scons_top.specs.Below.{has_below, KnowsTargets}
use Rattle.scons_top.specs.Finding.{FoundOrUnknown}
use Rattle.scons_top.specs.declared.below.Below.{Below}
use Rattle.scons_top.specs.declared.stop.Stop.{Stop}

-- it is found just where a declared target lies below it, where those that were looked up are the graph's
abbrev pub FindsBelow : {T : Type 0} → RuleGraph → List ℕ → Below → Result T Stop → Type 0
FindsBelow g path below result = KnowsTargets g below → FoundOrUnknown (has_below g path ≡ true) (has_below g path ≡ false) result
