use Rattle.std.proofs.Common.{◌∷◌, ◌++◌}
use Rattle.build_model.specs.Contents.{in_tree}
use Rattle.build_model.specs.Steps.{Began, settled}
use Rattle.build_model.proofs.Ready.{tree_agrees}
use Rattle.build_model.proofs.Runs.{needs_before}
use Rattle.build_model.proofs.laws.settled_before_start.Goals as goal

pub returns : goal.returns
returns c = λ s b later past r q run needs. needs_before s b (in_tree b.after) later past r q (tree_agrees s b (settled (later ++ Began r ∷ past))) run needs
