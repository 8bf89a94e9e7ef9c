use Rattle.std.proofs.Common.{ap, ◌∙◌}
use Rattle.py_tree.specs.Tree.{expr_tree}
use Rattle.py_parse.proofs.Cases.{takes_at, given_at}
use Rattle.py_parse.specs.Reading.{r_refused}
use Rattle.py_parse.proofs.atoms.take_leaf.Goals as goal

pub returns-in_default : goal.returns-in_default
returns-in_default c = λ d. r_refused c.in_default.ensures

pub returns : goal.returns
returns c = λ d. takes_at _ c.in-Some.ensures (given_at (ap expr_tree c.in_ok-leaf.ensures.ok ∙ c.in_ok-leaf_of.ensures))
