use Rattle.std.proofs.Common.{ap}
use Rattle.py_tree.specs.Tree.{expr_tree}
use Rattle.py_parse.proofs.Steps.{link_continues_over}
use Rattle.py_parse.proofs.Puts.{upper_given}
use Rattle.py_parse.proofs.subscripts.put_upper.Goals as goal

pub returns-clause-goes : goal.returns-clause-goes
returns-clause-goes c = link_continues_over _ _ _ _ _ (λ d o r. upper_given _ _ _ _ (ap expr_tree c.in_ok-upper.ensures.ok) r) c.close_slice.ensures.goes
