use Rattle.py_tree.specs.Tree.{expr_tree}
use Rattle.std.proofs.Common.{ap}
use Rattle.py_parse.proofs.Steps.{continues_over}
use Rattle.py_parse.proofs.Puts.{none, tests_none_yet}
use Rattle.py_parse.proofs.lists.put_source.Goals as goal

pub returns-clause-goes : goal.returns-clause-goes
returns-clause-goes c =
    continues_over _ _ _ _ _ (λ d o r. tests_none_yet _ _ _ _ _ _ (none expr_tree _ c.new-2.ensures.items) (ap expr_tree c.in_ok-source.ensures.ok) r) c.more_tests.ensures.goes
