use Rattle.py_tree.specs.Tree.{expr_tree}
use Rattle.std.proofs.Common.{refl}
use Rattle.py_parse.proofs.Steps.{continues_over}
use Rattle.py_parse.proofs.Puts.{more, test_more}
use Rattle.py_parse.proofs.lists.put_test.Goals as goal

pub returns-clause-goes : goal.returns-clause-goes
returns-clause-goes c =
    continues_over _ _ _ _ _ (λ d o r. test_more _ _ _ _ _ _ _ (more expr_tree _ _ _ _ c.in_ok-push.ensures.items refl) r) c.more_tests.ensures.goes
