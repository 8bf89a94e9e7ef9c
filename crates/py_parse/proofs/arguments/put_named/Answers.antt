use Rattle.py_tree.specs.Tree.{argument_tree}
use Rattle.py_tree.proofs.Views.{argument_tree-Named}
use Rattle.py_parse.proofs.Steps.{link_continues_over}
use Rattle.py_parse.proofs.Puts.{more, named_last, named_more}
use Rattle.py_parse.proofs.arguments.put_named.Goals as goal

pub returns-in_default-clause-goes : goal.returns-in_default-clause-goes
returns-in_default-clause-goes c =
    let e = more argument_tree _ _ _ _ c.in_ok-push.ensures.items (argument_tree-Named _ _ _) in
    link_continues_over _ _ _ _ _ (λ d o r. named_last _ _ _ _ _ _ _ e c.in_default.ensures r) c.close_call.ensures.goes

pub returns-clause-goes : goal.returns-clause-goes
returns-clause-goes c =
    let e = more argument_tree _ _ _ _ c.in_ok-push.ensures.items (argument_tree-Named _ _ _) in
    link_continues_over _ _ _ _ _ (λ d o r. named_more _ _ _ _ _ _ _ e c.in-Some.ensures r) c.next_named.ensures.goes
