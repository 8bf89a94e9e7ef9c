use Rattle.py_tree.specs.Tree.{argument_tree}
use Rattle.py_tree.proofs.Views.{argument_tree-Positional}
use Rattle.std.proofs.Common.{sym}
use Rattle.py_parse.proofs.Steps.{link_continues_over}
use Rattle.py_parse.proofs.Puts.{more, arg_stop, arg_go, arg_trail}
use Rattle.py_parse.proofs.arguments.put_positional.Goals as goal

pub returns-in_default-clause-goes : goal.returns-in_default-clause-goes
returns-in_default-clause-goes c =
    let e = more argument_tree _ _ _ _ c.in_ok-push.ensures.items (argument_tree-Positional _) in
    link_continues_over _ _ _ _ _ (λ d o r. arg_stop _ _ _ _ e c.requires c.in_default.ensures r) c.close_call.ensures.goes

pub returns-then-sees-clause-goes : goal.returns-then-sees-clause-goes
returns-then-sees-clause-goes c = λ d o r.
    let e = more argument_tree _ _ _ _ c.in_ok-push.ensures.items (argument_tree-Positional _) in
    arg_go _ _ _ _ e c.requires c.in-Some.ensures (sym c.if-sees.ensures) r

pub returns-clause-goes : goal.returns-clause-goes
returns-clause-goes c =
    let e = more argument_tree _ _ _ _ c.in_ok-push.ensures.items (argument_tree-Positional _) in
    link_continues_over _ _ _ _ _ (λ d o r. arg_trail _ _ _ _ e c.requires c.in-Some.ensures (sym c.if-sees.ensures) r) c.close_call-2.ensures.goes
