use Rattle.std.proofs.Common.{refl, sym}
use Rattle.py_tree.specs.Tree.{expr_tree}
use Rattle.py_parse.proofs.Steps.{continues_over}
use Rattle.py_parse.proofs.Puts.{more, item_stop, item_go, item_trail}
use Rattle.py_parse.proofs.lists.put_item.Goals as goal

pub returns-in_default-clause-goes : goal.returns-in_default-clause-goes
returns-in_default-clause-goes c =
    let e = more expr_tree _ _ _ _ c.in_ok-push.ensures.items refl in
    continues_over _ _ _ _ _ (λ d o r. item_stop _ _ _ _ e c.in_default.ensures r) c.close_list.ensures.goes

pub returns-then-sees-clause-goes : goal.returns-then-sees-clause-goes
returns-then-sees-clause-goes c = λ d o r.
    let e = more expr_tree _ _ _ _ c.in_ok-push.ensures.items refl in
    item_go _ _ _ _ e c.in-Some.ensures (sym c.if-sees.ensures) r

pub returns-clause-goes : goal.returns-clause-goes
returns-clause-goes c =
    let e = more expr_tree _ _ _ _ c.in_ok-push.ensures.items refl in
    continues_over _ _ _ _ _ (λ d o r. item_trail _ _ _ _ e c.in-Some.ensures (sym c.if-sees.ensures) r) c.close_list-2.ensures.goes
