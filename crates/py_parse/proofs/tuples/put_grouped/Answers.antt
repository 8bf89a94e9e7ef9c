use Rattle.std.proofs.Common.{refl, sym}
use Rattle.py_tree.specs.Tree.{expr_tree}
use Rattle.py_tree.proofs.Views.{expr_tree-Tuple}
use Rattle.py_parse.proofs.Steps.{continues_over, exprs_stop}
use Rattle.py_parse.proofs.Puts.{first, grouped_go, grouped_trail}
use Rattle.py_parse.proofs.tuples.put_grouped.Goals as goal

pub returns-in_default-clause-goes : goal.returns-in_default-clause-goes
returns-in_default-clause-goes c = continues_over _ _ _ _ _ (λ d o r. exprs_stop _ _ c.in_default.ensures r) c.close_group.ensures.goes

pub returns-then-sees-clause-goes : goal.returns-then-sees-clause-goes
returns-then-sees-clause-goes c = λ d o r.
    let e = first expr_tree _ _ _ c.new-items.ensures.items c.in_ok-push.ensures.items in
    grouped_go _ _ _ e c.in-Some.ensures (sym c.if-sees.ensures) r

pub returns-clause-goes : goal.returns-clause-goes
returns-clause-goes c =
    let e = first expr_tree _ _ _ c.new-items.ensures.items c.in_ok-push.ensures.items in
    continues_over _ _ _ _ _ (λ d o r. grouped_trail _ _ _ (rw (expr_tree-Tuple, e) refl) c.in-Some.ensures (sym c.if-sees.ensures) r) c.close_group-2.ensures.goes
