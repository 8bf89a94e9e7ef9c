use Rattle.py_tree.specs.Tree.{pair_tree}
use Rattle.py_tree.proofs.Views.{pair_tree-Pair}
use Rattle.std.proofs.Common.{sym}
use Rattle.py_parse.proofs.Steps.{continues_over}
use Rattle.py_parse.proofs.Puts.{more, value_stop, value_go, value_trail}
use Rattle.py_parse.proofs.dicts.put_value.Goals as goal

pub returns-in_default-clause-goes : goal.returns-in_default-clause-goes
returns-in_default-clause-goes c =
    let e = more pair_tree _ _ _ _ c.in_ok-push.ensures.items (pair_tree-Pair _ _ _) in
    continues_over _ _ _ _ _ (λ d o r. value_stop _ _ _ _ _ _ e c.in_default.ensures r) c.close_dict.ensures.goes

pub returns-then-sees-clause-goes : goal.returns-then-sees-clause-goes
returns-then-sees-clause-goes c = λ d o r.
    let e = more pair_tree _ _ _ _ c.in_ok-push.ensures.items (pair_tree-Pair _ _ _) in
    value_go _ _ _ _ _ _ e c.in-Some.ensures (sym c.if-sees.ensures) r

pub returns-clause-goes : goal.returns-clause-goes
returns-clause-goes c =
    let e = more pair_tree _ _ _ _ c.in_ok-push.ensures.items (pair_tree-Pair _ _ _) in
    continues_over _ _ _ _ _ (λ d o r. value_trail _ _ _ _ _ _ e c.in-Some.ensures (sym c.if-sees.ensures) r) c.close_dict-2.ensures.goes
