use Rattle.std.proofs.Common.{◌∙◌}
use Rattle.py_tree.specs.Tree.{expr_tree}
use Rattle.py_tree.proofs.Views.{expr_tree-Tuple}
use Rattle.py_parse.proofs.Cases.{stopped_by, by_production, no_takes, yes_gives, last_production}
use Rattle.py_parse.specs.Reading.{r_part_fault}
use Rattle.py_parse.specs.Grammar.{exprs, exprs_rest}
use Rattle.py_parse.proofs.Puts.{first}
use Rattle.py_parse.proofs.Items.{tuple_at, tuple_end, exprs_one, exprs_several, exprs_tuple}
use Rattle.py_parse.proofs.expression_list.parse_exprs.Goals as goal

pub returns-in_err-first : goal.returns-in_err-first
returns-in_err-first c = stopped_by _ _ _ _ _ c.from_residual.ensures.1 (λ w r h. by_production exprs (last_production _ (r_part_fault h))) c.in_err-first.ensures

pub returns-in_default : goal.returns-in_default
returns-in_default c = exprs_one c.in_ok-first.ensures (by_production (exprs_rest _) (no_takes _ _ _ _ c.in_default.ensures (yes_gives _ _)))

pub returns-in_err-items : goal.returns-in_err-items
returns-in_err-items c =
    let e = first expr_tree _ _ _ c.new-items.ensures.items c.in_ok-push.ensures.items in
    stopped_by _ _ _ _ _ c.from_residual-in_err-items.ensures.1
    (λ w r h. exprs_several _ e c.in_ok-first.ensures c.in-Some.ensures h) (c.in_err-items.ensures (tuple_at c.in-Some.comma.now.line))

pub returns : goal.returns
returns c =
    let e = first expr_tree _ _ _ c.new-items.ensures.items c.in_ok-push.ensures.items in
    exprs_tuple _ _ _ _ (expr_tree-Tuple _ _ _ ∙ tuple_end _ _ _) (exprs_several _ e c.in_ok-first.ensures c.in-Some.ensures (c.in_ok-items.ensures (tuple_at c.in-Some.comma.now.line)))
