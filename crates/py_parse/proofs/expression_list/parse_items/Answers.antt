use Rattle.std.proofs.Common.{refl, arith, ◌∙◌, sym}
use Rattle.py_tree.specs.Tree.{expr_tree}
use Rattle.py_parse.proofs.Cases.{stopped_by, taken_shorter}
use Rattle.py_parse.proofs.Loops.{read_shorter}
use Rattle.py_parse.proofs.Puts.{more}
use Rattle.py_parse.proofs.Items.{items_one_more, items_last, items_fault, items_over}
use Rattle.py_parse.proofs.expression_list.parse_items.Goals as goal

pub returns-in_err-item : goal.returns-in_err-item
returns-in_err-item c = λ f.
    stopped_by _ _ _ _ _ c.from_residual.ensures.1
    (λ w r h. c.items.invariant f _ (items_fault f _ (sym c.sees.ensures ∙ c.items-test.true) h)) c.in_err-item.ensures

pub returns-in_default : goal.returns-in_default
returns-in_default c = λ f.
    let e = more expr_tree _ _ _ _ c.in_ok-push.ensures.items refl in
    c.items.invariant f _ (items_last f _ _ _ e (sym c.sees.ensures ∙ c.items-test.true) c.in_ok-item.ensures c.in_default.ensures)

pub items-smaller : goal.items-smaller
items-smaller c =
    let h = read_shorter c.in_ok-item.ensures in
    let i = taken_shorter c.in-Some.ensures in
    omega (arith, h, i)

pub items-preserved : goal.items-preserved
items-preserved c = λ f o r.
    let e = more expr_tree _ _ _ _ c.in_ok-push.ensures.items refl in
    c.items.invariant f o (items_one_more f _ _ _ e (sym c.sees.ensures ∙ c.items-test.true) c.in_ok-item.ensures c.in-Some.ensures r)

pub returns : goal.returns
returns c = λ f. c.items.invariant f _ (items_over f _ (sym c.sees.ensures ∙ c.items-test.false))
