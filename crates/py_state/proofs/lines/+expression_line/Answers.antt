use Rattle.std.proofs.Common.{sym, ◌∙◌}
use Rattle.py_tree.proofs.Views.{expr_tree-Tuple}
use Rattle.py_state.proofs.Forms.{line_of_none, line_of_first}
use Rattle.py_state.proofs.lines.+expression_line.Goals as goal

pub returns-in-empty : goal.returns-in-empty
returns-in-empty t c =
    rw (c.in-Tuple.is, expr_tree-Tuple c.in-Tuple.line c.in-Tuple.items c.in-Tuple.trailing_comma)
    (sym (line_of_none c.in-Tuple.line c.in-Tuple.items.items c.in-Tuple.trailing_comma (rw c.as_slice.ensures.value at c.in-empty.len_below)))

pub returns-in-len1-up : goal.returns-in-len1-up
returns-in-len1-up t c =
    rw (c.in-Tuple.is, expr_tree-Tuple c.in-Tuple.line c.in-Tuple.items c.in-Tuple.trailing_comma)
    (c.expression_line.ensures ∙ sym (line_of_first c.in-Tuple.line c.in-Tuple.items.items c.in-Tuple.trailing_comma c.first-item.result (rw c.as_slice.ensures.value at c.in-len1-up.len_at_least) (rw c.as_slice.ensures.value at c.first-item.is)))
