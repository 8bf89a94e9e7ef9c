use Rattle.std.proofs.Common.{sym, ap, ◌∙◌, map}
use Rattle.py_tree.specs.Tree.{trees, line_tree, branch_tree}
use Rattle.py_meaning.specs.LocalNames.{bound_names}
use Rattle.py_state.proofs.Forms.{branch_parts}
use Rattle.py_state.proofs.LocalTurns.{bound_turn}
use Rattle.py_state.proofs.locals.+local_names.Goals as goal

pub add_branches-branches-preserved : goal.add_branches-branches-preserved
add_branches-branches-preserved t c =
    let names = c.branches.names.keys in
    let new = c.in_ok-add_lines.ensures ∙ ap (λ lines. bound_names names (trees (map line_tree lines))) c.as_slice.ensures.value
    ∙ ap (bound_names names) (sym (branch_parts c.branch-item.result)) in
    bound_turn branch_tree c.args.branches.now c.branches.branch-index c.branch-item.result names c.add_lines.new.names.keys (bound_names c.args.names.now.keys (trees (map branch_tree c.args.branches.now)))
    c.branches-test.true c.branch-item.is c.branches.invariant new
