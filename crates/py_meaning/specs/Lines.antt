-- The line on which a statement or an expression begins: that of its first token.
use Rattle.std.specs.Prelude.{ℕ}
use Rattle.py_tree.specs.Tree.{Tree, nil, cons, absent, word, name, integer, text, constant, group, tuple, list}
use Rattle.py_tree.specs.Tree.{comprehension, dict, pair, post, attribute, call, named, index, slice, negative, not}
use Rattle.py_tree.specs.Tree.{chain, operation, compare, assign, augment, expression, pass, break, continue, return}
use Rattle.py_tree.specs.Tree.{imports, simple, branching, branch, for', while', def, parameter, choice, joined}

abbrev pub first_line : Tree → ℕ
first_line (name l n) = l
first_line (integer l n) = l
first_line (text l t) = l
first_line (constant l k) = l
first_line (group l t) = l
first_line (tuple l nil b) = l
first_line (tuple l (cons t ts) b) = first_line t
first_line (list l ts) = l
first_line (comprehension l t ns s ts) = l
first_line (dict l ps) = l
first_line (post a ls) = first_line a
first_line (negative l t) = l
first_line (not l t) = l
first_line (chain t os) = first_line t
first_line (compare l k t u) = first_line t
first_line (choice l t c u) = first_line t
first_line (joined l ps) = l
first_line (assign l t e) = first_line t
first_line (augment l k t e) = first_line t
first_line (expression e) = first_line e
first_line (pass l) = l
first_line (break l) = l
first_line (continue l) = l
first_line (return l e) = l
first_line (imports l) = l
first_line (branching (cons b bs) ls) = first_line b
first_line (branch l t ls) = l
first_line (for' l ns e ls) = l
first_line (while' l t ls) = l
first_line (def l n ps ls) = l
first_line other = 0
