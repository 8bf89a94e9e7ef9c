-- What each form of a tree stands for, at hand for the search.
use Rattle.py_tree.proofs.Views.{expr_tree-Name, expr_tree-Integer, expr_tree-Text, expr_tree-Constant, expr_tree-Group, expr_tree-Tuple, expr_tree-List, expr_tree-Comprehension, expr_tree-Dict, expr_tree-Post, expr_tree-Negative, expr_tree-Not, expr_tree-Chain, expr_tree-Compare, expr_tree-Choice, expr_tree-Joined, link_tree-Attribute, link_tree-Call, link_tree-Index, link_tree-Slice, argument_tree-Positional, argument_tree-Named, operation_tree-Operation, pair_tree-Pair, branch_tree-Branch, line_tree-Simple, line_tree-If, line_tree-For, line_tree-While, line_tree-Def}

pub ruleset views = (expr_tree-Name, expr_tree-Integer, expr_tree-Text, expr_tree-Constant, expr_tree-Group, expr_tree-Tuple, expr_tree-List, expr_tree-Comprehension, expr_tree-Dict, expr_tree-Post, expr_tree-Negative, expr_tree-Not, expr_tree-Chain, expr_tree-Compare, expr_tree-Choice, expr_tree-Joined, link_tree-Attribute, link_tree-Call, link_tree-Index, link_tree-Slice, argument_tree-Positional, argument_tree-Named, operation_tree-Operation, pair_tree-Pair, branch_tree-Branch, line_tree-Simple, line_tree-If, line_tree-For, line_tree-While, line_tree-Def)
