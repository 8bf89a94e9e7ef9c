-- Of each part: how it begins, and what may follow it. The tables are generated from the list of productions.
use Rattle.std.proofs.Common.{ℕ, List, [], ◌∷◌, ◌++◌, refl}
use Rattle.py_token.specs.declared.token.Token.{Token}
use Rattle.py_tree.specs.Tree.{Tree}
use Rattle.py_parse.specs.declared.level.Level.TheVariants as level'
use Rattle.py_parse.specs.Terminals.{Want}
use Rattle.py_parse.specs.Grammar as g
use Rattle.py_parse.specs.Grammar.{Part, Body, productions, gives, reads}
use Rattle.py_parse.specs.Parses.{Among, here, there, Spells}
use Rattle.py_parse.proofs.Follow.{s_script}
use Rattle.py_parse.proofs.Complete.{Fine, Ordered, stops, complete}
use Rattle.py_parse.specs.Reading.{Reads, ok}
use Rattle.py_parse.proofs.First.{followed_end}
use Rattle.py_parse.proofs.Endings.{AllFine, fine_script, fine_line, fine_branches, fine_block, fine_more_lines, fine_statements, fine_statements_rest, fine_statements_more, fine_small, fine_returned, fine_assigned, fine_parameters, fine_params, fine_param_rest, fine_defaults, fine_defaults_rest, fine_exprs, fine_exprs_rest, fine_items, fine_items_rest, fine_negation, fine_comparison, fine_compared, fine_is_right, fine_constants, fine_unary, fine_posted, fine_links, fine_one_link, fine_call_body, fine_atom, fine_grouped, fine_listed, fine_listed_rest, fine_names, fine_names_rest, fine_tests, fine_dict_body, fine_one_pair, fine_pairs, fine_pairs_rest, fine_subscript, fine_subscript_rest, fine_upper, fine_args, fine_args_rest, fine_named_args, fine_named_rest, fine_chain_Or, fine_expr, fine_choice_rest, fine_choice_body, fine_text_rest, fine_some_pieces, fine_more_pieces, fine_parts, fine_field_body, fine_op_Or, fine_chain_And, fine_op_And, fine_chain_Sum, fine_op_Sum, fine_chain_Product, fine_op_Product}
use Rattle.py_parse.proofs.Orders.{ordered_script, ordered_line, ordered_branches, ordered_block, ordered_more_lines, ordered_statements, ordered_statements_rest, ordered_statements_more, ordered_small, ordered_returned, ordered_assigned, ordered_parameters, ordered_params, ordered_param_rest, ordered_defaults, ordered_defaults_rest, ordered_exprs, ordered_exprs_rest, ordered_items, ordered_items_rest, ordered_negation, ordered_comparison, ordered_compared, ordered_is_right, ordered_constants, ordered_unary, ordered_posted, ordered_links, ordered_one_link, ordered_call_body, ordered_atom, ordered_grouped, ordered_listed, ordered_listed_rest, ordered_names, ordered_names_rest, ordered_tests, ordered_dict_body, ordered_one_pair, ordered_pairs, ordered_pairs_rest, ordered_subscript, ordered_subscript_rest, ordered_upper, ordered_args, ordered_args_rest, ordered_named_args, ordered_named_rest, ordered_op_Or, ordered_op_And, ordered_op_Sum, ordered_op_Product, ordered_expr, ordered_choice_rest, ordered_choice_body, ordered_text_rest, ordered_some_pieces, ordered_more_pieces, ordered_parts, ordered_field_body}

all_fine : (p : Part) → AllFine (stops p) (productions p)
all_fine g.script = fine_script
all_fine (g.line a) = fine_line a
all_fine (g.branches a) = fine_branches a
all_fine (g.block a) = fine_block a
all_fine (g.more_lines a) = fine_more_lines a
all_fine (g.statements a) = fine_statements a
all_fine (g.statements_rest a) = fine_statements_rest a
all_fine (g.statements_more a) = fine_statements_more a
all_fine (g.small a) = fine_small a
all_fine g.returned = fine_returned
all_fine (g.assigned a) = fine_assigned a
all_fine g.parameters = fine_parameters
all_fine (g.params a) = fine_params a
all_fine (g.param_rest a b c) = fine_param_rest a b c
all_fine (g.defaults a) = fine_defaults a
all_fine (g.defaults_rest a) = fine_defaults_rest a
all_fine g.exprs = fine_exprs
all_fine (g.exprs_rest a) = fine_exprs_rest a
all_fine g.items = fine_items
all_fine g.items_rest = fine_items_rest
all_fine g.expr = fine_expr
all_fine (g.choice_rest a) = fine_choice_rest a
all_fine (g.choice_body a b) = fine_choice_body a b
all_fine (g.text_rest a b) = fine_text_rest a b
all_fine g.some_pieces = fine_some_pieces
all_fine g.more_pieces = fine_more_pieces
all_fine g.parts = fine_parts
all_fine (g.field_body a) = fine_field_body a
all_fine (g.chained level'.Or) = fine_chain_Or
all_fine (g.chained level'.And) = fine_chain_And
all_fine (g.chained level'.Sum) = fine_chain_Sum
all_fine (g.chained level'.Product) = fine_chain_Product
all_fine (g.operations level'.Or) = fine_op_Or
all_fine (g.operations level'.And) = fine_op_And
all_fine (g.operations level'.Sum) = fine_op_Sum
all_fine (g.operations level'.Product) = fine_op_Product
all_fine g.negation = fine_negation
all_fine g.comparison = fine_comparison
all_fine (g.compared a) = fine_compared a
all_fine (g.is_right a b) = fine_is_right a b
all_fine g.constants = fine_constants
all_fine g.unary = fine_unary
all_fine g.posted = fine_posted
all_fine g.links = fine_links
all_fine g.one_link = fine_one_link
all_fine (g.call_body a) = fine_call_body a
all_fine g.atom = fine_atom
all_fine (g.grouped a) = fine_grouped a
all_fine (g.listed a) = fine_listed a
all_fine (g.listed_rest a b) = fine_listed_rest a b
all_fine g.names = fine_names
all_fine g.names_rest = fine_names_rest
all_fine g.tests = fine_tests
all_fine (g.dict_body a) = fine_dict_body a
all_fine g.one_pair = fine_one_pair
all_fine g.pairs = fine_pairs
all_fine g.pairs_rest = fine_pairs_rest
all_fine (g.subscript a) = fine_subscript a
all_fine (g.subscript_rest a b) = fine_subscript_rest a b
all_fine g.upper = fine_upper
all_fine g.args = fine_args
all_fine (g.args_rest a) = fine_args_rest a
all_fine (g.named_args a) = fine_named_args a
all_fine (g.named_rest a) = fine_named_rest a

among_fine : (ss : List Want) (bs : List Body) (b : Body) → Among b bs → AllFine ss bs → Fine ss b
among_fine ss [] b a f = elim a [ ]
among_fine ss (c ∷ bs) b here f = f.0
among_fine ss (c ∷ bs) b (there a) f = among_fine ss bs b a f.1

all_ordered : (p : Part) → Ordered (stops p) (productions p)
all_ordered g.script = ordered_script
all_ordered (g.line a) = ordered_line a
all_ordered (g.branches a) = ordered_branches a
all_ordered (g.block a) = ordered_block a
all_ordered (g.more_lines a) = ordered_more_lines a
all_ordered (g.statements a) = ordered_statements a
all_ordered (g.statements_rest a) = ordered_statements_rest a
all_ordered (g.statements_more a) = ordered_statements_more a
all_ordered (g.small a) = ordered_small a
all_ordered g.returned = ordered_returned
all_ordered (g.assigned a) = ordered_assigned a
all_ordered g.parameters = ordered_parameters
all_ordered (g.params a) = ordered_params a
all_ordered (g.param_rest a b c) = ordered_param_rest a b c
all_ordered (g.defaults a) = ordered_defaults a
all_ordered (g.defaults_rest a) = ordered_defaults_rest a
all_ordered g.exprs = ordered_exprs
all_ordered (g.exprs_rest a) = ordered_exprs_rest a
all_ordered g.items = ordered_items
all_ordered g.items_rest = ordered_items_rest
all_ordered g.expr = ordered_expr
all_ordered (g.choice_rest a) = ordered_choice_rest a
all_ordered (g.choice_body a b) = ordered_choice_body a b
all_ordered (g.text_rest a b) = ordered_text_rest a b
all_ordered g.some_pieces = ordered_some_pieces
all_ordered g.more_pieces = ordered_more_pieces
all_ordered g.parts = ordered_parts
all_ordered (g.field_body a) = ordered_field_body a
all_ordered (g.chained level'.Or) = tt
all_ordered (g.chained level'.And) = tt
all_ordered (g.chained level'.Sum) = tt
all_ordered (g.chained level'.Product) = tt
all_ordered (g.operations level'.Or) = ordered_op_Or
all_ordered (g.operations level'.And) = ordered_op_And
all_ordered (g.operations level'.Sum) = ordered_op_Sum
all_ordered (g.operations level'.Product) = ordered_op_Product
all_ordered g.negation = ordered_negation
all_ordered g.comparison = ordered_comparison
all_ordered (g.compared a) = ordered_compared a
all_ordered (g.is_right a b) = ordered_is_right a b
all_ordered g.constants = ordered_constants
all_ordered g.unary = ordered_unary
all_ordered g.posted = ordered_posted
all_ordered g.links = ordered_links
all_ordered g.one_link = ordered_one_link
all_ordered (g.call_body a) = ordered_call_body a
all_ordered g.atom = ordered_atom
all_ordered (g.grouped a) = ordered_grouped a
all_ordered (g.listed a) = ordered_listed a
all_ordered (g.listed_rest a b) = ordered_listed_rest a b
all_ordered g.names = ordered_names
all_ordered g.names_rest = ordered_names_rest
all_ordered g.tests = ordered_tests
all_ordered (g.dict_body a) = ordered_dict_body a
all_ordered g.one_pair = ordered_one_pair
all_ordered g.pairs = ordered_pairs
all_ordered g.pairs_rest = ordered_pairs_rest
all_ordered (g.subscript a) = ordered_subscript a
all_ordered (g.subscript_rest a b) = ordered_subscript_rest a b
all_ordered g.upper = ordered_upper
all_ordered g.args = ordered_args
all_ordered (g.args_rest a) = ordered_args_rest a
all_ordered (g.named_args a) = ordered_named_args a
all_ordered (g.named_rest a) = ordered_named_rest a

-- what is in the grammar is read
pub complete_script : (d : ℕ) (ts : List Token) (t : Tree) → Spells d (reads g.script gives) ts t → Reads d (reads g.script gives) (ts ++ []) (ok t [])
complete_script d ts t s =
    complete (λ p b a. among_fine (stops p) (productions p) b a (all_fine p)) all_ordered s s_script
    (λ u. (followed_end s_script u s_script (λ k h. h), tt)) [] refl
