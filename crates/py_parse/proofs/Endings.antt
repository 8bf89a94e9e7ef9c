-- Of each part: what may follow it. Generated from the productions.
use Rattle.std.proofs.Common.{◌≡◌, ℕ, List, [], ◌∷◌, Bool, true, false, refl}
use Rattle.py_token.specs.declared.keyword.Keyword.TheVariants as keyword'
use Rattle.py_token.specs.declared.mark.Mark.TheVariants as mark'
use Rattle.py_token.specs.declared.token.TokenKind.{TokenKind}
use Rattle.py_tree.specs.Tree as tree
use Rattle.py_tree.specs.Tree.{Tree}
use Rattle.py_parse.specs.declared.level.Level.TheVariants as level'
use Rattle.py_parse.specs.declared.terminal.Terminal.TheVariants as terminal'
use Rattle.py_parse.specs.Terminals.{Want, one}
use Rattle.py_parse.specs.Grammar as g
use Rattle.py_parse.specs.Grammar.{Body, productions, gives, takes, opens, reads, when, first_named}
use Rattle.py_parse.proofs.Follow.{s_free, s_pieces, s_atom, s_product, s_sum, s_cmp, s_and, s_plain, s_expr, s_items, s_args, s_names, s_tests, s_upper, s_small, s_line, s_script, f_line}
use Rattle.py_parse.proofs.Complete.{Fine, stops}
use Rattle.py_token.specs.declared.mark.Mark.{Mark}
use Rattle.py_token.specs.declared.token.TokenKind.TheVariants as kind'
use Rattle.py_parse.specs.declared.site.Site.{Site}
use Rattle.py_parse.proofs.First.{wanted, first_takes, first_part, followed_first, followed_end, followed_maybe}
use Rattle.py_parse.proofs.Wants.{apart_6, less_7, less_8, less_9, apart_10, apart_11, apart_12, apart_13, apart_14, less_15, less_16, apart_17, apart_18, apart_19, less_20, less_21, less_22, apart_23, less_24, apart_25, less_26, less_27, less_28, apart_29, less_30, less_31, less_32, apart_33, less_34, apart_35, apart_36, apart_37, apart_38, apart_39, apart_40, less_41, less_42, less_43, apart_44, less_45, apart_46, apart_47, less_48, apart_49, apart_50, less_51, apart_52, less_53, apart_54, less_55, apart_56, less_57, if_after_plain, expr_plain, plain_plain, else_after_plain, brace_after_expr, pieces_pieces, links_after_pieces, atom_pieces, pieces_free, parts_after_free}
use Rattle.py_parse.proofs.Beginnings.{maybe_links, maybe_compared, maybe_exprs_rest, maybe_items_rest, maybe_pairs_rest, maybe_args_rest, maybe_assigned, maybe_tests, maybe_branches, maybe_script, maybe_named_rest, maybe_defaults_rest, all_listed_rest, all_subscript_rest, all_statements_rest, all_more_lines, maybe_op_Or, maybe_op_And, maybe_op_Sum, maybe_op_Product, maybe_choice_rest, all_some_pieces, maybe_more_pieces, maybe_text_rest, all_parts}

abbrev pub AllFine : List Want → List Body → Type 0
AllFine ss [] = Unit {0}
AllFine ss (b ∷ bs) = Fine ss b × AllFine ss bs

fine_when : (ss : List Want) (v : Bool) (b : Body) (bs : List Body) → Fine ss b → AllFine ss bs → AllFine ss (when v b bs)
fine_when ss true b bs h hs = (h, hs)
fine_when ss false b bs h hs = hs

display_mark : (l : ℕ) (m : Mark) → stops (g.mark_display l m) ≡ s_free
display_mark l mark'.OpenParen = refl
display_mark l mark'.OpenBracket = refl
display_mark l _ = refl

display_free : (l : ℕ) (k : TokenKind) → stops (g.display_at l k) ≡ s_free
display_free l (kind'.Mark m) = display_mark l m
display_free l _ = refl

fine_named : (t : Tree) (bs : List Body) → AllFine s_args bs → AllFine s_args (first_named t bs)
fine_named (tree.name l n) bs hs = ((λ x. (λ u. (followed_maybe s_args _ _ ((g.mark mark'.Comma) ∷ []) s_expr (maybe_named_rest _) apart_25 (λ u. followed_end s_args _ s_expr less_26), (λ u. (followed_end s_args _ s_args less_24, tt))))), hs)
fine_named _ bs hs = hs

pub fine_script : AllFine s_script (productions g.script)
fine_script = ((λ u. (followed_maybe s_script _ _ f_line s_line maybe_script apart_6 (λ u. followed_end s_script _ s_line less_7), (λ u. (followed_end s_script _ s_script less_8, tt)))), (tt, tt))

pub fine_line : (a : Site) → AllFine s_line (productions (g.line a))
fine_line a = ((λ x. (λ u. (followed_first s_line _ ((g.mark mark'.Colon) ∷ []) s_expr (first_takes (g.mark mark'.Colon) _ ((g.mark mark'.Colon) ∷ []) wanted) apart_13, (λ x. (λ u. (followed_maybe s_line _ _ ((g.keyword keyword'.Elif) ∷ (g.keyword keyword'.Else) ∷ []) s_free (maybe_branches a) apart_14 (λ u. followed_end s_line _ s_free less_9), (λ u. (followed_end s_line _ s_line less_15, tt)))))))), ((λ x. (λ u. (followed_first s_line _ ((g.keyword keyword'.In) ∷ []) s_names (first_takes (g.keyword keyword'.In) _ ((g.keyword keyword'.In) ∷ []) wanted) apart_11, (λ x. (λ u. (followed_first s_line _ ((g.mark mark'.Colon) ∷ []) s_items (first_takes (g.mark mark'.Colon) _ ((g.mark mark'.Colon) ∷ []) wanted) apart_12, (λ x. (λ u. (followed_end s_line _ s_free less_9, tt))))))))), ((λ x. (λ u. (followed_first s_line _ ((g.mark mark'.Colon) ∷ []) s_expr (first_takes (g.mark mark'.Colon) _ ((g.mark mark'.Colon) ∷ []) wanted) apart_13, (λ x. (λ u. (followed_end s_line _ s_free less_9, tt)))))), (fine_when s_line a.outermost (opens (g.keyword keyword'.Def) (λ x. g.function_body x.line)) (reads (g.statements a) (λ t. gives (tree.simple t)) ∷ []) ((λ x. (λ x. (λ x. (λ u. (followed_first s_line _ ((g.mark mark'.Colon) ∷ []) s_free (first_takes (g.mark mark'.Colon) _ ((g.mark mark'.Colon) ∷ []) wanted) apart_10, (λ x. (λ u. (followed_end s_line _ s_free less_9, tt))))))))) ((λ u. (followed_end s_line _ s_free less_9, tt)), tt)))))

pub fine_branches : (a : Site) → AllFine s_line (productions (g.branches a))
fine_branches a = ((λ x. (λ u. (followed_first s_line _ ((g.mark mark'.Colon) ∷ []) s_expr (first_takes (g.mark mark'.Colon) _ ((g.mark mark'.Colon) ∷ []) wanted) apart_13, (λ x. (λ u. (followed_maybe s_line _ _ ((g.keyword keyword'.Elif) ∷ (g.keyword keyword'.Else) ∷ []) s_free (maybe_branches a) apart_14 (λ u. followed_end s_line _ s_free less_9), (λ u. (followed_end s_line _ s_line less_15, tt)))))))), ((λ x. (λ x. (λ u. (followed_end s_line _ s_free less_9, tt)))), (tt, tt)))

pub fine_block : (a : Site) → AllFine s_free (productions (g.block a))
fine_block a = ((λ x. (λ x. (λ u. (followed_first s_free _ ((one terminal'.Dedent) ∷ (g.keyword keyword'.If) ∷ (g.keyword keyword'.For) ∷ (g.keyword keyword'.While) ∷ (g.keyword keyword'.Def) ∷ (g.keyword keyword'.Pass) ∷ (g.keyword keyword'.From) ∷ (g.keyword keyword'.Break) ∷ (g.keyword keyword'.Continue) ∷ (g.keyword keyword'.Return) ∷ (g.keyword keyword'.Not) ∷ (g.mark mark'.Minus) ∷ (one terminal'.Bracket) ∷ (one terminal'.Text) ∷ (one terminal'.FStart) ∷ (one terminal'.Leaf) ∷ []) s_line (first_part _ _ ((one terminal'.Dedent) ∷ (g.keyword keyword'.If) ∷ (g.keyword keyword'.For) ∷ (g.keyword keyword'.While) ∷ (g.keyword keyword'.Def) ∷ (g.keyword keyword'.Pass) ∷ (g.keyword keyword'.From) ∷ (g.keyword keyword'.Break) ∷ (g.keyword keyword'.Continue) ∷ (g.keyword keyword'.Return) ∷ (g.keyword keyword'.Not) ∷ (g.mark mark'.Minus) ∷ (one terminal'.Bracket) ∷ (one terminal'.Text) ∷ (one terminal'.FStart) ∷ (one terminal'.Leaf) ∷ []) ((one terminal'.Dedent) ∷ (g.keyword keyword'.If) ∷ (g.keyword keyword'.For) ∷ (g.keyword keyword'.While) ∷ (g.keyword keyword'.Def) ∷ (g.keyword keyword'.Pass) ∷ (g.keyword keyword'.From) ∷ (g.keyword keyword'.Break) ∷ (g.keyword keyword'.Continue) ∷ (g.keyword keyword'.Return) ∷ (g.keyword keyword'.Not) ∷ (g.mark mark'.Minus) ∷ (one terminal'.Bracket) ∷ (one terminal'.Text) ∷ (one terminal'.FStart) ∷ (one terminal'.Leaf) ∷ []) (all_more_lines a) (λ k h. h)) apart_17, (λ u. (followed_end s_free _ s_free less_16, tt)))))), ((λ u. (followed_end s_free _ s_free less_16, tt)), tt))

pub fine_more_lines : (a : Site) → AllFine s_free (productions (g.more_lines a))
fine_more_lines a = ((λ x. tt), ((λ u. (followed_first s_free _ ((one terminal'.Dedent) ∷ (g.keyword keyword'.If) ∷ (g.keyword keyword'.For) ∷ (g.keyword keyword'.While) ∷ (g.keyword keyword'.Def) ∷ (g.keyword keyword'.Pass) ∷ (g.keyword keyword'.From) ∷ (g.keyword keyword'.Break) ∷ (g.keyword keyword'.Continue) ∷ (g.keyword keyword'.Return) ∷ (g.keyword keyword'.Not) ∷ (g.mark mark'.Minus) ∷ (one terminal'.Bracket) ∷ (one terminal'.Text) ∷ (one terminal'.FStart) ∷ (one terminal'.Leaf) ∷ []) s_line (first_part _ _ ((one terminal'.Dedent) ∷ (g.keyword keyword'.If) ∷ (g.keyword keyword'.For) ∷ (g.keyword keyword'.While) ∷ (g.keyword keyword'.Def) ∷ (g.keyword keyword'.Pass) ∷ (g.keyword keyword'.From) ∷ (g.keyword keyword'.Break) ∷ (g.keyword keyword'.Continue) ∷ (g.keyword keyword'.Return) ∷ (g.keyword keyword'.Not) ∷ (g.mark mark'.Minus) ∷ (one terminal'.Bracket) ∷ (one terminal'.Text) ∷ (one terminal'.FStart) ∷ (one terminal'.Leaf) ∷ []) ((one terminal'.Dedent) ∷ (g.keyword keyword'.If) ∷ (g.keyword keyword'.For) ∷ (g.keyword keyword'.While) ∷ (g.keyword keyword'.Def) ∷ (g.keyword keyword'.Pass) ∷ (g.keyword keyword'.From) ∷ (g.keyword keyword'.Break) ∷ (g.keyword keyword'.Continue) ∷ (g.keyword keyword'.Return) ∷ (g.keyword keyword'.Not) ∷ (g.mark mark'.Minus) ∷ (one terminal'.Bracket) ∷ (one terminal'.Text) ∷ (one terminal'.FStart) ∷ (one terminal'.Leaf) ∷ []) (all_more_lines a) (λ k h. h)) apart_17, (λ u. (followed_end s_free _ s_free less_16, tt)))), tt))

pub fine_statements : (a : Site) → AllFine s_free (productions (g.statements a))
fine_statements a = ((λ u. (followed_first s_free _ ((one terminal'.Newline) ∷ (g.mark mark'.Semicolon) ∷ []) s_small (first_part _ _ ((one terminal'.Newline) ∷ (g.mark mark'.Semicolon) ∷ []) ((one terminal'.Newline) ∷ (g.mark mark'.Semicolon) ∷ []) (all_statements_rest a) (λ k h. h)) apart_18, (λ u. (followed_end s_free _ s_free less_16, tt)))), tt)

pub fine_statements_rest : (a : Site) → AllFine s_free (productions (g.statements_rest a))
fine_statements_rest a = ((λ x. tt), ((λ x. (λ u. (followed_end s_free _ s_free less_16, tt))), tt))

pub fine_statements_more : (a : Site) → AllFine s_free (productions (g.statements_more a))
fine_statements_more a = ((λ x. tt), ((λ u. (followed_end s_free _ s_free less_16, tt)), tt))

pub fine_small : (a : Site) → AllFine s_small (productions (g.small a))
fine_small a = ((λ x. tt), ((λ x. (λ x. (λ x. (λ x. (λ x. (λ x. tt)))))), (fine_when s_small a.in_for (takes (g.keyword keyword'.Break) (λ x. gives (tree.break x.line))) (when a.in_for (takes (g.keyword keyword'.Continue) (λ x. gives (tree.continue x.line))) (when a.in_def (takes (g.keyword keyword'.Return) (λ x. g.return_body x.line)) (g.assignment ∷ []))) ((λ x. tt)) (fine_when s_small a.in_for (takes (g.keyword keyword'.Continue) (λ x. gives (tree.continue x.line))) (when a.in_def (takes (g.keyword keyword'.Return) (λ x. g.return_body x.line)) (g.assignment ∷ [])) ((λ x. tt)) (fine_when s_small a.in_def (takes (g.keyword keyword'.Return) (λ x. g.return_body x.line)) (g.assignment ∷ []) ((λ x. (λ u. (followed_end s_small _ s_items less_20, tt)))) ((λ u. (followed_maybe s_small _ _ ((g.mark mark'.Assign) ∷ (one terminal'.Augment) ∷ []) s_items (maybe_assigned u) apart_19 (λ u. followed_end s_small _ s_items less_20), (λ u. (followed_end s_small _ s_small less_21, tt)))), tt))))))

pub fine_returned : AllFine s_items (productions g.returned)
fine_returned = ((λ u. (followed_end s_items _ s_items less_22, tt)), (tt, tt))

pub fine_assigned : (a : Tree) → AllFine s_small (productions (g.assigned a))
fine_assigned a = (fine_when s_small (g.is_targets a) (takes (g.mark mark'.Assign) (λ x. reads g.exprs (λ e. gives (tree.assign x.line a e)))) (when (g.is_place a) (takes (one terminal'.Augment) (g.augment_body a)) (gives (tree.expression a) ∷ [])) ((λ x. (λ u. (followed_end s_small _ s_items less_20, tt)))) (fine_when s_small (g.is_place a) (takes (one terminal'.Augment) (g.augment_body a)) (gives (tree.expression a) ∷ []) ((λ x. (λ u. (followed_end s_small _ s_items less_20, tt)))) (tt, tt)))

pub fine_parameters : AllFine s_free (productions g.parameters)
fine_parameters = ((λ u. (followed_first s_free _ ((g.mark mark'.CloseParen) ∷ []) s_args (first_takes (g.mark mark'.CloseParen) _ ((g.mark mark'.CloseParen) ∷ []) wanted) apart_23, (λ x. tt))), tt)

pub fine_params : (a : List (List ℕ)) → AllFine s_args (productions (g.params a))
fine_params a = ((λ x. (λ u. (followed_end s_args _ s_args less_24, tt))), (tt, tt))

pub fine_param_rest : (a : List (List ℕ)) (b : ℕ) (c : List ℕ) → AllFine s_args (productions (g.param_rest a b c))
fine_param_rest a b c = ((λ x. (λ u. (followed_maybe s_args _ _ ((g.mark mark'.Comma) ∷ []) s_expr (maybe_defaults_rest _) apart_25 (λ u. followed_end s_args _ s_expr less_26), (λ u. (followed_end s_args _ s_args less_24, tt))))), ((λ x. (λ u. (followed_end s_args _ s_args less_24, tt))), (tt, tt)))

pub fine_defaults : (a : List (List ℕ)) → AllFine s_args (productions (g.defaults a))
fine_defaults a = ((λ x. (λ x. (λ u. (followed_maybe s_args _ _ ((g.mark mark'.Comma) ∷ []) s_expr (maybe_defaults_rest _) apart_25 (λ u. followed_end s_args _ s_expr less_26), (λ u. (followed_end s_args _ s_args less_24, tt)))))), (tt, tt))

pub fine_defaults_rest : (a : List (List ℕ)) → AllFine s_args (productions (g.defaults_rest a))
fine_defaults_rest a = ((λ x. (λ u. (followed_end s_args _ s_args less_24, tt))), (tt, tt))

pub fine_exprs : AllFine s_items (productions g.exprs)
fine_exprs = ((λ u. (followed_maybe s_items _ _ ((g.mark mark'.Comma) ∷ []) s_expr (maybe_exprs_rest _) apart_25 (λ u. followed_end s_items _ s_expr less_27), (λ u. (followed_end s_items _ s_items less_22, tt)))), tt)

pub fine_exprs_rest : (a : Tree) → AllFine s_items (productions (g.exprs_rest a))
fine_exprs_rest a = ((λ x. (λ u. (followed_end s_items _ s_items less_22, tt))), (tt, tt))

pub fine_items : AllFine s_items (productions g.items)
fine_items = ((λ u. (followed_maybe s_items _ _ ((g.mark mark'.Comma) ∷ []) s_expr maybe_items_rest apart_25 (λ u. followed_end s_items _ s_expr less_27), (λ u. (followed_end s_items _ s_items less_22, tt)))), (tt, tt))

pub fine_items_rest : AllFine s_items (productions g.items_rest)
fine_items_rest = ((λ x. (λ u. (followed_end s_items _ s_items less_22, tt))), (tt, tt))

pub fine_negation : AllFine s_cmp (productions g.negation)
fine_negation = ((λ x. (λ u. (followed_end s_cmp _ s_cmp less_28, tt))), ((λ u. (followed_end s_cmp _ s_cmp less_28, tt)), tt))

pub fine_comparison : AllFine s_cmp (productions g.comparison)
fine_comparison = ((λ u. (followed_maybe s_cmp _ _ ((g.keyword keyword'.Not) ∷ (g.keyword keyword'.Is) ∷ (one terminal'.Comparison) ∷ []) s_sum (maybe_compared _) apart_29 (λ u. followed_end s_cmp _ s_sum less_30), (λ u. (followed_end s_cmp _ s_cmp less_28, tt)))), tt)

pub fine_compared : (a : Tree) → AllFine s_cmp (productions (g.compared a))
fine_compared a = ((λ x. (λ x. (λ u. (followed_end s_cmp _ s_sum less_30, tt)))), ((λ x. (λ u. (followed_end s_cmp _ s_free less_31, tt))), ((λ x. (λ u. (followed_end s_cmp _ s_sum less_30, tt))), (tt, tt))))

pub fine_is_right : (a : ℕ) (b : Tree) → AllFine s_free (productions (g.is_right a b))
fine_is_right a b = ((λ x. (λ u. (followed_end s_free _ s_free less_16, tt))), ((λ u. (followed_end s_free _ s_free less_16, tt)), tt))

pub fine_constants : AllFine s_free (productions g.constants)
fine_constants = ((λ x. tt), tt)

pub fine_unary : AllFine s_atom (productions g.unary)
fine_unary = ((λ x. (λ u. (followed_end s_atom _ s_atom less_32, tt))), ((λ u. (followed_end s_atom _ s_atom less_32, tt)), tt))

pub fine_expr : AllFine s_expr (productions g.expr)
fine_expr = ((λ u. (followed_maybe s_expr _ _ ((g.keyword keyword'.If) ∷ []) s_plain (maybe_choice_rest _) if_after_plain (λ u. followed_end s_expr _ s_plain expr_plain), (λ u. (followed_end s_expr _ s_expr less_45, tt)))), tt)

pub fine_choice_rest : (a : Tree) → AllFine s_expr (productions (g.choice_rest a))
fine_choice_rest a = ((λ x. (λ u. (followed_end s_expr _ s_expr less_45, tt))), (tt, tt))

pub fine_choice_body : (a : ℕ) (b : Tree) → AllFine s_expr (productions (g.choice_body a b))
fine_choice_body a b = ((λ u. (followed_first s_expr _ ((g.keyword keyword'.Else) ∷ []) s_plain (first_takes (g.keyword keyword'.Else) _ ((g.keyword keyword'.Else) ∷ []) wanted) else_after_plain, (λ x. (λ u. (followed_end s_expr _ s_expr less_45, tt))))), tt)

pub fine_text_rest : (a : ℕ) (b : List ℕ) → AllFine s_pieces (productions (g.text_rest a b))
fine_text_rest a b = ((λ u. (followed_end s_pieces _ s_pieces pieces_pieces, tt)), (tt, tt))

pub fine_some_pieces : AllFine s_pieces (productions g.some_pieces)
fine_some_pieces = ((λ x. (λ u. (followed_end s_pieces _ s_pieces pieces_pieces, tt))), ((λ x. (λ u. (followed_end s_pieces _ s_pieces pieces_pieces, tt))), tt))

pub fine_more_pieces : AllFine s_pieces (productions g.more_pieces)
fine_more_pieces = ((λ u. (followed_end s_pieces _ s_pieces pieces_pieces, tt)), (tt, tt))

pub fine_parts : AllFine s_pieces (productions g.parts)
fine_parts = ((λ x. (λ u. (followed_end s_pieces _ s_pieces pieces_pieces, tt))), ((λ x. (λ t. (followed_first s_pieces _ ((one terminal'.FPart) ∷ (g.mark mark'.OpenBrace) ∷ (one terminal'.FEnd) ∷ []) s_free (first_part _ _ ((one terminal'.FPart) ∷ (g.mark mark'.OpenBrace) ∷ (one terminal'.FEnd) ∷ []) ((one terminal'.FPart) ∷ (g.mark mark'.OpenBrace) ∷ (one terminal'.FEnd) ∷ []) all_parts (λ k h. h)) parts_after_free, (λ u. (followed_end s_pieces _ s_pieces pieces_pieces, tt))))), ((λ x. (λ u. (followed_end s_pieces _ s_pieces pieces_pieces, tt))), tt)))

pub fine_field_body : (a : ℕ) → AllFine s_free (productions (g.field_body a))
fine_field_body a = ((λ u. (followed_first s_free _ ((g.mark mark'.CloseBrace) ∷ []) s_expr (first_takes (g.mark mark'.CloseBrace) _ ((g.mark mark'.CloseBrace) ∷ []) wanted) brace_after_expr, (λ x. tt))), tt)

pub fine_posted : AllFine s_atom (productions g.posted)
fine_posted = ((λ u. (followed_maybe s_atom _ _ ((g.mark mark'.OpenParen) ∷ (g.mark mark'.OpenBracket) ∷ (g.mark mark'.Dot) ∷ []) s_pieces maybe_links links_after_pieces (λ u. followed_end s_atom _ s_pieces atom_pieces), (λ u. (followed_end s_atom _ s_atom less_32, tt)))), tt)

pub fine_links : AllFine s_atom (productions g.links)
fine_links = ((λ u. (followed_maybe s_atom _ _ ((g.mark mark'.OpenParen) ∷ (g.mark mark'.OpenBracket) ∷ (g.mark mark'.Dot) ∷ []) s_free maybe_links apart_33 (λ u. followed_end s_atom _ s_free less_34), (λ u. (followed_end s_atom _ s_atom less_32, tt)))), (tt, tt))

pub fine_one_link : AllFine s_free (productions g.one_link)
fine_one_link = ((λ x. (λ u. (followed_end s_free _ s_free less_16, tt))), ((λ x. (λ u. (followed_end s_free _ s_free less_16, tt))), ((λ x. (λ x. tt)), tt)))

pub fine_call_body : (a : ℕ) → AllFine s_free (productions (g.call_body a))
fine_call_body a = ((λ u. (followed_first s_free _ ((g.mark mark'.CloseParen) ∷ []) s_args (first_takes (g.mark mark'.CloseParen) _ ((g.mark mark'.CloseParen) ∷ []) wanted) apart_23, (λ x. tt))), tt)

pub fine_atom : AllFine s_pieces (productions g.atom)
fine_atom = ((λ x. (λ u. (rw (display_free x.line x.kind) (followed_end s_pieces _ s_free pieces_free), tt))), ((λ x. (λ u. (followed_end s_pieces _ s_pieces pieces_pieces, tt))), ((λ x. (λ u. (followed_end s_pieces _ s_pieces pieces_pieces, tt))), ((λ x. tt), tt))))

pub fine_grouped : (a : ℕ) → AllFine s_free (productions (g.grouped a))
fine_grouped a = ((λ x. tt), ((λ u. (followed_first s_free _ ((g.mark mark'.CloseParen) ∷ []) s_items (first_takes (g.mark mark'.CloseParen) _ ((g.mark mark'.CloseParen) ∷ []) wanted) apart_35, (λ x. tt))), tt))

pub fine_listed : (a : ℕ) → AllFine s_free (productions (g.listed a))
fine_listed a = ((λ x. tt), ((λ u. (followed_first s_free _ ((g.keyword keyword'.For) ∷ (g.mark mark'.Comma) ∷ (g.mark mark'.CloseBracket) ∷ []) s_expr (first_part _ _ ((g.keyword keyword'.For) ∷ (g.mark mark'.Comma) ∷ (g.mark mark'.CloseBracket) ∷ []) ((g.keyword keyword'.For) ∷ (g.mark mark'.Comma) ∷ (g.mark mark'.CloseBracket) ∷ []) (all_listed_rest _ _) (λ k h. h)) apart_36, (λ u. (followed_end s_free _ s_free less_16, tt)))), tt))

pub fine_listed_rest : (a : ℕ) (b : Tree) → AllFine s_free (productions (g.listed_rest a b))
fine_listed_rest a b = ((λ x. (λ u. (followed_first s_free _ ((g.keyword keyword'.In) ∷ []) s_names (first_takes (g.keyword keyword'.In) _ ((g.keyword keyword'.In) ∷ []) wanted) apart_11, (λ x. (λ u. (followed_maybe s_free _ _ ((g.keyword keyword'.If) ∷ []) s_plain maybe_tests apart_38 (λ u. followed_first s_free _ ((g.mark mark'.CloseBracket) ∷ []) s_plain (first_takes (g.mark mark'.CloseBracket) _ ((g.mark mark'.CloseBracket) ∷ []) wanted) apart_39), (λ u. (followed_first s_free _ ((g.mark mark'.CloseBracket) ∷ []) s_tests (first_takes (g.mark mark'.CloseBracket) _ ((g.mark mark'.CloseBracket) ∷ []) wanted) apart_40, (λ x. tt))))))))), ((λ u. (followed_first s_free _ ((g.mark mark'.CloseBracket) ∷ []) s_items (first_takes (g.mark mark'.CloseBracket) _ ((g.mark mark'.CloseBracket) ∷ []) wanted) apart_37, (λ x. tt))), tt))

pub fine_names : AllFine s_names (productions g.names)
fine_names = ((λ x. (λ u. (followed_end s_names _ s_names less_41, tt))), tt)

pub fine_names_rest : AllFine s_names (productions g.names_rest)
fine_names_rest = ((λ x. (λ u. (followed_end s_names _ s_names less_41, tt))), (tt, tt))

pub fine_tests : AllFine s_tests (productions g.tests)
fine_tests = ((λ x. (λ u. (followed_maybe s_tests _ _ ((g.keyword keyword'.If) ∷ []) s_plain maybe_tests apart_38 (λ u. followed_end s_tests _ s_plain less_42), (λ u. (followed_end s_tests _ s_tests less_43, tt))))), (tt, tt))

pub fine_dict_body : (a : ℕ) → AllFine s_free (productions (g.dict_body a))
fine_dict_body a = ((λ u. (followed_first s_free _ ((g.mark mark'.CloseBrace) ∷ []) s_items (first_takes (g.mark mark'.CloseBrace) _ ((g.mark mark'.CloseBrace) ∷ []) wanted) apart_44, (λ x. tt))), tt)

pub fine_one_pair : AllFine s_expr (productions g.one_pair)
fine_one_pair = ((λ u. (followed_first s_expr _ ((g.mark mark'.Colon) ∷ []) s_expr (first_takes (g.mark mark'.Colon) _ ((g.mark mark'.Colon) ∷ []) wanted) apart_13, (λ x. (λ u. (followed_end s_expr _ s_expr less_45, tt))))), tt)

pub fine_pairs : AllFine s_items (productions g.pairs)
fine_pairs = ((λ u. (followed_maybe s_items _ _ ((g.mark mark'.Comma) ∷ []) s_expr maybe_pairs_rest apart_25 (λ u. followed_end s_items _ s_expr less_27), (λ u. (followed_end s_items _ s_items less_22, tt)))), (tt, tt))

pub fine_pairs_rest : AllFine s_items (productions g.pairs_rest)
fine_pairs_rest = ((λ x. (λ u. (followed_end s_items _ s_items less_22, tt))), (tt, tt))

pub fine_subscript : (a : ℕ) → AllFine s_free (productions (g.subscript a))
fine_subscript a = ((λ x. (λ u. (followed_first s_free _ ((g.mark mark'.CloseBracket) ∷ []) s_upper (first_takes (g.mark mark'.CloseBracket) _ ((g.mark mark'.CloseBracket) ∷ []) wanted) apart_47, (λ x. tt)))), ((λ u. (followed_first s_free _ ((g.mark mark'.Colon) ∷ (g.mark mark'.CloseBracket) ∷ []) s_expr (first_part _ _ ((g.mark mark'.Colon) ∷ (g.mark mark'.CloseBracket) ∷ []) ((g.mark mark'.Colon) ∷ (g.mark mark'.CloseBracket) ∷ []) (all_subscript_rest _ _) (λ k h. h)) apart_46, (λ u. (followed_end s_free _ s_free less_16, tt)))), tt))

pub fine_subscript_rest : (a : ℕ) (b : Tree) → AllFine s_free (productions (g.subscript_rest a b))
fine_subscript_rest a b = ((λ x. (λ u. (followed_first s_free _ ((g.mark mark'.CloseBracket) ∷ []) s_upper (first_takes (g.mark mark'.CloseBracket) _ ((g.mark mark'.CloseBracket) ∷ []) wanted) apart_47, (λ x. tt)))), ((λ x. tt), tt))

pub fine_upper : AllFine s_upper (productions g.upper)
fine_upper = ((λ u. (followed_end s_upper _ s_expr less_48, tt)), (tt, tt))

pub fine_args : AllFine s_args (productions g.args)
fine_args = ((λ u. (followed_maybe s_args _ _ ((g.mark mark'.Assign) ∷ (g.mark mark'.Comma) ∷ []) s_expr (maybe_args_rest _) apart_49 (λ u. followed_end s_args _ s_expr less_26), (λ u. (followed_end s_args _ s_args less_24, tt)))), (tt, tt))

pub fine_args_rest : (a : Tree) → AllFine s_args (productions (g.args_rest a))
fine_args_rest a = fine_named a (takes (g.mark mark'.Comma) (λ _. reads g.args (λ u. gives (tree.cons a u))) ∷ gives (tree.cons a tree.nil) ∷ []) ((λ x. (λ u. (followed_end s_args _ s_args less_24, tt))), (tt, tt))

pub fine_named_args : (a : List (List ℕ)) → AllFine s_args (productions (g.named_args a))
fine_named_args a = ((λ x. (λ x. (λ u. (followed_maybe s_args _ _ ((g.mark mark'.Comma) ∷ []) s_expr (maybe_named_rest _) apart_25 (λ u. followed_end s_args _ s_expr less_26), (λ u. (followed_end s_args _ s_args less_24, tt)))))), (tt, tt))

pub fine_named_rest : (a : List (List ℕ)) → AllFine s_args (productions (g.named_rest a))
fine_named_rest a = ((λ x. (λ u. (followed_end s_args _ s_args less_24, tt))), (tt, tt))

pub fine_chain_Or : AllFine s_plain (productions (g.chained level'.Or))
fine_chain_Or = ((λ t. (followed_maybe s_plain _ _ ((one (terminal'.Operator level'.Or)) ∷ []) s_and maybe_op_Or apart_50 (λ u. followed_end s_plain _ s_and less_51), (λ u. (followed_end s_plain _ s_plain (λ k h. h), tt)))), tt)

pub fine_op_Or : AllFine s_plain (productions (g.operations level'.Or))
fine_op_Or = ((λ x t. (followed_maybe s_plain _ _ ((one (terminal'.Operator level'.Or)) ∷ []) s_and maybe_op_Or apart_50 (λ u. followed_end s_plain _ s_and less_51), (λ u. (followed_end s_plain _ s_plain (λ k h. h), tt)))), (tt, tt))

pub fine_chain_And : AllFine s_and (productions (g.chained level'.And))
fine_chain_And = ((λ t. (followed_maybe s_and _ _ ((one (terminal'.Operator level'.And)) ∷ []) s_cmp maybe_op_And apart_52 (λ u. followed_end s_and _ s_cmp less_53), (λ u. (followed_end s_and _ s_and (λ k h. h), tt)))), tt)

pub fine_op_And : AllFine s_and (productions (g.operations level'.And))
fine_op_And = ((λ x t. (followed_maybe s_and _ _ ((one (terminal'.Operator level'.And)) ∷ []) s_cmp maybe_op_And apart_52 (λ u. followed_end s_and _ s_cmp less_53), (λ u. (followed_end s_and _ s_and (λ k h. h), tt)))), (tt, tt))

pub fine_chain_Sum : AllFine s_sum (productions (g.chained level'.Sum))
fine_chain_Sum = ((λ t. (followed_maybe s_sum _ _ ((one (terminal'.Operator level'.Sum)) ∷ []) s_product maybe_op_Sum apart_54 (λ u. followed_end s_sum _ s_product less_55), (λ u. (followed_end s_sum _ s_sum (λ k h. h), tt)))), tt)

pub fine_op_Sum : AllFine s_sum (productions (g.operations level'.Sum))
fine_op_Sum = ((λ x t. (followed_maybe s_sum _ _ ((one (terminal'.Operator level'.Sum)) ∷ []) s_product maybe_op_Sum apart_54 (λ u. followed_end s_sum _ s_product less_55), (λ u. (followed_end s_sum _ s_sum (λ k h. h), tt)))), (tt, tt))

pub fine_chain_Product : AllFine s_product (productions (g.chained level'.Product))
fine_chain_Product = ((λ t. (followed_maybe s_product _ _ ((one (terminal'.Operator level'.Product)) ∷ []) s_atom maybe_op_Product apart_56 (λ u. followed_end s_product _ s_atom less_57), (λ u. (followed_end s_product _ s_product (λ k h. h), tt)))), tt)

pub fine_op_Product : AllFine s_product (productions (g.operations level'.Product))
fine_op_Product = ((λ x t. (followed_maybe s_product _ _ ((one (terminal'.Operator level'.Product)) ∷ []) s_atom maybe_op_Product apart_56 (λ u. followed_end s_product _ s_atom less_57), (λ u. (followed_end s_product _ s_product (λ k h. h), tt)))), (tt, tt))
