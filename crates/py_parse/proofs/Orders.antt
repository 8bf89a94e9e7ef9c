-- Of each part: no token begins two of its bodies. Generated from the productions.
use Rattle.std.proofs.Common.{ℕ, List, [], ◌∷◌, Bool, true, false}
use Rattle.py_token.specs.declared.keyword.Keyword.TheVariants as keyword'
use Rattle.py_token.specs.declared.mark.Mark.TheVariants as mark'
use Rattle.py_tree.specs.Tree as tree
use Rattle.py_tree.specs.Tree.{Tree}
use Rattle.py_parse.specs.declared.level.Level.TheVariants as level'
use Rattle.py_parse.specs.declared.terminal.Terminal.TheVariants as terminal'
use Rattle.py_parse.specs.Terminals.{Want, one, fresh}
use Rattle.py_parse.specs.Grammar as g
use Rattle.py_parse.specs.Grammar.{Body, productions, gives, takes, opens, reads, when}
use Rattle.py_parse.proofs.Follow.{s_free, s_pieces, s_atom, s_product, s_sum, s_cmp, s_and, s_plain, s_expr, s_items, s_args, s_names, s_tests, s_upper, s_small, s_line, s_script, f_atom, f_unary, f_neg, f_small, f_line}
use Rattle.py_parse.proofs.Complete.{Ordered}
use Rattle.py_parse.specs.declared.site.Site.{Site}
use Rattle.py_parse.specs.Reading.{beginning}
use Rattle.py_parse.proofs.First.{wanted, first_takes, first_opens, first_part, followed_first, followed_end, followed_maybe, own_first}
use Rattle.py_parse.proofs.Wants.{only, less_58, single_59, apart_60, apart_61, apart_62, apart_63, apart_64, apart_65, less_66, apart_67, less_68, apart_69, apart_70, apart_71, apart_72, apart_73, apart_74, apart_75, apart_76, apart_77, apart_78, apart_79, apart_80, apart_81, apart_82, apart_83, apart_84, apart_85, apart_86, less_87, single_88, less_89, apart_90, less_91, less_92, less_93, apart_94, less_95, less_96, apart_97, less_98, apart_99, apart_100, less_101, apart_102, less_103, apart_104, apart_105, less_106, single_107, apart_108, apart_109, apart_110, apart_111, apart_112, apart_113, apart_114, apart_115, less_116, less_117, apart_118, apart_119, less_120, less_121, less_122, less_123, less_124, less_125, expr_if, pieces_piece, piece_heads, text_no_bracket, start_no_bracket, start_no_text, leaf_no_text, leaf_no_start, brace_no_part, end_no_part, end_no_brace, while_no_if, while_no_for, def_no_while, small_no_while}
use Rattle.py_parse.proofs.Beginnings.{all_posted, all_comparison, all_expr, all_exprs, all_one_pair, all_constants, all_one_link, all_statements, all_line, maybe_items_rest, all_some_pieces}

drop_fourth : (ss : List Want) (v : Bool) (a b c d e : Body) → Ordered ss (a ∷ b ∷ c ∷ d ∷ e ∷ []) → Ordered ss (a ∷ b ∷ c ∷ when v d (e ∷ []))
drop_fourth ss true a b c d e o = o
drop_fourth ss false a b c d e o =
    let m = o.3 in let n = m.3 in
    (o.0, o.1, (o.2.0, (o.2.1.0, (o.2.1.1.1.0, tt))), (m.0, m.1, (m.2.0, (m.2.1.1.0, tt)), (n.0, n.1, (n.2.1.0, tt), tt)))

drop_two : (ss : List Want) (v w : Bool) (a b c : Body) → Ordered ss (a ∷ b ∷ c ∷ []) → Ordered ss (when v a (when w b (c ∷ [])))
drop_two ss true true a b c o = o
drop_two ss true false a b c o = (o.0, o.1, (o.2.1.0, tt), tt)
drop_two ss false true a b c o = o.3
drop_two ss false false a b c o = tt

drop_small : (ss : List Want) (v w : Bool) (a b c d e f : Body) → Ordered ss (a ∷ b ∷ c ∷ d ∷ e ∷ f ∷ []) →
    Ordered ss (a ∷ b ∷ when v c (when v d (when w e (f ∷ []))))
drop_small ss true true a b c d e f o = o
drop_small ss true false a b c d e f o =
    let l = o.2 in let m = o.3 in let n = m.3 in let p = n.3 in (
      o.0,
      o.1,
      (l.0, (l.1.0, (l.1.1.0, (l.1.1.1.1.0, tt)))),
      (m.0, m.1, (m.2.0, (m.2.1.0, (m.2.1.1.1.0, tt))), (n.0, n.1, (n.2.0, (n.2.1.1.0, tt)), (p.0, p.1, (p.2.1.0, tt), tt))),
    )
drop_small ss false true a b c d e f o =
    let l = o.2 in let m = o.3 in let q = m.3.3.3 in
    (o.0, o.1, (l.0, (l.1.1.1.0, (l.1.1.1.1.0, tt))), (m.0, m.1, (m.2.1.1.0, (m.2.1.1.1.0, tt)), q))
drop_small ss false false a b c d e f o =
    let l = o.2 in let m = o.3 in
    (o.0, o.1, (l.0, (l.1.1.1.1.0, tt)), (m.0, m.1, (m.2.1.1.1.0, tt), tt))

pub ordered_script : Ordered s_script (productions g.script)
unfolding beginning
ordered_script = (tt, own_first _ (one terminal'.Any) f_line (first_part _ _ f_line f_line (all_line g.top) (λ k h. h)) single_59, (followed_end s_script _ ((one terminal'.Any) ∷ []) less_58, tt), tt)

pub ordered_line : (a : Site) → Ordered s_line (productions (g.line a))
unfolding beginning
ordered_line a = drop_fourth s_line a.outermost (opens (g.keyword keyword'.If) (λ x. g.conditional x.line a)) (opens (g.keyword keyword'.For) (λ x. g.loop_body x.line a)) (opens (g.keyword keyword'.While) (λ x. g.while_body x.line a)) (opens (g.keyword keyword'.Def) (λ x. g.function_body x.line)) (reads (g.statements a) (λ t. gives (tree.simple t))) (tt, own_first _ (g.keyword keyword'.If) ((g.keyword keyword'.If) ∷ []) (first_opens (g.keyword keyword'.If) _ ((g.keyword keyword'.If) ∷ []) wanted) (only (g.keyword keyword'.If)), ((followed_first s_line _ ((g.keyword keyword'.For) ∷ []) ((g.keyword keyword'.If) ∷ []) (first_opens (g.keyword keyword'.For) _ ((g.keyword keyword'.For) ∷ []) wanted) apart_62), ((followed_first s_line _ ((g.keyword keyword'.While) ∷ []) ((g.keyword keyword'.If) ∷ []) (first_opens (g.keyword keyword'.While) _ ((g.keyword keyword'.While) ∷ []) wanted) while_no_if), ((followed_first s_line _ ((g.keyword keyword'.Def) ∷ []) ((g.keyword keyword'.If) ∷ []) (first_opens (g.keyword keyword'.Def) _ ((g.keyword keyword'.Def) ∷ []) wanted) apart_61), ((followed_first s_line _ f_small ((g.keyword keyword'.If) ∷ []) (first_part _ _ f_small f_small (all_statements a) (λ k h. h)) apart_60), tt)))), (tt, own_first _ (g.keyword keyword'.For) ((g.keyword keyword'.For) ∷ []) (first_opens (g.keyword keyword'.For) _ ((g.keyword keyword'.For) ∷ []) wanted) (only (g.keyword keyword'.For)), ((followed_first s_line _ ((g.keyword keyword'.While) ∷ []) ((g.keyword keyword'.For) ∷ []) (first_opens (g.keyword keyword'.While) _ ((g.keyword keyword'.While) ∷ []) wanted) while_no_for), ((followed_first s_line _ ((g.keyword keyword'.Def) ∷ []) ((g.keyword keyword'.For) ∷ []) (first_opens (g.keyword keyword'.Def) _ ((g.keyword keyword'.Def) ∷ []) wanted) apart_64), ((followed_first s_line _ f_small ((g.keyword keyword'.For) ∷ []) (first_part _ _ f_small f_small (all_statements a) (λ k h. h)) apart_63), tt))), (tt, own_first _ (g.keyword keyword'.While) ((g.keyword keyword'.While) ∷ []) (first_opens (g.keyword keyword'.While) _ ((g.keyword keyword'.While) ∷ []) wanted) (only (g.keyword keyword'.While)), ((followed_first s_line _ ((g.keyword keyword'.Def) ∷ []) ((g.keyword keyword'.While) ∷ []) (first_opens (g.keyword keyword'.Def) _ ((g.keyword keyword'.Def) ∷ []) wanted) def_no_while), ((followed_first s_line _ f_small ((g.keyword keyword'.While) ∷ []) (first_part _ _ f_small f_small (all_statements a) (λ k h. h)) small_no_while), tt)), (tt, own_first _ (g.keyword keyword'.Def) ((g.keyword keyword'.Def) ∷ []) (first_opens (g.keyword keyword'.Def) _ ((g.keyword keyword'.Def) ∷ []) wanted) (only (g.keyword keyword'.Def)), ((followed_first s_line _ f_small ((g.keyword keyword'.Def) ∷ []) (first_part _ _ f_small f_small (all_statements a) (λ k h. h)) apart_65), tt), tt))))

pub ordered_branches : (a : Site) → Ordered s_line (productions (g.branches a))
unfolding beginning
ordered_branches a = (tt, own_first _ (g.keyword keyword'.Elif) ((g.keyword keyword'.Elif) ∷ []) (first_opens (g.keyword keyword'.Elif) _ ((g.keyword keyword'.Elif) ∷ []) wanted) (only (g.keyword keyword'.Elif)), (followed_first s_line _ ((g.keyword keyword'.Else) ∷ []) ((g.keyword keyword'.Elif) ∷ []) (first_opens (g.keyword keyword'.Else) _ ((g.keyword keyword'.Else) ∷ []) wanted) apart_67, (followed_end s_line _ ((g.keyword keyword'.Elif) ∷ []) less_66, tt)), (tt, own_first _ (g.keyword keyword'.Else) ((g.keyword keyword'.Else) ∷ []) (first_opens (g.keyword keyword'.Else) _ ((g.keyword keyword'.Else) ∷ []) wanted) (only (g.keyword keyword'.Else)), (followed_end s_line _ ((g.keyword keyword'.Else) ∷ []) less_68, tt), tt))

pub ordered_block : (a : Site) → Ordered s_free (productions (g.block a))
unfolding beginning
ordered_block a = (tt, own_first _ (one terminal'.Newline) ((one terminal'.Newline) ∷ []) (first_takes (one terminal'.Newline) _ ((one terminal'.Newline) ∷ []) wanted) (only (one terminal'.Newline)), (followed_first s_free _ f_small ((one terminal'.Newline) ∷ []) (first_part _ _ f_small f_small (all_statements a) (λ k h. h)) apart_69, tt), tt)

pub ordered_more_lines : (a : Site) → Ordered s_free (productions (g.more_lines a))
unfolding beginning
ordered_more_lines a = (tt, own_first _ (one terminal'.Dedent) ((one terminal'.Dedent) ∷ []) (first_takes (one terminal'.Dedent) _ ((one terminal'.Dedent) ∷ []) wanted) (only (one terminal'.Dedent)), (followed_first s_free _ f_line ((one terminal'.Dedent) ∷ []) (first_part _ _ f_line f_line (all_line a) (λ k h. h)) apart_70, tt), tt)

pub ordered_statements : (a : Site) → Ordered s_free (productions (g.statements a))
unfolding beginning
ordered_statements a = tt

pub ordered_statements_rest : (a : Site) → Ordered s_free (productions (g.statements_rest a))
unfolding beginning
ordered_statements_rest a = (tt, own_first _ (one terminal'.Newline) ((one terminal'.Newline) ∷ []) (first_takes (one terminal'.Newline) _ ((one terminal'.Newline) ∷ []) wanted) (only (one terminal'.Newline)), (followed_first s_free _ ((g.mark mark'.Semicolon) ∷ []) ((one terminal'.Newline) ∷ []) (first_takes (g.mark mark'.Semicolon) _ ((g.mark mark'.Semicolon) ∷ []) wanted) apart_71, tt), tt)

pub ordered_statements_more : (a : Site) → Ordered s_free (productions (g.statements_more a))
unfolding beginning
ordered_statements_more a = (tt, own_first _ (one terminal'.Newline) ((one terminal'.Newline) ∷ []) (first_takes (one terminal'.Newline) _ ((one terminal'.Newline) ∷ []) wanted) (only (one terminal'.Newline)), (followed_first s_free _ f_small ((one terminal'.Newline) ∷ []) (first_part _ _ f_small f_small (all_statements a) (λ k h. h)) apart_69, tt), tt)

pub ordered_small : (a : Site) → Ordered s_small (productions (g.small a))
unfolding beginning
ordered_small a = drop_small s_small a.in_for a.in_def (takes (g.keyword keyword'.Pass) (λ x. gives (tree.pass x.line))) (takes (g.keyword keyword'.From) (λ x. g.import_body x.line)) (takes (g.keyword keyword'.Break) (λ x. gives (tree.break x.line))) (takes (g.keyword keyword'.Continue) (λ x. gives (tree.continue x.line))) (takes (g.keyword keyword'.Return) (λ x. g.return_body x.line)) g.assignment (tt, own_first _ (g.keyword keyword'.Pass) ((g.keyword keyword'.Pass) ∷ []) (first_takes (g.keyword keyword'.Pass) _ ((g.keyword keyword'.Pass) ∷ []) wanted) (only (g.keyword keyword'.Pass)), (followed_first s_small _ ((g.keyword keyword'.From) ∷ []) ((g.keyword keyword'.Pass) ∷ []) (first_takes (g.keyword keyword'.From) _ ((g.keyword keyword'.From) ∷ []) wanted) apart_76, (followed_first s_small _ ((g.keyword keyword'.Break) ∷ []) ((g.keyword keyword'.Pass) ∷ []) (first_takes (g.keyword keyword'.Break) _ ((g.keyword keyword'.Break) ∷ []) wanted) apart_75, (followed_first s_small _ ((g.keyword keyword'.Continue) ∷ []) ((g.keyword keyword'.Pass) ∷ []) (first_takes (g.keyword keyword'.Continue) _ ((g.keyword keyword'.Continue) ∷ []) wanted) apart_74, (followed_first s_small _ ((g.keyword keyword'.Return) ∷ []) ((g.keyword keyword'.Pass) ∷ []) (first_takes (g.keyword keyword'.Return) _ ((g.keyword keyword'.Return) ∷ []) wanted) apart_73, (followed_first s_small _ f_neg ((g.keyword keyword'.Pass) ∷ []) (first_part _ _ f_neg f_neg all_exprs (λ k h. h)) apart_72, tt))))), (tt, own_first _ (g.keyword keyword'.From) ((g.keyword keyword'.From) ∷ []) (first_takes (g.keyword keyword'.From) _ ((g.keyword keyword'.From) ∷ []) wanted) (only (g.keyword keyword'.From)), (followed_first s_small _ ((g.keyword keyword'.Break) ∷ []) ((g.keyword keyword'.From) ∷ []) (first_takes (g.keyword keyword'.Break) _ ((g.keyword keyword'.Break) ∷ []) wanted) apart_80, (followed_first s_small _ ((g.keyword keyword'.Continue) ∷ []) ((g.keyword keyword'.From) ∷ []) (first_takes (g.keyword keyword'.Continue) _ ((g.keyword keyword'.Continue) ∷ []) wanted) apart_79, (followed_first s_small _ ((g.keyword keyword'.Return) ∷ []) ((g.keyword keyword'.From) ∷ []) (first_takes (g.keyword keyword'.Return) _ ((g.keyword keyword'.Return) ∷ []) wanted) apart_78, (followed_first s_small _ f_neg ((g.keyword keyword'.From) ∷ []) (first_part _ _ f_neg f_neg all_exprs (λ k h. h)) apart_77, tt)))), (tt, own_first _ (g.keyword keyword'.Break) ((g.keyword keyword'.Break) ∷ []) (first_takes (g.keyword keyword'.Break) _ ((g.keyword keyword'.Break) ∷ []) wanted) (only (g.keyword keyword'.Break)), (followed_first s_small _ ((g.keyword keyword'.Continue) ∷ []) ((g.keyword keyword'.Break) ∷ []) (first_takes (g.keyword keyword'.Continue) _ ((g.keyword keyword'.Continue) ∷ []) wanted) apart_83, (followed_first s_small _ ((g.keyword keyword'.Return) ∷ []) ((g.keyword keyword'.Break) ∷ []) (first_takes (g.keyword keyword'.Return) _ ((g.keyword keyword'.Return) ∷ []) wanted) apart_82, (followed_first s_small _ f_neg ((g.keyword keyword'.Break) ∷ []) (first_part _ _ f_neg f_neg all_exprs (λ k h. h)) apart_81, tt))), (tt, own_first _ (g.keyword keyword'.Continue) ((g.keyword keyword'.Continue) ∷ []) (first_takes (g.keyword keyword'.Continue) _ ((g.keyword keyword'.Continue) ∷ []) wanted) (only (g.keyword keyword'.Continue)), (followed_first s_small _ ((g.keyword keyword'.Return) ∷ []) ((g.keyword keyword'.Continue) ∷ []) (first_takes (g.keyword keyword'.Return) _ ((g.keyword keyword'.Return) ∷ []) wanted) apart_85, (followed_first s_small _ f_neg ((g.keyword keyword'.Continue) ∷ []) (first_part _ _ f_neg f_neg all_exprs (λ k h. h)) apart_84, tt)), (tt, own_first _ (g.keyword keyword'.Return) ((g.keyword keyword'.Return) ∷ []) (first_takes (g.keyword keyword'.Return) _ ((g.keyword keyword'.Return) ∷ []) wanted) (only (g.keyword keyword'.Return)), (followed_first s_small _ f_neg ((g.keyword keyword'.Return) ∷ []) (first_part _ _ f_neg f_neg all_exprs (λ k h. h)) apart_86, tt), tt)))))

pub ordered_returned : Ordered s_items (productions g.returned)
unfolding beginning
ordered_returned = (tt, own_first _ (one terminal'.Expression) f_neg (first_part _ _ f_neg f_neg all_exprs (λ k h. h)) single_88, (followed_end s_items _ ((one terminal'.Expression) ∷ []) less_87, tt), tt)

pub ordered_assigned : (a : Tree) → Ordered s_small (productions (g.assigned a))
unfolding beginning
ordered_assigned a = drop_two s_small (g.is_targets a) (g.is_place a) (takes (g.mark mark'.Assign) (λ x. reads g.exprs (λ e. gives (tree.assign x.line a e)))) (takes (one terminal'.Augment) (g.augment_body a)) (gives (tree.expression a)) (tt, own_first _ (g.mark mark'.Assign) ((g.mark mark'.Assign) ∷ []) (first_takes (g.mark mark'.Assign) _ ((g.mark mark'.Assign) ∷ []) wanted) (only (g.mark mark'.Assign)), (followed_first s_small _ ((one terminal'.Augment) ∷ []) ((g.mark mark'.Assign) ∷ []) (first_takes (one terminal'.Augment) _ ((one terminal'.Augment) ∷ []) wanted) apart_90, (followed_end s_small _ ((g.mark mark'.Assign) ∷ []) less_89, tt)), (tt, own_first _ (one terminal'.Augment) ((one terminal'.Augment) ∷ []) (first_takes (one terminal'.Augment) _ ((one terminal'.Augment) ∷ []) wanted) (only (one terminal'.Augment)), (followed_end s_small _ ((one terminal'.Augment) ∷ []) less_91, tt), tt))

pub ordered_parameters : Ordered s_free (productions g.parameters)
unfolding beginning
ordered_parameters = tt

pub ordered_params : (a : List (List ℕ)) → Ordered s_args (productions (g.params a))
unfolding beginning
ordered_params a = (tt, own_first _ (fresh a) ((fresh a) ∷ []) (first_takes (fresh a) _ ((fresh a) ∷ []) wanted) (only (fresh a)), (followed_end s_args _ ((fresh a) ∷ []) (less_92 a), tt), tt)

pub ordered_param_rest : (a : List (List ℕ)) (b : ℕ) (c : List ℕ) → Ordered s_args (productions (g.param_rest a b c))
unfolding beginning
ordered_param_rest a b c = (tt, own_first _ (g.mark mark'.Assign) ((g.mark mark'.Assign) ∷ []) (first_takes (g.mark mark'.Assign) _ ((g.mark mark'.Assign) ∷ []) wanted) (only (g.mark mark'.Assign)), (followed_first s_args _ ((g.mark mark'.Comma) ∷ []) ((g.mark mark'.Assign) ∷ []) (first_takes (g.mark mark'.Comma) _ ((g.mark mark'.Comma) ∷ []) wanted) apart_94, (followed_end s_args _ ((g.mark mark'.Assign) ∷ []) less_93, tt)), (tt, own_first _ (g.mark mark'.Comma) ((g.mark mark'.Comma) ∷ []) (first_takes (g.mark mark'.Comma) _ ((g.mark mark'.Comma) ∷ []) wanted) (only (g.mark mark'.Comma)), (followed_end s_args _ ((g.mark mark'.Comma) ∷ []) less_95, tt), tt))

pub ordered_defaults : (a : List (List ℕ)) → Ordered s_args (productions (g.defaults a))
unfolding beginning
ordered_defaults a = (tt, own_first _ (fresh a) ((fresh a) ∷ []) (first_takes (fresh a) _ ((fresh a) ∷ []) wanted) (only (fresh a)), (followed_end s_args _ ((fresh a) ∷ []) (less_92 a), tt), tt)

pub ordered_defaults_rest : (a : List (List ℕ)) → Ordered s_args (productions (g.defaults_rest a))
unfolding beginning
ordered_defaults_rest a = (tt, own_first _ (g.mark mark'.Comma) ((g.mark mark'.Comma) ∷ []) (first_takes (g.mark mark'.Comma) _ ((g.mark mark'.Comma) ∷ []) wanted) (only (g.mark mark'.Comma)), (followed_end s_args _ ((g.mark mark'.Comma) ∷ []) less_95, tt), tt)

pub ordered_exprs : Ordered s_items (productions g.exprs)
unfolding beginning
ordered_exprs = tt

pub ordered_exprs_rest : (a : Tree) → Ordered s_items (productions (g.exprs_rest a))
unfolding beginning
ordered_exprs_rest a = (tt, own_first _ (g.mark mark'.Comma) ((g.mark mark'.Comma) ∷ []) (first_takes (g.mark mark'.Comma) _ ((g.mark mark'.Comma) ∷ []) wanted) (only (g.mark mark'.Comma)), (followed_end s_items _ ((g.mark mark'.Comma) ∷ []) less_96, tt), tt)

pub ordered_items : Ordered s_items (productions g.items)
unfolding beginning
ordered_items = (tt, own_first _ (one terminal'.Expression) f_neg (first_part _ _ f_neg f_neg all_expr (λ k h. h)) single_88, (followed_end s_items _ ((one terminal'.Expression) ∷ []) less_87, tt), tt)

pub ordered_items_rest : Ordered s_items (productions g.items_rest)
unfolding beginning
ordered_items_rest = (tt, own_first _ (g.mark mark'.Comma) ((g.mark mark'.Comma) ∷ []) (first_takes (g.mark mark'.Comma) _ ((g.mark mark'.Comma) ∷ []) wanted) (only (g.mark mark'.Comma)), (followed_end s_items _ ((g.mark mark'.Comma) ∷ []) less_96, tt), tt)

pub ordered_negation : Ordered s_cmp (productions g.negation)
unfolding beginning
ordered_negation = (tt, own_first _ (g.keyword keyword'.Not) ((g.keyword keyword'.Not) ∷ []) (first_opens (g.keyword keyword'.Not) _ ((g.keyword keyword'.Not) ∷ []) wanted) (only (g.keyword keyword'.Not)), (followed_first s_cmp _ f_unary ((g.keyword keyword'.Not) ∷ []) (first_part _ _ f_unary f_unary all_comparison (λ k h. h)) apart_97, tt), tt)

pub ordered_comparison : Ordered s_cmp (productions g.comparison)
unfolding beginning
ordered_comparison = tt

pub ordered_compared : (a : Tree) → Ordered s_cmp (productions (g.compared a))
unfolding beginning
ordered_compared a = (tt, own_first _ (g.keyword keyword'.Not) ((g.keyword keyword'.Not) ∷ []) (first_takes (g.keyword keyword'.Not) _ ((g.keyword keyword'.Not) ∷ []) wanted) (only (g.keyword keyword'.Not)), (followed_first s_cmp _ ((g.keyword keyword'.Is) ∷ []) ((g.keyword keyword'.Not) ∷ []) (first_takes (g.keyword keyword'.Is) _ ((g.keyword keyword'.Is) ∷ []) wanted) apart_100, (followed_first s_cmp _ ((one terminal'.Comparison) ∷ []) ((g.keyword keyword'.Not) ∷ []) (first_takes (one terminal'.Comparison) _ ((one terminal'.Comparison) ∷ []) wanted) apart_99, (followed_end s_cmp _ ((g.keyword keyword'.Not) ∷ []) less_98, tt))), (tt, own_first _ (g.keyword keyword'.Is) ((g.keyword keyword'.Is) ∷ []) (first_takes (g.keyword keyword'.Is) _ ((g.keyword keyword'.Is) ∷ []) wanted) (only (g.keyword keyword'.Is)), (followed_first s_cmp _ ((one terminal'.Comparison) ∷ []) ((g.keyword keyword'.Is) ∷ []) (first_takes (one terminal'.Comparison) _ ((one terminal'.Comparison) ∷ []) wanted) apart_102, (followed_end s_cmp _ ((g.keyword keyword'.Is) ∷ []) less_101, tt)), (tt, own_first _ (one terminal'.Comparison) ((one terminal'.Comparison) ∷ []) (first_takes (one terminal'.Comparison) _ ((one terminal'.Comparison) ∷ []) wanted) (only (one terminal'.Comparison)), (followed_end s_cmp _ ((one terminal'.Comparison) ∷ []) less_103, tt), tt)))

pub ordered_is_right : (a : ℕ) (b : Tree) → Ordered s_free (productions (g.is_right a b))
unfolding beginning
ordered_is_right a b = (tt, own_first _ (g.keyword keyword'.Not) ((g.keyword keyword'.Not) ∷ []) (first_takes (g.keyword keyword'.Not) _ ((g.keyword keyword'.Not) ∷ []) wanted) (only (g.keyword keyword'.Not)), (followed_first s_free _ ((one terminal'.Constant) ∷ []) ((g.keyword keyword'.Not) ∷ []) (first_part _ _ ((one terminal'.Constant) ∷ []) ((one terminal'.Constant) ∷ []) all_constants (λ k h. h)) apart_104, tt), tt)

pub ordered_constants : Ordered s_free (productions g.constants)
unfolding beginning
ordered_constants = tt

pub ordered_unary : Ordered s_atom (productions g.unary)
unfolding beginning
ordered_unary = (tt, own_first _ (g.mark mark'.Minus) ((g.mark mark'.Minus) ∷ []) (first_opens (g.mark mark'.Minus) _ ((g.mark mark'.Minus) ∷ []) wanted) (only (g.mark mark'.Minus)), (followed_first s_atom _ f_atom ((g.mark mark'.Minus) ∷ []) (first_part _ _ f_atom f_atom all_posted (λ k h. h)) apart_105, tt), tt)

pub ordered_posted : Ordered s_atom (productions g.posted)
unfolding beginning
ordered_posted = tt

pub ordered_links : Ordered s_atom (productions g.links)
unfolding beginning
ordered_links = (tt, own_first _ (one terminal'.Link) ((g.mark mark'.OpenParen) ∷ (g.mark mark'.OpenBracket) ∷ (g.mark mark'.Dot) ∷ []) (first_part _ _ ((g.mark mark'.OpenParen) ∷ (g.mark mark'.OpenBracket) ∷ (g.mark mark'.Dot) ∷ []) ((g.mark mark'.OpenParen) ∷ (g.mark mark'.OpenBracket) ∷ (g.mark mark'.Dot) ∷ []) all_one_link (λ k h. h)) single_107, (followed_end s_atom _ ((one terminal'.Link) ∷ []) less_106, tt), tt)

pub ordered_one_link : Ordered s_free (productions g.one_link)
unfolding beginning
ordered_one_link = (tt, own_first _ (g.mark mark'.OpenParen) ((g.mark mark'.OpenParen) ∷ []) (first_opens (g.mark mark'.OpenParen) _ ((g.mark mark'.OpenParen) ∷ []) wanted) (only (g.mark mark'.OpenParen)), (followed_first s_free _ ((g.mark mark'.OpenBracket) ∷ []) ((g.mark mark'.OpenParen) ∷ []) (first_opens (g.mark mark'.OpenBracket) _ ((g.mark mark'.OpenBracket) ∷ []) wanted) apart_109, (followed_first s_free _ ((g.mark mark'.Dot) ∷ []) ((g.mark mark'.OpenParen) ∷ []) (first_takes (g.mark mark'.Dot) _ ((g.mark mark'.Dot) ∷ []) wanted) apart_108, tt)), (tt, own_first _ (g.mark mark'.OpenBracket) ((g.mark mark'.OpenBracket) ∷ []) (first_opens (g.mark mark'.OpenBracket) _ ((g.mark mark'.OpenBracket) ∷ []) wanted) (only (g.mark mark'.OpenBracket)), (followed_first s_free _ ((g.mark mark'.Dot) ∷ []) ((g.mark mark'.OpenBracket) ∷ []) (first_takes (g.mark mark'.Dot) _ ((g.mark mark'.Dot) ∷ []) wanted) apart_110, tt), tt))

pub ordered_call_body : (a : ℕ) → Ordered s_free (productions (g.call_body a))
unfolding beginning
ordered_call_body a = tt

pub ordered_atom : Ordered s_pieces (productions g.atom)
unfolding beginning
ordered_atom = (tt, own_first _ (one terminal'.Bracket) ((one terminal'.Bracket) ∷ []) (first_opens (one terminal'.Bracket) _ ((one terminal'.Bracket) ∷ []) wanted) (only (one terminal'.Bracket)), ((followed_first s_pieces _ ((one terminal'.Text) ∷ []) ((one terminal'.Bracket) ∷ []) (first_takes (one terminal'.Text) _ ((one terminal'.Text) ∷ []) wanted) text_no_bracket), ((followed_first s_pieces _ ((one terminal'.FStart) ∷ []) ((one terminal'.Bracket) ∷ []) (first_takes (one terminal'.FStart) _ ((one terminal'.FStart) ∷ []) wanted) start_no_bracket), ((followed_first s_pieces _ ((one terminal'.Leaf) ∷ []) ((one terminal'.Bracket) ∷ []) (first_takes (one terminal'.Leaf) _ ((one terminal'.Leaf) ∷ []) wanted) apart_111), tt))), (tt, own_first _ (one terminal'.Text) ((one terminal'.Text) ∷ []) (first_takes (one terminal'.Text) _ ((one terminal'.Text) ∷ []) wanted) (only (one terminal'.Text)), ((followed_first s_pieces _ ((one terminal'.FStart) ∷ []) ((one terminal'.Text) ∷ []) (first_takes (one terminal'.FStart) _ ((one terminal'.FStart) ∷ []) wanted) start_no_text), ((followed_first s_pieces _ ((one terminal'.Leaf) ∷ []) ((one terminal'.Text) ∷ []) (first_takes (one terminal'.Leaf) _ ((one terminal'.Leaf) ∷ []) wanted) leaf_no_text), tt)), (tt, own_first _ (one terminal'.FStart) ((one terminal'.FStart) ∷ []) (first_takes (one terminal'.FStart) _ ((one terminal'.FStart) ∷ []) wanted) (only (one terminal'.FStart)), ((followed_first s_pieces _ ((one terminal'.Leaf) ∷ []) ((one terminal'.FStart) ∷ []) (first_takes (one terminal'.Leaf) _ ((one terminal'.Leaf) ∷ []) wanted) leaf_no_start), tt), tt)))

pub ordered_text_rest : (a : ℕ) (b : List ℕ) → Ordered s_pieces (productions (g.text_rest a b))
unfolding beginning
ordered_text_rest a b = (tt, own_first _ (one terminal'.Piece) ((one terminal'.Text) ∷ (one terminal'.FStart) ∷ []) (first_part _ _ ((one terminal'.Text) ∷ (one terminal'.FStart) ∷ []) ((one terminal'.Text) ∷ (one terminal'.FStart) ∷ []) all_some_pieces (λ k h. h)) piece_heads, (followed_end s_pieces _ ((one terminal'.Piece) ∷ []) pieces_piece, tt), tt)

pub ordered_some_pieces : Ordered s_pieces (productions g.some_pieces)
unfolding beginning
ordered_some_pieces = (tt, own_first _ (one terminal'.Text) ((one terminal'.Text) ∷ []) (first_takes (one terminal'.Text) _ ((one terminal'.Text) ∷ []) wanted) (only (one terminal'.Text)), ((followed_first s_pieces _ ((one terminal'.FStart) ∷ []) ((one terminal'.Text) ∷ []) (first_takes (one terminal'.FStart) _ ((one terminal'.FStart) ∷ []) wanted) start_no_text), tt), tt)

pub ordered_more_pieces : Ordered s_pieces (productions g.more_pieces)
unfolding beginning
ordered_more_pieces = (tt, own_first _ (one terminal'.Piece) ((one terminal'.Text) ∷ (one terminal'.FStart) ∷ []) (first_part _ _ ((one terminal'.Text) ∷ (one terminal'.FStart) ∷ []) ((one terminal'.Text) ∷ (one terminal'.FStart) ∷ []) all_some_pieces (λ k h. h)) piece_heads, (followed_end s_pieces _ ((one terminal'.Piece) ∷ []) pieces_piece, tt), tt)

pub ordered_parts : Ordered s_pieces (productions g.parts)
unfolding beginning
ordered_parts = (tt, own_first _ (one terminal'.FPart) ((one terminal'.FPart) ∷ []) (first_takes (one terminal'.FPart) _ ((one terminal'.FPart) ∷ []) wanted) (only (one terminal'.FPart)), ((followed_first s_pieces _ ((g.mark mark'.OpenBrace) ∷ []) ((one terminal'.FPart) ∷ []) (first_opens (g.mark mark'.OpenBrace) _ ((g.mark mark'.OpenBrace) ∷ []) wanted) brace_no_part), ((followed_first s_pieces _ ((one terminal'.FEnd) ∷ []) ((one terminal'.FPart) ∷ []) (first_takes (one terminal'.FEnd) _ ((one terminal'.FEnd) ∷ []) wanted) end_no_part), tt)), (tt, own_first _ (g.mark mark'.OpenBrace) ((g.mark mark'.OpenBrace) ∷ []) (first_opens (g.mark mark'.OpenBrace) _ ((g.mark mark'.OpenBrace) ∷ []) wanted) (only (g.mark mark'.OpenBrace)), ((followed_first s_pieces _ ((one terminal'.FEnd) ∷ []) ((g.mark mark'.OpenBrace) ∷ []) (first_takes (one terminal'.FEnd) _ ((one terminal'.FEnd) ∷ []) wanted) end_no_brace), tt), tt))

pub ordered_field_body : (a : ℕ) → Ordered s_free (productions (g.field_body a))
unfolding beginning
ordered_field_body a = tt

pub ordered_expr : Ordered s_expr (productions g.expr)
unfolding beginning
ordered_expr = tt

pub ordered_choice_rest : (a : Tree) → Ordered s_expr (productions (g.choice_rest a))
unfolding beginning
ordered_choice_rest a = (tt, own_first _ (g.keyword keyword'.If) ((g.keyword keyword'.If) ∷ []) (first_opens (g.keyword keyword'.If) _ ((g.keyword keyword'.If) ∷ []) wanted) (only (g.keyword keyword'.If)), (followed_end s_expr _ ((g.keyword keyword'.If) ∷ []) expr_if, tt), tt)

pub ordered_choice_body : (a : ℕ) (b : Tree) → Ordered s_expr (productions (g.choice_body a b))
unfolding beginning
ordered_choice_body a b = tt

pub ordered_grouped : (a : ℕ) → Ordered s_free (productions (g.grouped a))
unfolding beginning
ordered_grouped a = (tt, own_first _ (g.mark mark'.CloseParen) ((g.mark mark'.CloseParen) ∷ []) (first_takes (g.mark mark'.CloseParen) _ ((g.mark mark'.CloseParen) ∷ []) wanted) (only (g.mark mark'.CloseParen)), (followed_first s_free _ f_neg ((g.mark mark'.CloseParen) ∷ []) (first_part _ _ f_neg f_neg all_exprs (λ k h. h)) apart_112, tt), tt)

pub ordered_listed : (a : ℕ) → Ordered s_free (productions (g.listed a))
unfolding beginning
ordered_listed a = (tt, own_first _ (g.mark mark'.CloseBracket) ((g.mark mark'.CloseBracket) ∷ []) (first_takes (g.mark mark'.CloseBracket) _ ((g.mark mark'.CloseBracket) ∷ []) wanted) (only (g.mark mark'.CloseBracket)), (followed_first s_free _ f_neg ((g.mark mark'.CloseBracket) ∷ []) (first_part _ _ f_neg f_neg all_expr (λ k h. h)) apart_113, tt), tt)

pub ordered_listed_rest : (a : ℕ) (b : Tree) → Ordered s_free (productions (g.listed_rest a b))
unfolding beginning
ordered_listed_rest a b = (tt, own_first _ (g.keyword keyword'.For) ((g.keyword keyword'.For) ∷ []) (first_takes (g.keyword keyword'.For) _ ((g.keyword keyword'.For) ∷ []) wanted) (only (g.keyword keyword'.For)), (followed_maybe s_free _ _ ((g.mark mark'.Comma) ∷ []) ((g.keyword keyword'.For) ∷ []) maybe_items_rest apart_114 (λ u. followed_first s_free _ ((g.mark mark'.CloseBracket) ∷ []) ((g.keyword keyword'.For) ∷ []) (first_takes (g.mark mark'.CloseBracket) _ ((g.mark mark'.CloseBracket) ∷ []) wanted) apart_115), tt), tt)

pub ordered_names : Ordered s_names (productions g.names)
unfolding beginning
ordered_names = tt

pub ordered_names_rest : Ordered s_names (productions g.names_rest)
unfolding beginning
ordered_names_rest = (tt, own_first _ (g.mark mark'.Comma) ((g.mark mark'.Comma) ∷ []) (first_takes (g.mark mark'.Comma) _ ((g.mark mark'.Comma) ∷ []) wanted) (only (g.mark mark'.Comma)), (followed_end s_names _ ((g.mark mark'.Comma) ∷ []) less_116, tt), tt)

pub ordered_tests : Ordered s_tests (productions g.tests)
unfolding beginning
ordered_tests = (tt, own_first _ (g.keyword keyword'.If) ((g.keyword keyword'.If) ∷ []) (first_takes (g.keyword keyword'.If) _ ((g.keyword keyword'.If) ∷ []) wanted) (only (g.keyword keyword'.If)), (followed_end s_tests _ ((g.keyword keyword'.If) ∷ []) less_117, tt), tt)

pub ordered_dict_body : (a : ℕ) → Ordered s_free (productions (g.dict_body a))
unfolding beginning
ordered_dict_body a = tt

pub ordered_one_pair : Ordered s_expr (productions g.one_pair)
unfolding beginning
ordered_one_pair = tt

pub ordered_pairs : Ordered s_items (productions g.pairs)
unfolding beginning
ordered_pairs = (tt, own_first _ (one terminal'.Expression) f_neg (first_part _ _ f_neg f_neg all_one_pair (λ k h. h)) single_88, (followed_end s_items _ ((one terminal'.Expression) ∷ []) less_87, tt), tt)

pub ordered_pairs_rest : Ordered s_items (productions g.pairs_rest)
unfolding beginning
ordered_pairs_rest = (tt, own_first _ (g.mark mark'.Comma) ((g.mark mark'.Comma) ∷ []) (first_takes (g.mark mark'.Comma) _ ((g.mark mark'.Comma) ∷ []) wanted) (only (g.mark mark'.Comma)), (followed_end s_items _ ((g.mark mark'.Comma) ∷ []) less_96, tt), tt)

pub ordered_subscript : (a : ℕ) → Ordered s_free (productions (g.subscript a))
unfolding beginning
ordered_subscript a = (tt, own_first _ (g.mark mark'.Colon) ((g.mark mark'.Colon) ∷ []) (first_takes (g.mark mark'.Colon) _ ((g.mark mark'.Colon) ∷ []) wanted) (only (g.mark mark'.Colon)), (followed_first s_free _ f_neg ((g.mark mark'.Colon) ∷ []) (first_part _ _ f_neg f_neg all_expr (λ k h. h)) apart_118, tt), tt)

pub ordered_subscript_rest : (a : ℕ) (b : Tree) → Ordered s_free (productions (g.subscript_rest a b))
unfolding beginning
ordered_subscript_rest a b = (tt, own_first _ (g.mark mark'.Colon) ((g.mark mark'.Colon) ∷ []) (first_takes (g.mark mark'.Colon) _ ((g.mark mark'.Colon) ∷ []) wanted) (only (g.mark mark'.Colon)), (followed_first s_free _ ((g.mark mark'.CloseBracket) ∷ []) ((g.mark mark'.Colon) ∷ []) (first_takes (g.mark mark'.CloseBracket) _ ((g.mark mark'.CloseBracket) ∷ []) wanted) apart_119, tt), tt)

pub ordered_upper : Ordered s_upper (productions g.upper)
unfolding beginning
ordered_upper = (tt, own_first _ (one terminal'.Expression) f_neg (first_part _ _ f_neg f_neg all_expr (λ k h. h)) single_88, (followed_end s_upper _ ((one terminal'.Expression) ∷ []) less_120, tt), tt)

pub ordered_args : Ordered s_args (productions g.args)
unfolding beginning
ordered_args = (tt, own_first _ (one terminal'.Expression) f_neg (first_part _ _ f_neg f_neg all_expr (λ k h. h)) single_88, (followed_end s_args _ ((one terminal'.Expression) ∷ []) less_121, tt), tt)

pub ordered_args_rest : (a : Tree) → Ordered s_args (productions (g.args_rest a))
unfolding beginning
ordered_args_rest (tree.name l n) = (tt, own_first _ (g.mark mark'.Assign) ((g.mark mark'.Assign) ∷ []) (first_takes (g.mark mark'.Assign) _ ((g.mark mark'.Assign) ∷ []) wanted) (only (g.mark mark'.Assign)), (followed_first s_args _ ((g.mark mark'.Comma) ∷ []) ((g.mark mark'.Assign) ∷ []) (first_takes (g.mark mark'.Comma) _ ((g.mark mark'.Comma) ∷ []) wanted) apart_94, (followed_end s_args _ ((g.mark mark'.Assign) ∷ []) less_93, tt)), (tt, own_first _ (g.mark mark'.Comma) ((g.mark mark'.Comma) ∷ []) (first_takes (g.mark mark'.Comma) _ ((g.mark mark'.Comma) ∷ []) wanted) (only (g.mark mark'.Comma)), (followed_end s_args _ ((g.mark mark'.Comma) ∷ []) less_95, tt), tt))
ordered_args_rest _ = (tt, own_first _ (g.mark mark'.Comma) ((g.mark mark'.Comma) ∷ []) (first_takes (g.mark mark'.Comma) _ ((g.mark mark'.Comma) ∷ []) wanted) (only (g.mark mark'.Comma)), (followed_end s_args _ ((g.mark mark'.Comma) ∷ []) less_95, tt), tt)

pub ordered_named_args : (a : List (List ℕ)) → Ordered s_args (productions (g.named_args a))
unfolding beginning
ordered_named_args a = (tt, own_first _ (fresh a) ((fresh a) ∷ []) (first_takes (fresh a) _ ((fresh a) ∷ []) wanted) (only (fresh a)), (followed_end s_args _ ((fresh a) ∷ []) (less_92 a), tt), tt)

pub ordered_named_rest : (a : List (List ℕ)) → Ordered s_args (productions (g.named_rest a))
unfolding beginning
ordered_named_rest a = (tt, own_first _ (g.mark mark'.Comma) ((g.mark mark'.Comma) ∷ []) (first_takes (g.mark mark'.Comma) _ ((g.mark mark'.Comma) ∷ []) wanted) (only (g.mark mark'.Comma)), (followed_end s_args _ ((g.mark mark'.Comma) ∷ []) less_95, tt), tt)

pub ordered_op_Or : Ordered s_plain (productions (g.operations level'.Or))
ordered_op_Or = (tt, own_first _ (one (terminal'.Operator level'.Or)) ((one (terminal'.Operator level'.Or)) ∷ []) (first_takes (one (terminal'.Operator level'.Or)) _ ((one (terminal'.Operator level'.Or)) ∷ []) wanted) (only (one (terminal'.Operator level'.Or))), (followed_end s_plain _ ((one (terminal'.Operator level'.Or)) ∷ []) less_122, tt), tt)

pub ordered_op_And : Ordered s_and (productions (g.operations level'.And))
ordered_op_And = (tt, own_first _ (one (terminal'.Operator level'.And)) ((one (terminal'.Operator level'.And)) ∷ []) (first_takes (one (terminal'.Operator level'.And)) _ ((one (terminal'.Operator level'.And)) ∷ []) wanted) (only (one (terminal'.Operator level'.And))), (followed_end s_and _ ((one (terminal'.Operator level'.And)) ∷ []) less_123, tt), tt)

pub ordered_op_Sum : Ordered s_sum (productions (g.operations level'.Sum))
ordered_op_Sum = (tt, own_first _ (one (terminal'.Operator level'.Sum)) ((one (terminal'.Operator level'.Sum)) ∷ []) (first_takes (one (terminal'.Operator level'.Sum)) _ ((one (terminal'.Operator level'.Sum)) ∷ []) wanted) (only (one (terminal'.Operator level'.Sum))), (followed_end s_sum _ ((one (terminal'.Operator level'.Sum)) ∷ []) less_124, tt), tt)

pub ordered_op_Product : Ordered s_product (productions (g.operations level'.Product))
ordered_op_Product = (tt, own_first _ (one (terminal'.Operator level'.Product)) ((one (terminal'.Operator level'.Product)) ∷ []) (first_takes (one (terminal'.Operator level'.Product)) _ ((one (terminal'.Operator level'.Product)) ∷ []) wanted) (only (one (terminal'.Operator level'.Product))), (followed_end s_product _ ((one (terminal'.Operator level'.Product)) ∷ []) less_125, tt), tt)
