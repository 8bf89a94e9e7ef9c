-- Of each part: how it begins. Generated from the productions.
use Rattle.std.proofs.Common.{◌≡◌, ℕ, List, [], ◌∷◌, Bool, true, false, ◌⊎◌}
use Rattle.py_token.specs.declared.keyword.Keyword.TheVariants as keyword'
use Rattle.py_token.specs.declared.mark.Mark.TheVariants as mark'
use Rattle.py_token.specs.declared.token.Token.{Token}
use Rattle.py_tree.specs.Tree as tree
use Rattle.py_tree.specs.Tree.{Tree}
use Rattle.py_parse.specs.declared.level.Level.TheVariants as level'
use Rattle.py_parse.specs.declared.terminal.Terminal.TheVariants as terminal'
use Rattle.py_parse.specs.Terminals.{Want, one}
use Rattle.py_parse.specs.Grammar as g
use Rattle.py_parse.specs.Grammar.{Body, productions, gives, takes, opens, reads, when, first_named}
use Rattle.py_parse.specs.Parses.{Spells}
use Rattle.py_parse.proofs.Follow.{f_atom, f_unary, f_neg, f_small, f_line}
use Rattle.py_parse.specs.declared.site.Site.{Site}
use Rattle.py_parse.proofs.First.{heads_in, wanted, further, BodyFirst, AllFirst, AllMaybe, first_takes, first_opens, first_part, maybe_first, maybe_nothing, first_maybe}
use Rattle.py_parse.proofs.Wants.{among_0, among_1, among_2, among_3, among_4, among_5}

first_when : (ws : List Want) (v : Bool) (b : Body) (bs : List Body) → BodyFirst ws b → AllFirst ws bs → AllFirst ws (when v b bs)
first_when ws true b bs h hs = (h, hs)
first_when ws false b bs h hs = hs

maybe_when : (ws : List Want) (v : Bool) (b : Body) (bs : List Body) →
    ((d : ℕ) (us : List Token) (t : Tree) → Spells d b us t → (us ≡ []) ⊎ (heads_in ws us ≡ true)) → AllMaybe ws bs → AllMaybe ws (when v b bs)
maybe_when ws true b bs h hs = (h, hs)
maybe_when ws false b bs h hs = hs

maybe_named : (t : Tree) (bs : List Body) → AllMaybe ((g.mark mark'.Assign) ∷ (g.mark mark'.Comma) ∷ []) bs →
    AllMaybe ((g.mark mark'.Assign) ∷ (g.mark mark'.Comma) ∷ []) (first_named t bs)
maybe_named (tree.name l n) bs hs = (maybe_first ((g.mark mark'.Assign) ∷ (g.mark mark'.Comma) ∷ []) _ (first_takes (g.mark mark'.Assign) _ ((g.mark mark'.Assign) ∷ (g.mark mark'.Comma) ∷ []) wanted), hs)
maybe_named _ bs hs = hs

all_atom : AllFirst f_atom (productions g.atom)
all_atom = (first_opens (one terminal'.Bracket) _ f_atom wanted, (first_takes (one terminal'.Text) _ f_atom (further wanted), (first_takes (one terminal'.FStart) _ f_atom (further (further wanted)), (first_takes (one terminal'.Leaf) _ f_atom (further (further (further wanted))), tt))))

pub all_posted : AllFirst f_atom (productions g.posted)
all_posted = (first_part _ _ f_atom f_atom all_atom (λ k h. h), tt)

all_unary : AllFirst f_unary (productions g.unary)
all_unary = (first_opens (g.mark mark'.Minus) _ f_unary wanted, (first_part _ _ f_atom f_unary all_posted among_0, tt))

all_product : AllFirst f_unary (productions (g.chained level'.Product))
all_product = (first_part _ _ f_unary f_unary all_unary (λ k h. h), tt)

all_sum : AllFirst f_unary (productions (g.chained level'.Sum))
all_sum = (first_part _ _ f_unary f_unary all_product (λ k h. h), tt)

pub all_comparison : AllFirst f_unary (productions g.comparison)
all_comparison = (first_part _ _ f_unary f_unary all_sum (λ k h. h), tt)

all_negation : AllFirst f_neg (productions g.negation)
all_negation = (first_opens (g.keyword keyword'.Not) _ f_neg wanted, (first_part _ _ f_unary f_neg all_comparison among_1, tt))

all_and : AllFirst f_neg (productions (g.chained level'.And))
all_and = (first_part _ _ f_neg f_neg all_negation (λ k h. h), tt)

pub all_plain : AllFirst f_neg (productions g.plain)
all_plain = (first_part _ _ f_neg f_neg all_and (λ k h. h), tt)

pub all_expr : AllFirst f_neg (productions g.expr)
all_expr = (first_part _ _ f_neg f_neg all_plain (λ k h. h), tt)

pub maybe_choice_rest : (a : Tree) → AllMaybe ((g.keyword keyword'.If) ∷ []) (productions (g.choice_rest a))
maybe_choice_rest a = (maybe_first ((g.keyword keyword'.If) ∷ []) _ (first_opens (g.keyword keyword'.If) _ ((g.keyword keyword'.If) ∷ []) wanted), (maybe_nothing ((g.keyword keyword'.If) ∷ []) _, tt))

pub all_some_pieces : AllFirst ((one terminal'.Text) ∷ (one terminal'.FStart) ∷ []) (productions g.some_pieces)
all_some_pieces = (first_takes (one terminal'.Text) _ ((one terminal'.Text) ∷ (one terminal'.FStart) ∷ []) wanted, (first_takes (one terminal'.FStart) _ ((one terminal'.Text) ∷ (one terminal'.FStart) ∷ []) (further wanted), tt))

pub all_parts : AllFirst ((one terminal'.FPart) ∷ (g.mark mark'.OpenBrace) ∷ (one terminal'.FEnd) ∷ []) (productions g.parts)
all_parts = (first_takes (one terminal'.FPart) _ ((one terminal'.FPart) ∷ (g.mark mark'.OpenBrace) ∷ (one terminal'.FEnd) ∷ []) wanted, (first_opens (g.mark mark'.OpenBrace) _ ((one terminal'.FPart) ∷ (g.mark mark'.OpenBrace) ∷ (one terminal'.FEnd) ∷ []) (further wanted), (first_takes (one terminal'.FEnd) _ ((one terminal'.FPart) ∷ (g.mark mark'.OpenBrace) ∷ (one terminal'.FEnd) ∷ []) (further (further wanted)), tt)))

pub maybe_more_pieces : AllMaybe ((one terminal'.Text) ∷ (one terminal'.FStart) ∷ []) (productions g.more_pieces)
maybe_more_pieces = (maybe_first ((one terminal'.Text) ∷ (one terminal'.FStart) ∷ []) _ (first_part _ _ ((one terminal'.Text) ∷ (one terminal'.FStart) ∷ []) ((one terminal'.Text) ∷ (one terminal'.FStart) ∷ []) all_some_pieces (λ k h. h)), (maybe_nothing ((one terminal'.Text) ∷ (one terminal'.FStart) ∷ []) _, tt))

pub maybe_text_rest : (a : ℕ) (b : List ℕ) → AllMaybe ((one terminal'.Text) ∷ (one terminal'.FStart) ∷ []) (productions (g.text_rest a b))
maybe_text_rest a b = (maybe_first ((one terminal'.Text) ∷ (one terminal'.FStart) ∷ []) _ (first_part _ _ ((one terminal'.Text) ∷ (one terminal'.FStart) ∷ []) ((one terminal'.Text) ∷ (one terminal'.FStart) ∷ []) all_some_pieces (λ k h. h)), (maybe_nothing ((one terminal'.Text) ∷ (one terminal'.FStart) ∷ []) _, tt))

pub all_exprs : AllFirst f_neg (productions g.exprs)
all_exprs = (first_part _ _ f_neg f_neg all_expr (λ k h. h), tt)

pub all_one_pair : AllFirst f_neg (productions g.one_pair)
all_one_pair = (first_part _ _ f_neg f_neg all_expr (λ k h. h), tt)

pub all_constants : AllFirst ((one terminal'.Constant) ∷ []) (productions g.constants)
all_constants = (first_takes (one terminal'.Constant) _ ((one terminal'.Constant) ∷ []) wanted, tt)

pub all_one_link : AllFirst ((g.mark mark'.OpenParen) ∷ (g.mark mark'.OpenBracket) ∷ (g.mark mark'.Dot) ∷ []) (productions g.one_link)
all_one_link = (first_opens (g.mark mark'.OpenParen) _ ((g.mark mark'.OpenParen) ∷ (g.mark mark'.OpenBracket) ∷ (g.mark mark'.Dot) ∷ []) wanted, (first_opens (g.mark mark'.OpenBracket) _ ((g.mark mark'.OpenParen) ∷ (g.mark mark'.OpenBracket) ∷ (g.mark mark'.Dot) ∷ []) (further wanted), (first_takes (g.mark mark'.Dot) _ ((g.mark mark'.OpenParen) ∷ (g.mark mark'.OpenBracket) ∷ (g.mark mark'.Dot) ∷ []) (further (further wanted)), tt)))

all_small : (a : Site) → AllFirst f_small (productions (g.small a))
all_small a = (first_takes (g.keyword keyword'.Pass) _ f_small wanted, (first_takes (g.keyword keyword'.From) _ f_small (further wanted), (first_when f_small a.in_for (takes (g.keyword keyword'.Break) (λ x. gives (tree.break x.line))) (when a.in_for (takes (g.keyword keyword'.Continue) (λ x. gives (tree.continue x.line))) (when a.in_def (takes (g.keyword keyword'.Return) (λ x. g.return_body x.line)) (g.assignment ∷ []))) (first_takes (g.keyword keyword'.Break) _ f_small (further (further wanted))) (first_when f_small a.in_for (takes (g.keyword keyword'.Continue) (λ x. gives (tree.continue x.line))) (when a.in_def (takes (g.keyword keyword'.Return) (λ x. g.return_body x.line)) (g.assignment ∷ [])) (first_takes (g.keyword keyword'.Continue) _ f_small (further (further (further wanted)))) (first_when f_small a.in_def (takes (g.keyword keyword'.Return) (λ x. g.return_body x.line)) (g.assignment ∷ []) (first_takes (g.keyword keyword'.Return) _ f_small (further (further (further (further wanted))))) (first_part _ _ f_neg f_small all_exprs among_2, tt))))))

pub all_statements : (a : Site) → AllFirst f_small (productions (g.statements a))
all_statements a = (first_part _ _ f_small f_small (all_small a) (λ k h. h), tt)

pub all_line : (a : Site) → AllFirst f_line (productions (g.line a))
all_line a = (first_opens (g.keyword keyword'.If) _ f_line wanted, (first_opens (g.keyword keyword'.For) _ f_line (further wanted), (first_opens (g.keyword keyword'.While) _ f_line (further (further wanted)), (first_when f_line a.outermost (opens (g.keyword keyword'.Def) (λ x. g.function_body x.line)) (reads (g.statements a) (λ t. gives (tree.simple t)) ∷ []) (first_opens (g.keyword keyword'.Def) _ f_line (further (further (further wanted)))) (first_part _ _ f_small f_line (all_statements a) among_3, tt)))))

all_names : AllFirst ((one terminal'.Name) ∷ []) (productions g.names)
all_names = (first_takes (one terminal'.Name) _ ((one terminal'.Name) ∷ []) wanted, tt)

pub maybe_links : AllMaybe ((g.mark mark'.OpenParen) ∷ (g.mark mark'.OpenBracket) ∷ (g.mark mark'.Dot) ∷ []) (productions g.links)
maybe_links = (maybe_first ((g.mark mark'.OpenParen) ∷ (g.mark mark'.OpenBracket) ∷ (g.mark mark'.Dot) ∷ []) _ (first_part _ _ ((g.mark mark'.OpenParen) ∷ (g.mark mark'.OpenBracket) ∷ (g.mark mark'.Dot) ∷ []) ((g.mark mark'.OpenParen) ∷ (g.mark mark'.OpenBracket) ∷ (g.mark mark'.Dot) ∷ []) all_one_link (λ k h. h)), (maybe_nothing ((g.mark mark'.OpenParen) ∷ (g.mark mark'.OpenBracket) ∷ (g.mark mark'.Dot) ∷ []) _, tt))

pub maybe_compared : (a : Tree) → AllMaybe ((g.keyword keyword'.Not) ∷ (g.keyword keyword'.Is) ∷ (one terminal'.Comparison) ∷ []) (productions (g.compared a))
maybe_compared a = (maybe_first ((g.keyword keyword'.Not) ∷ (g.keyword keyword'.Is) ∷ (one terminal'.Comparison) ∷ []) _ (first_takes (g.keyword keyword'.Not) _ ((g.keyword keyword'.Not) ∷ (g.keyword keyword'.Is) ∷ (one terminal'.Comparison) ∷ []) wanted), (maybe_first ((g.keyword keyword'.Not) ∷ (g.keyword keyword'.Is) ∷ (one terminal'.Comparison) ∷ []) _ (first_takes (g.keyword keyword'.Is) _ ((g.keyword keyword'.Not) ∷ (g.keyword keyword'.Is) ∷ (one terminal'.Comparison) ∷ []) (further wanted)), (maybe_first ((g.keyword keyword'.Not) ∷ (g.keyword keyword'.Is) ∷ (one terminal'.Comparison) ∷ []) _ (first_takes (one terminal'.Comparison) _ ((g.keyword keyword'.Not) ∷ (g.keyword keyword'.Is) ∷ (one terminal'.Comparison) ∷ []) (further (further wanted))), (maybe_nothing ((g.keyword keyword'.Not) ∷ (g.keyword keyword'.Is) ∷ (one terminal'.Comparison) ∷ []) _, tt))))

pub maybe_exprs_rest : (a : Tree) → AllMaybe ((g.mark mark'.Comma) ∷ []) (productions (g.exprs_rest a))
maybe_exprs_rest a = (maybe_first ((g.mark mark'.Comma) ∷ []) _ (first_takes (g.mark mark'.Comma) _ ((g.mark mark'.Comma) ∷ []) wanted), (maybe_nothing ((g.mark mark'.Comma) ∷ []) _, tt))

pub maybe_items_rest : AllMaybe ((g.mark mark'.Comma) ∷ []) (productions g.items_rest)
maybe_items_rest = (maybe_first ((g.mark mark'.Comma) ∷ []) _ (first_takes (g.mark mark'.Comma) _ ((g.mark mark'.Comma) ∷ []) wanted), (maybe_nothing ((g.mark mark'.Comma) ∷ []) _, tt))

pub maybe_pairs_rest : AllMaybe ((g.mark mark'.Comma) ∷ []) (productions g.pairs_rest)
maybe_pairs_rest = (maybe_first ((g.mark mark'.Comma) ∷ []) _ (first_takes (g.mark mark'.Comma) _ ((g.mark mark'.Comma) ∷ []) wanted), (maybe_nothing ((g.mark mark'.Comma) ∷ []) _, tt))

pub maybe_args_rest : (a : Tree) → AllMaybe ((g.mark mark'.Assign) ∷ (g.mark mark'.Comma) ∷ []) (productions (g.args_rest a))
maybe_args_rest a = maybe_named a (takes (g.mark mark'.Comma) (λ _. reads g.args (λ u. gives (tree.cons a u))) ∷ gives (tree.cons a tree.nil) ∷ []) (maybe_first ((g.mark mark'.Assign) ∷ (g.mark mark'.Comma) ∷ []) _ (first_takes (g.mark mark'.Comma) _ ((g.mark mark'.Assign) ∷ (g.mark mark'.Comma) ∷ []) (further wanted)), (maybe_nothing ((g.mark mark'.Assign) ∷ (g.mark mark'.Comma) ∷ []) _, tt))

pub maybe_assigned : (a : Tree) → AllMaybe ((g.mark mark'.Assign) ∷ (one terminal'.Augment) ∷ []) (productions (g.assigned a))
maybe_assigned a = (maybe_when ((g.mark mark'.Assign) ∷ (one terminal'.Augment) ∷ []) (g.is_targets a) (takes (g.mark mark'.Assign) (λ x. reads g.exprs (λ e. gives (tree.assign x.line a e)))) (when (g.is_place a) (takes (one terminal'.Augment) (g.augment_body a)) (gives (tree.expression a) ∷ [])) (maybe_first ((g.mark mark'.Assign) ∷ (one terminal'.Augment) ∷ []) _ (first_takes (g.mark mark'.Assign) _ ((g.mark mark'.Assign) ∷ (one terminal'.Augment) ∷ []) wanted)) (maybe_when ((g.mark mark'.Assign) ∷ (one terminal'.Augment) ∷ []) (g.is_place a) (takes (one terminal'.Augment) (g.augment_body a)) (gives (tree.expression a) ∷ []) (maybe_first ((g.mark mark'.Assign) ∷ (one terminal'.Augment) ∷ []) _ (first_takes (one terminal'.Augment) _ ((g.mark mark'.Assign) ∷ (one terminal'.Augment) ∷ []) (further wanted))) (maybe_nothing ((g.mark mark'.Assign) ∷ (one terminal'.Augment) ∷ []) _, tt)))

maybe_names_rest : AllMaybe ((g.mark mark'.Comma) ∷ []) (productions g.names_rest)
maybe_names_rest = (maybe_first ((g.mark mark'.Comma) ∷ []) _ (first_takes (g.mark mark'.Comma) _ ((g.mark mark'.Comma) ∷ []) wanted), (maybe_nothing ((g.mark mark'.Comma) ∷ []) _, tt))

pub maybe_tests : AllMaybe ((g.keyword keyword'.If) ∷ []) (productions g.tests)
maybe_tests = (maybe_first ((g.keyword keyword'.If) ∷ []) _ (first_takes (g.keyword keyword'.If) _ ((g.keyword keyword'.If) ∷ []) wanted), (maybe_nothing ((g.keyword keyword'.If) ∷ []) _, tt))

pub maybe_branches : (a : Site) → AllMaybe ((g.keyword keyword'.Elif) ∷ (g.keyword keyword'.Else) ∷ []) (productions (g.branches a))
maybe_branches a = (maybe_first ((g.keyword keyword'.Elif) ∷ (g.keyword keyword'.Else) ∷ []) _ (first_opens (g.keyword keyword'.Elif) _ ((g.keyword keyword'.Elif) ∷ (g.keyword keyword'.Else) ∷ []) wanted), (maybe_first ((g.keyword keyword'.Elif) ∷ (g.keyword keyword'.Else) ∷ []) _ (first_opens (g.keyword keyword'.Else) _ ((g.keyword keyword'.Elif) ∷ (g.keyword keyword'.Else) ∷ []) (further wanted)), (maybe_nothing ((g.keyword keyword'.Elif) ∷ (g.keyword keyword'.Else) ∷ []) _, tt)))

pub maybe_script : AllMaybe f_line (productions g.script)
maybe_script = (maybe_first f_line _ (first_part _ _ f_line f_line (all_line g.top) (λ k h. h)), (maybe_nothing f_line _, tt))

pub maybe_named_rest : (a : List (List ℕ)) → AllMaybe ((g.mark mark'.Comma) ∷ []) (productions (g.named_rest a))
maybe_named_rest a = (maybe_first ((g.mark mark'.Comma) ∷ []) _ (first_takes (g.mark mark'.Comma) _ ((g.mark mark'.Comma) ∷ []) wanted), (maybe_nothing ((g.mark mark'.Comma) ∷ []) _, tt))

pub maybe_defaults_rest : (a : List (List ℕ)) → AllMaybe ((g.mark mark'.Comma) ∷ []) (productions (g.defaults_rest a))
maybe_defaults_rest a = (maybe_first ((g.mark mark'.Comma) ∷ []) _ (first_takes (g.mark mark'.Comma) _ ((g.mark mark'.Comma) ∷ []) wanted), (maybe_nothing ((g.mark mark'.Comma) ∷ []) _, tt))

pub all_listed_rest : (a : ℕ) (b : Tree) → AllFirst ((g.keyword keyword'.For) ∷ (g.mark mark'.Comma) ∷ (g.mark mark'.CloseBracket) ∷ []) (productions (g.listed_rest a b))
all_listed_rest a b = (first_takes (g.keyword keyword'.For) _ ((g.keyword keyword'.For) ∷ (g.mark mark'.Comma) ∷ (g.mark mark'.CloseBracket) ∷ []) wanted, (first_maybe _ _ ((g.mark mark'.Comma) ∷ []) ((g.keyword keyword'.For) ∷ (g.mark mark'.Comma) ∷ (g.mark mark'.CloseBracket) ∷ []) maybe_items_rest among_4 (λ u. first_takes (g.mark mark'.CloseBracket) _ ((g.keyword keyword'.For) ∷ (g.mark mark'.Comma) ∷ (g.mark mark'.CloseBracket) ∷ []) (further (further wanted))), tt))

pub all_subscript_rest : (a : ℕ) (b : Tree) → AllFirst ((g.mark mark'.Colon) ∷ (g.mark mark'.CloseBracket) ∷ []) (productions (g.subscript_rest a b))
all_subscript_rest a b = (first_takes (g.mark mark'.Colon) _ ((g.mark mark'.Colon) ∷ (g.mark mark'.CloseBracket) ∷ []) wanted, (first_takes (g.mark mark'.CloseBracket) _ ((g.mark mark'.Colon) ∷ (g.mark mark'.CloseBracket) ∷ []) (further wanted), tt))

pub all_statements_rest : (a : Site) → AllFirst ((one terminal'.Newline) ∷ (g.mark mark'.Semicolon) ∷ []) (productions (g.statements_rest a))
all_statements_rest a = (first_takes (one terminal'.Newline) _ ((one terminal'.Newline) ∷ (g.mark mark'.Semicolon) ∷ []) wanted, (first_takes (g.mark mark'.Semicolon) _ ((one terminal'.Newline) ∷ (g.mark mark'.Semicolon) ∷ []) (further wanted), tt))

pub all_more_lines : (a : Site) → AllFirst ((one terminal'.Dedent) ∷ (g.keyword keyword'.If) ∷ (g.keyword keyword'.For) ∷ (g.keyword keyword'.While) ∷ (g.keyword keyword'.Def) ∷ (g.keyword keyword'.Pass) ∷ (g.keyword keyword'.From) ∷ (g.keyword keyword'.Break) ∷ (g.keyword keyword'.Continue) ∷ (g.keyword keyword'.Return) ∷ (g.keyword keyword'.Not) ∷ (g.mark mark'.Minus) ∷ (one terminal'.Bracket) ∷ (one terminal'.Text) ∷ (one terminal'.FStart) ∷ (one terminal'.Leaf) ∷ []) (productions (g.more_lines a))
all_more_lines a = (first_takes (one terminal'.Dedent) _ ((one terminal'.Dedent) ∷ (g.keyword keyword'.If) ∷ (g.keyword keyword'.For) ∷ (g.keyword keyword'.While) ∷ (g.keyword keyword'.Def) ∷ (g.keyword keyword'.Pass) ∷ (g.keyword keyword'.From) ∷ (g.keyword keyword'.Break) ∷ (g.keyword keyword'.Continue) ∷ (g.keyword keyword'.Return) ∷ (g.keyword keyword'.Not) ∷ (g.mark mark'.Minus) ∷ (one terminal'.Bracket) ∷ (one terminal'.Text) ∷ (one terminal'.FStart) ∷ (one terminal'.Leaf) ∷ []) wanted, (first_part _ _ f_line ((one terminal'.Dedent) ∷ (g.keyword keyword'.If) ∷ (g.keyword keyword'.For) ∷ (g.keyword keyword'.While) ∷ (g.keyword keyword'.Def) ∷ (g.keyword keyword'.Pass) ∷ (g.keyword keyword'.From) ∷ (g.keyword keyword'.Break) ∷ (g.keyword keyword'.Continue) ∷ (g.keyword keyword'.Return) ∷ (g.keyword keyword'.Not) ∷ (g.mark mark'.Minus) ∷ (one terminal'.Bracket) ∷ (one terminal'.Text) ∷ (one terminal'.FStart) ∷ (one terminal'.Leaf) ∷ []) (all_line a) among_5, tt))

pub maybe_op_Or : AllMaybe ((one (terminal'.Operator level'.Or)) ∷ []) (productions (g.operations level'.Or))
maybe_op_Or = (maybe_first ((one (terminal'.Operator level'.Or)) ∷ []) _ (first_takes (one (terminal'.Operator level'.Or)) _ ((one (terminal'.Operator level'.Or)) ∷ []) wanted), (maybe_nothing ((one (terminal'.Operator level'.Or)) ∷ []) _, tt))

pub maybe_op_And : AllMaybe ((one (terminal'.Operator level'.And)) ∷ []) (productions (g.operations level'.And))
maybe_op_And = (maybe_first ((one (terminal'.Operator level'.And)) ∷ []) _ (first_takes (one (terminal'.Operator level'.And)) _ ((one (terminal'.Operator level'.And)) ∷ []) wanted), (maybe_nothing ((one (terminal'.Operator level'.And)) ∷ []) _, tt))

pub maybe_op_Sum : AllMaybe ((one (terminal'.Operator level'.Sum)) ∷ []) (productions (g.operations level'.Sum))
maybe_op_Sum = (maybe_first ((one (terminal'.Operator level'.Sum)) ∷ []) _ (first_takes (one (terminal'.Operator level'.Sum)) _ ((one (terminal'.Operator level'.Sum)) ∷ []) wanted), (maybe_nothing ((one (terminal'.Operator level'.Sum)) ∷ []) _, tt))

pub maybe_op_Product : AllMaybe ((one (terminal'.Operator level'.Product)) ∷ []) (productions (g.operations level'.Product))
maybe_op_Product = (maybe_first ((one (terminal'.Operator level'.Product)) ∷ []) _ (first_takes (one (terminal'.Operator level'.Product)) _ ((one (terminal'.Operator level'.Product)) ∷ []) wanted), (maybe_nothing ((one (terminal'.Operator level'.Product)) ∷ []) _, tt))
