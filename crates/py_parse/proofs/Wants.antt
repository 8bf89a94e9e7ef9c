-- How the sets of tokens that parts begin with, and that may follow them, stand to each other. Generated from the productions.
use Rattle.std.proofs.Common.{◌≡◌, ℕ, List, [], ◌∷◌, Bool, true, false, ◌||◌, refl}
use Rattle.py_token.specs.declared.keyword.Keyword.TheVariants as keyword'
use Rattle.py_token.specs.declared.mark.Mark.TheVariants as mark'
use Rattle.py_token.specs.declared.token.TokenKind.{TokenKind}
use Rattle.py_parse.specs.declared.level.Level.TheVariants as level'
use Rattle.py_parse.specs.declared.terminal.Terminal.TheVariants as terminal'
use Rattle.py_parse.specs.Terminals.{Want, one, fresh, fits}
use Rattle.py_parse.specs.Grammar as g
use Rattle.py_parse.proofs.Follow.{any_fits, every_kind, excludes, covers, excluded, covered, s_free, s_pieces, s_atom, s_product, s_sum, s_cmp, s_and, s_plain, s_expr, s_items, s_args, s_names, s_tests, s_upper, s_small, s_line, s_script, f_atom, f_unary, f_neg, f_small, f_line}
use Rattle.std.specs.Prelude.{not}

abbrev implies : List Want → List Want → TokenKind → Bool
implies ws vs k = not (any_fits ws k) || any_fits vs k

implied : (a b : Bool) → (not a || b) ≡ true → a ≡ true → b ≡ true
implied true b h e = h
implied false b h e = cc

one_of : (a : Bool) → (a || false) ≡ true → a ≡ true
one_of true h = refl
one_of false h = h

pub only : (w : Want) (k : TokenKind) → any_fits (w ∷ []) k ≡ true → fits w k ≡ true
only w k h = one_of (fits w k) h

pub among_0 : (k : TokenKind) → any_fits f_atom k ≡ true → any_fits f_unary k ≡ true
among_0 k = implied _ _ (every_kind (implies f_atom f_unary) refl refl (λ n. refl) (λ n. refl) (λ n. refl) refl (λ n. refl) refl refl refl refl k)

pub among_1 : (k : TokenKind) → any_fits f_unary k ≡ true → any_fits f_neg k ≡ true
among_1 k = implied _ _ (every_kind (implies f_unary f_neg) refl refl (λ n. refl) (λ n. refl) (λ n. refl) refl (λ n. refl) refl refl refl refl k)

pub among_2 : (k : TokenKind) → any_fits f_neg k ≡ true → any_fits f_small k ≡ true
among_2 k = implied _ _ (every_kind (implies f_neg f_small) refl refl (λ n. refl) (λ n. refl) (λ n. refl) refl (λ n. refl) refl refl refl refl k)

pub among_3 : (k : TokenKind) → any_fits f_small k ≡ true → any_fits f_line k ≡ true
among_3 k = implied _ _ (every_kind (implies f_small f_line) refl refl (λ n. refl) (λ n. refl) (λ n. refl) refl (λ n. refl) refl refl refl refl k)

pub among_4 : (k : TokenKind) → any_fits ((g.mark mark'.Comma) ∷ []) k ≡ true → any_fits ((g.keyword keyword'.For) ∷ (g.mark mark'.Comma) ∷ (g.mark mark'.CloseBracket) ∷ []) k ≡ true
among_4 k = implied _ _ (every_kind (implies ((g.mark mark'.Comma) ∷ []) ((g.keyword keyword'.For) ∷ (g.mark mark'.Comma) ∷ (g.mark mark'.CloseBracket) ∷ [])) refl refl (λ n. refl) (λ n. refl) (λ n. refl) refl (λ n. refl) refl refl refl refl k)

pub among_5 : (k : TokenKind) → any_fits f_line k ≡ true → any_fits ((one terminal'.Dedent) ∷ (g.keyword keyword'.If) ∷ (g.keyword keyword'.For) ∷ (g.keyword keyword'.While) ∷ (g.keyword keyword'.Def) ∷ (g.keyword keyword'.Pass) ∷ (g.keyword keyword'.From) ∷ (g.keyword keyword'.Break) ∷ (g.keyword keyword'.Continue) ∷ (g.keyword keyword'.Return) ∷ (g.keyword keyword'.Not) ∷ (g.mark mark'.Minus) ∷ (one terminal'.Bracket) ∷ (one terminal'.Text) ∷ (one terminal'.FStart) ∷ (one terminal'.Leaf) ∷ []) k ≡ true
among_5 k = implied _ _ (every_kind (implies f_line ((one terminal'.Dedent) ∷ (g.keyword keyword'.If) ∷ (g.keyword keyword'.For) ∷ (g.keyword keyword'.While) ∷ (g.keyword keyword'.Def) ∷ (g.keyword keyword'.Pass) ∷ (g.keyword keyword'.From) ∷ (g.keyword keyword'.Break) ∷ (g.keyword keyword'.Continue) ∷ (g.keyword keyword'.Return) ∷ (g.keyword keyword'.Not) ∷ (g.mark mark'.Minus) ∷ (one terminal'.Bracket) ∷ (one terminal'.Text) ∷ (one terminal'.FStart) ∷ (one terminal'.Leaf) ∷ [])) refl refl (λ n. refl) (λ n. refl) (λ n. refl) refl (λ n. refl) refl refl refl refl k)

pub apart_6 : (k : TokenKind) → any_fits f_line k ≡ true → any_fits s_line k ≡ false
apart_6 k = excluded _ _ (every_kind (excludes f_line s_line) refl refl (λ n. refl) (λ n. refl) (λ n. refl) refl (λ n. refl) refl refl refl refl k)

pub less_7 : (k : TokenKind) → any_fits s_script k ≡ false → any_fits s_line k ≡ false
less_7 k = covered _ _ (every_kind (covers s_script s_line) refl refl (λ n. refl) (λ n. refl) (λ n. refl) refl (λ n. refl) refl refl refl refl k)

pub less_8 : (k : TokenKind) → any_fits s_script k ≡ false → any_fits s_script k ≡ false
less_8 k = covered _ _ (every_kind (covers s_script s_script) refl refl (λ n. refl) (λ n. refl) (λ n. refl) refl (λ n. refl) refl refl refl refl k)

pub less_9 : (k : TokenKind) → any_fits s_line k ≡ false → any_fits s_free k ≡ false
less_9 k = covered _ _ (every_kind (covers s_line s_free) refl refl (λ n. refl) (λ n. refl) (λ n. refl) refl (λ n. refl) refl refl refl refl k)

pub apart_10 : (k : TokenKind) → any_fits ((g.mark mark'.Colon) ∷ []) k ≡ true → any_fits s_free k ≡ false
apart_10 k = excluded _ _ (every_kind (excludes ((g.mark mark'.Colon) ∷ []) s_free) refl refl (λ n. refl) (λ n. refl) (λ n. refl) refl (λ n. refl) refl refl refl refl k)

pub apart_11 : (k : TokenKind) → any_fits ((g.keyword keyword'.In) ∷ []) k ≡ true → any_fits s_names k ≡ false
apart_11 k = excluded _ _ (every_kind (excludes ((g.keyword keyword'.In) ∷ []) s_names) refl refl (λ n. refl) (λ n. refl) (λ n. refl) refl (λ n. refl) refl refl refl refl k)

pub apart_12 : (k : TokenKind) → any_fits ((g.mark mark'.Colon) ∷ []) k ≡ true → any_fits s_items k ≡ false
apart_12 k = excluded _ _ (every_kind (excludes ((g.mark mark'.Colon) ∷ []) s_items) refl refl (λ n. refl) (λ n. refl) (λ n. refl) refl (λ n. refl) refl refl refl refl k)

pub apart_13 : (k : TokenKind) → any_fits ((g.mark mark'.Colon) ∷ []) k ≡ true → any_fits s_expr k ≡ false
apart_13 k = excluded _ _ (every_kind (excludes ((g.mark mark'.Colon) ∷ []) s_expr) refl refl (λ n. refl) (λ n. refl) (λ n. refl) refl (λ n. refl) refl refl refl refl k)

pub apart_14 : (k : TokenKind) → any_fits ((g.keyword keyword'.Elif) ∷ (g.keyword keyword'.Else) ∷ []) k ≡ true → any_fits s_free k ≡ false
apart_14 k = excluded _ _ (every_kind (excludes ((g.keyword keyword'.Elif) ∷ (g.keyword keyword'.Else) ∷ []) s_free) refl refl (λ n. refl) (λ n. refl) (λ n. refl) refl (λ n. refl) refl refl refl refl k)

pub less_15 : (k : TokenKind) → any_fits s_line k ≡ false → any_fits s_line k ≡ false
less_15 k = covered _ _ (every_kind (covers s_line s_line) refl refl (λ n. refl) (λ n. refl) (λ n. refl) refl (λ n. refl) refl refl refl refl k)

pub less_16 : (k : TokenKind) → any_fits s_free k ≡ false → any_fits s_free k ≡ false
less_16 k = covered _ _ (every_kind (covers s_free s_free) refl refl (λ n. refl) (λ n. refl) (λ n. refl) refl (λ n. refl) refl refl refl refl k)

pub apart_17 : (k : TokenKind) → any_fits ((one terminal'.Dedent) ∷ (g.keyword keyword'.If) ∷ (g.keyword keyword'.For) ∷ (g.keyword keyword'.While) ∷ (g.keyword keyword'.Def) ∷ (g.keyword keyword'.Pass) ∷ (g.keyword keyword'.From) ∷ (g.keyword keyword'.Break) ∷ (g.keyword keyword'.Continue) ∷ (g.keyword keyword'.Return) ∷ (g.keyword keyword'.Not) ∷ (g.mark mark'.Minus) ∷ (one terminal'.Bracket) ∷ (one terminal'.Text) ∷ (one terminal'.FStart) ∷ (one terminal'.Leaf) ∷ []) k ≡ true → any_fits s_line k ≡ false
apart_17 k = excluded _ _ (every_kind (excludes ((one terminal'.Dedent) ∷ (g.keyword keyword'.If) ∷ (g.keyword keyword'.For) ∷ (g.keyword keyword'.While) ∷ (g.keyword keyword'.Def) ∷ (g.keyword keyword'.Pass) ∷ (g.keyword keyword'.From) ∷ (g.keyword keyword'.Break) ∷ (g.keyword keyword'.Continue) ∷ (g.keyword keyword'.Return) ∷ (g.keyword keyword'.Not) ∷ (g.mark mark'.Minus) ∷ (one terminal'.Bracket) ∷ (one terminal'.Text) ∷ (one terminal'.FStart) ∷ (one terminal'.Leaf) ∷ []) s_line) refl refl (λ n. refl) (λ n. refl) (λ n. refl) refl (λ n. refl) refl refl refl refl k)

pub apart_18 : (k : TokenKind) → any_fits ((one terminal'.Newline) ∷ (g.mark mark'.Semicolon) ∷ []) k ≡ true → any_fits s_small k ≡ false
apart_18 k = excluded _ _ (every_kind (excludes ((one terminal'.Newline) ∷ (g.mark mark'.Semicolon) ∷ []) s_small) refl refl (λ n. refl) (λ n. refl) (λ n. refl) refl (λ n. refl) refl refl refl refl k)

pub apart_19 : (k : TokenKind) → any_fits ((g.mark mark'.Assign) ∷ (one terminal'.Augment) ∷ []) k ≡ true → any_fits s_items k ≡ false
apart_19 k = excluded _ _ (every_kind (excludes ((g.mark mark'.Assign) ∷ (one terminal'.Augment) ∷ []) s_items) refl refl (λ n. refl) (λ n. refl) (λ n. refl) refl (λ n. refl) refl refl refl refl k)

pub less_20 : (k : TokenKind) → any_fits s_small k ≡ false → any_fits s_items k ≡ false
less_20 k = covered _ _ (every_kind (covers s_small s_items) refl refl (λ n. refl) (λ n. refl) (λ n. refl) refl (λ n. refl) refl refl refl refl k)

pub less_21 : (k : TokenKind) → any_fits s_small k ≡ false → any_fits s_small k ≡ false
less_21 k = covered _ _ (every_kind (covers s_small s_small) refl refl (λ n. refl) (λ n. refl) (λ n. refl) refl (λ n. refl) refl refl refl refl k)

pub less_22 : (k : TokenKind) → any_fits s_items k ≡ false → any_fits s_items k ≡ false
less_22 k = covered _ _ (every_kind (covers s_items s_items) refl refl (λ n. refl) (λ n. refl) (λ n. refl) refl (λ n. refl) refl refl refl refl k)

pub apart_23 : (k : TokenKind) → any_fits ((g.mark mark'.CloseParen) ∷ []) k ≡ true → any_fits s_args k ≡ false
apart_23 k = excluded _ _ (every_kind (excludes ((g.mark mark'.CloseParen) ∷ []) s_args) refl refl (λ n. refl) (λ n. refl) (λ n. refl) refl (λ n. refl) refl refl refl refl k)

pub less_24 : (k : TokenKind) → any_fits s_args k ≡ false → any_fits s_args k ≡ false
less_24 k = covered _ _ (every_kind (covers s_args s_args) refl refl (λ n. refl) (λ n. refl) (λ n. refl) refl (λ n. refl) refl refl refl refl k)

pub apart_25 : (k : TokenKind) → any_fits ((g.mark mark'.Comma) ∷ []) k ≡ true → any_fits s_expr k ≡ false
apart_25 k = excluded _ _ (every_kind (excludes ((g.mark mark'.Comma) ∷ []) s_expr) refl refl (λ n. refl) (λ n. refl) (λ n. refl) refl (λ n. refl) refl refl refl refl k)

pub less_26 : (k : TokenKind) → any_fits s_args k ≡ false → any_fits s_expr k ≡ false
less_26 k = covered _ _ (every_kind (covers s_args s_expr) refl refl (λ n. refl) (λ n. refl) (λ n. refl) refl (λ n. refl) refl refl refl refl k)

pub less_27 : (k : TokenKind) → any_fits s_items k ≡ false → any_fits s_expr k ≡ false
less_27 k = covered _ _ (every_kind (covers s_items s_expr) refl refl (λ n. refl) (λ n. refl) (λ n. refl) refl (λ n. refl) refl refl refl refl k)

pub less_28 : (k : TokenKind) → any_fits s_cmp k ≡ false → any_fits s_cmp k ≡ false
less_28 k = covered _ _ (every_kind (covers s_cmp s_cmp) refl refl (λ n. refl) (λ n. refl) (λ n. refl) refl (λ n. refl) refl refl refl refl k)

pub apart_29 : (k : TokenKind) → any_fits ((g.keyword keyword'.Not) ∷ (g.keyword keyword'.Is) ∷ (one terminal'.Comparison) ∷ []) k ≡ true → any_fits s_sum k ≡ false
apart_29 k = excluded _ _ (every_kind (excludes ((g.keyword keyword'.Not) ∷ (g.keyword keyword'.Is) ∷ (one terminal'.Comparison) ∷ []) s_sum) refl refl (λ n. refl) (λ n. refl) (λ n. refl) refl (λ n. refl) refl refl refl refl k)

pub less_30 : (k : TokenKind) → any_fits s_cmp k ≡ false → any_fits s_sum k ≡ false
less_30 k = covered _ _ (every_kind (covers s_cmp s_sum) refl refl (λ n. refl) (λ n. refl) (λ n. refl) refl (λ n. refl) refl refl refl refl k)

pub less_31 : (k : TokenKind) → any_fits s_cmp k ≡ false → any_fits s_free k ≡ false
less_31 k = covered _ _ (every_kind (covers s_cmp s_free) refl refl (λ n. refl) (λ n. refl) (λ n. refl) refl (λ n. refl) refl refl refl refl k)

pub less_32 : (k : TokenKind) → any_fits s_atom k ≡ false → any_fits s_atom k ≡ false
less_32 k = covered _ _ (every_kind (covers s_atom s_atom) refl refl (λ n. refl) (λ n. refl) (λ n. refl) refl (λ n. refl) refl refl refl refl k)

pub apart_33 : (k : TokenKind) → any_fits ((g.mark mark'.OpenParen) ∷ (g.mark mark'.OpenBracket) ∷ (g.mark mark'.Dot) ∷ []) k ≡ true → any_fits s_free k ≡ false
apart_33 k = excluded _ _ (every_kind (excludes ((g.mark mark'.OpenParen) ∷ (g.mark mark'.OpenBracket) ∷ (g.mark mark'.Dot) ∷ []) s_free) refl refl (λ n. refl) (λ n. refl) (λ n. refl) refl (λ n. refl) refl refl refl refl k)

pub less_34 : (k : TokenKind) → any_fits s_atom k ≡ false → any_fits s_free k ≡ false
less_34 k = covered _ _ (every_kind (covers s_atom s_free) refl refl (λ n. refl) (λ n. refl) (λ n. refl) refl (λ n. refl) refl refl refl refl k)

pub apart_35 : (k : TokenKind) → any_fits ((g.mark mark'.CloseParen) ∷ []) k ≡ true → any_fits s_items k ≡ false
apart_35 k = excluded _ _ (every_kind (excludes ((g.mark mark'.CloseParen) ∷ []) s_items) refl refl (λ n. refl) (λ n. refl) (λ n. refl) refl (λ n. refl) refl refl refl refl k)

pub apart_36 : (k : TokenKind) → any_fits ((g.keyword keyword'.For) ∷ (g.mark mark'.Comma) ∷ (g.mark mark'.CloseBracket) ∷ []) k ≡ true → any_fits s_expr k ≡ false
apart_36 k = excluded _ _ (every_kind (excludes ((g.keyword keyword'.For) ∷ (g.mark mark'.Comma) ∷ (g.mark mark'.CloseBracket) ∷ []) s_expr) refl refl (λ n. refl) (λ n. refl) (λ n. refl) refl (λ n. refl) refl refl refl refl k)

pub apart_37 : (k : TokenKind) → any_fits ((g.mark mark'.CloseBracket) ∷ []) k ≡ true → any_fits s_items k ≡ false
apart_37 k = excluded _ _ (every_kind (excludes ((g.mark mark'.CloseBracket) ∷ []) s_items) refl refl (λ n. refl) (λ n. refl) (λ n. refl) refl (λ n. refl) refl refl refl refl k)

pub apart_38 : (k : TokenKind) → any_fits ((g.keyword keyword'.If) ∷ []) k ≡ true → any_fits s_plain k ≡ false
apart_38 k = excluded _ _ (every_kind (excludes ((g.keyword keyword'.If) ∷ []) s_plain) refl refl (λ n. refl) (λ n. refl) (λ n. refl) refl (λ n. refl) refl refl refl refl k)

pub apart_39 : (k : TokenKind) → any_fits ((g.mark mark'.CloseBracket) ∷ []) k ≡ true → any_fits s_plain k ≡ false
apart_39 k = excluded _ _ (every_kind (excludes ((g.mark mark'.CloseBracket) ∷ []) s_plain) refl refl (λ n. refl) (λ n. refl) (λ n. refl) refl (λ n. refl) refl refl refl refl k)

pub apart_40 : (k : TokenKind) → any_fits ((g.mark mark'.CloseBracket) ∷ []) k ≡ true → any_fits s_tests k ≡ false
apart_40 k = excluded _ _ (every_kind (excludes ((g.mark mark'.CloseBracket) ∷ []) s_tests) refl refl (λ n. refl) (λ n. refl) (λ n. refl) refl (λ n. refl) refl refl refl refl k)

pub less_41 : (k : TokenKind) → any_fits s_names k ≡ false → any_fits s_names k ≡ false
less_41 k = covered _ _ (every_kind (covers s_names s_names) refl refl (λ n. refl) (λ n. refl) (λ n. refl) refl (λ n. refl) refl refl refl refl k)

pub less_42 : (k : TokenKind) → any_fits s_tests k ≡ false → any_fits s_plain k ≡ false
less_42 k = covered _ _ (every_kind (covers s_tests s_plain) refl refl (λ n. refl) (λ n. refl) (λ n. refl) refl (λ n. refl) refl refl refl refl k)

pub less_43 : (k : TokenKind) → any_fits s_tests k ≡ false → any_fits s_tests k ≡ false
less_43 k = covered _ _ (every_kind (covers s_tests s_tests) refl refl (λ n. refl) (λ n. refl) (λ n. refl) refl (λ n. refl) refl refl refl refl k)

pub apart_44 : (k : TokenKind) → any_fits ((g.mark mark'.CloseBrace) ∷ []) k ≡ true → any_fits s_items k ≡ false
apart_44 k = excluded _ _ (every_kind (excludes ((g.mark mark'.CloseBrace) ∷ []) s_items) refl refl (λ n. refl) (λ n. refl) (λ n. refl) refl (λ n. refl) refl refl refl refl k)

pub less_45 : (k : TokenKind) → any_fits s_expr k ≡ false → any_fits s_expr k ≡ false
less_45 k = covered _ _ (every_kind (covers s_expr s_expr) refl refl (λ n. refl) (λ n. refl) (λ n. refl) refl (λ n. refl) refl refl refl refl k)

pub apart_46 : (k : TokenKind) → any_fits ((g.mark mark'.Colon) ∷ (g.mark mark'.CloseBracket) ∷ []) k ≡ true → any_fits s_expr k ≡ false
apart_46 k = excluded _ _ (every_kind (excludes ((g.mark mark'.Colon) ∷ (g.mark mark'.CloseBracket) ∷ []) s_expr) refl refl (λ n. refl) (λ n. refl) (λ n. refl) refl (λ n. refl) refl refl refl refl k)

pub apart_47 : (k : TokenKind) → any_fits ((g.mark mark'.CloseBracket) ∷ []) k ≡ true → any_fits s_upper k ≡ false
apart_47 k = excluded _ _ (every_kind (excludes ((g.mark mark'.CloseBracket) ∷ []) s_upper) refl refl (λ n. refl) (λ n. refl) (λ n. refl) refl (λ n. refl) refl refl refl refl k)

pub less_48 : (k : TokenKind) → any_fits s_upper k ≡ false → any_fits s_expr k ≡ false
less_48 k = covered _ _ (every_kind (covers s_upper s_expr) refl refl (λ n. refl) (λ n. refl) (λ n. refl) refl (λ n. refl) refl refl refl refl k)

pub apart_49 : (k : TokenKind) → any_fits ((g.mark mark'.Assign) ∷ (g.mark mark'.Comma) ∷ []) k ≡ true → any_fits s_expr k ≡ false
apart_49 k = excluded _ _ (every_kind (excludes ((g.mark mark'.Assign) ∷ (g.mark mark'.Comma) ∷ []) s_expr) refl refl (λ n. refl) (λ n. refl) (λ n. refl) refl (λ n. refl) refl refl refl refl k)

pub apart_50 : (k : TokenKind) → any_fits ((one (terminal'.Operator level'.Or)) ∷ []) k ≡ true → any_fits s_and k ≡ false
apart_50 k = excluded _ _ (every_kind (excludes ((one (terminal'.Operator level'.Or)) ∷ []) s_and) refl refl (λ n. refl) (λ n. refl) (λ n. refl) refl (λ n. refl) refl refl refl refl k)

pub less_51 : (k : TokenKind) → any_fits s_plain k ≡ false → any_fits s_and k ≡ false
less_51 k = covered _ _ (every_kind (covers s_plain s_and) refl refl (λ n. refl) (λ n. refl) (λ n. refl) refl (λ n. refl) refl refl refl refl k)

pub apart_52 : (k : TokenKind) → any_fits ((one (terminal'.Operator level'.And)) ∷ []) k ≡ true → any_fits s_cmp k ≡ false
apart_52 k = excluded _ _ (every_kind (excludes ((one (terminal'.Operator level'.And)) ∷ []) s_cmp) refl refl (λ n. refl) (λ n. refl) (λ n. refl) refl (λ n. refl) refl refl refl refl k)

pub less_53 : (k : TokenKind) → any_fits s_and k ≡ false → any_fits s_cmp k ≡ false
less_53 k = covered _ _ (every_kind (covers s_and s_cmp) refl refl (λ n. refl) (λ n. refl) (λ n. refl) refl (λ n. refl) refl refl refl refl k)

pub apart_54 : (k : TokenKind) → any_fits ((one (terminal'.Operator level'.Sum)) ∷ []) k ≡ true → any_fits s_product k ≡ false
apart_54 k = excluded _ _ (every_kind (excludes ((one (terminal'.Operator level'.Sum)) ∷ []) s_product) refl refl (λ n. refl) (λ n. refl) (λ n. refl) refl (λ n. refl) refl refl refl refl k)

pub less_55 : (k : TokenKind) → any_fits s_sum k ≡ false → any_fits s_product k ≡ false
less_55 k = covered _ _ (every_kind (covers s_sum s_product) refl refl (λ n. refl) (λ n. refl) (λ n. refl) refl (λ n. refl) refl refl refl refl k)

pub apart_56 : (k : TokenKind) → any_fits ((one (terminal'.Operator level'.Product)) ∷ []) k ≡ true → any_fits s_atom k ≡ false
apart_56 k = excluded _ _ (every_kind (excludes ((one (terminal'.Operator level'.Product)) ∷ []) s_atom) refl refl (λ n. refl) (λ n. refl) (λ n. refl) refl (λ n. refl) refl refl refl refl k)

pub less_57 : (k : TokenKind) → any_fits s_product k ≡ false → any_fits s_atom k ≡ false
less_57 k = covered _ _ (every_kind (covers s_product s_atom) refl refl (λ n. refl) (λ n. refl) (λ n. refl) refl (λ n. refl) refl refl refl refl k)

pub less_58 : (k : TokenKind) → any_fits s_script k ≡ false → any_fits ((one terminal'.Any) ∷ []) k ≡ false
less_58 k = covered _ _ (every_kind (covers s_script ((one terminal'.Any) ∷ [])) refl refl (λ n. refl) (λ n. refl) (λ n. refl) refl (λ n. refl) refl refl refl refl k)

pub single_59 : (k : TokenKind) → any_fits f_line k ≡ true → fits (one terminal'.Any) k ≡ true
single_59 k = implied _ _ (every_kind (λ v. not (any_fits f_line v) || fits (one terminal'.Any) v) refl refl (λ n. refl) (λ n. refl) (λ n. refl) refl (λ n. refl) refl refl refl refl k)

pub apart_60 : (k : TokenKind) → any_fits f_small k ≡ true → any_fits ((g.keyword keyword'.If) ∷ []) k ≡ false
apart_60 k = excluded _ _ (every_kind (excludes f_small ((g.keyword keyword'.If) ∷ [])) refl refl (λ n. refl) (λ n. refl) (λ n. refl) refl (λ n. refl) refl refl refl refl k)

pub apart_61 : (k : TokenKind) → any_fits ((g.keyword keyword'.Def) ∷ []) k ≡ true → any_fits ((g.keyword keyword'.If) ∷ []) k ≡ false
apart_61 k = excluded _ _ (every_kind (excludes ((g.keyword keyword'.Def) ∷ []) ((g.keyword keyword'.If) ∷ [])) refl refl (λ n. refl) (λ n. refl) (λ n. refl) refl (λ n. refl) refl refl refl refl k)

pub apart_62 : (k : TokenKind) → any_fits ((g.keyword keyword'.For) ∷ []) k ≡ true → any_fits ((g.keyword keyword'.If) ∷ []) k ≡ false
apart_62 k = excluded _ _ (every_kind (excludes ((g.keyword keyword'.For) ∷ []) ((g.keyword keyword'.If) ∷ [])) refl refl (λ n. refl) (λ n. refl) (λ n. refl) refl (λ n. refl) refl refl refl refl k)

pub apart_63 : (k : TokenKind) → any_fits f_small k ≡ true → any_fits ((g.keyword keyword'.For) ∷ []) k ≡ false
apart_63 k = excluded _ _ (every_kind (excludes f_small ((g.keyword keyword'.For) ∷ [])) refl refl (λ n. refl) (λ n. refl) (λ n. refl) refl (λ n. refl) refl refl refl refl k)

pub apart_64 : (k : TokenKind) → any_fits ((g.keyword keyword'.Def) ∷ []) k ≡ true → any_fits ((g.keyword keyword'.For) ∷ []) k ≡ false
apart_64 k = excluded _ _ (every_kind (excludes ((g.keyword keyword'.Def) ∷ []) ((g.keyword keyword'.For) ∷ [])) refl refl (λ n. refl) (λ n. refl) (λ n. refl) refl (λ n. refl) refl refl refl refl k)

pub apart_65 : (k : TokenKind) → any_fits f_small k ≡ true → any_fits ((g.keyword keyword'.Def) ∷ []) k ≡ false
apart_65 k = excluded _ _ (every_kind (excludes f_small ((g.keyword keyword'.Def) ∷ [])) refl refl (λ n. refl) (λ n. refl) (λ n. refl) refl (λ n. refl) refl refl refl refl k)

pub less_66 : (k : TokenKind) → any_fits s_line k ≡ false → any_fits ((g.keyword keyword'.Elif) ∷ []) k ≡ false
less_66 k = covered _ _ (every_kind (covers s_line ((g.keyword keyword'.Elif) ∷ [])) refl refl (λ n. refl) (λ n. refl) (λ n. refl) refl (λ n. refl) refl refl refl refl k)

pub apart_67 : (k : TokenKind) → any_fits ((g.keyword keyword'.Else) ∷ []) k ≡ true → any_fits ((g.keyword keyword'.Elif) ∷ []) k ≡ false
apart_67 k = excluded _ _ (every_kind (excludes ((g.keyword keyword'.Else) ∷ []) ((g.keyword keyword'.Elif) ∷ [])) refl refl (λ n. refl) (λ n. refl) (λ n. refl) refl (λ n. refl) refl refl refl refl k)

pub less_68 : (k : TokenKind) → any_fits s_line k ≡ false → any_fits ((g.keyword keyword'.Else) ∷ []) k ≡ false
less_68 k = covered _ _ (every_kind (covers s_line ((g.keyword keyword'.Else) ∷ [])) refl refl (λ n. refl) (λ n. refl) (λ n. refl) refl (λ n. refl) refl refl refl refl k)

pub apart_69 : (k : TokenKind) → any_fits f_small k ≡ true → any_fits ((one terminal'.Newline) ∷ []) k ≡ false
apart_69 k = excluded _ _ (every_kind (excludes f_small ((one terminal'.Newline) ∷ [])) refl refl (λ n. refl) (λ n. refl) (λ n. refl) refl (λ n. refl) refl refl refl refl k)

pub apart_70 : (k : TokenKind) → any_fits f_line k ≡ true → any_fits ((one terminal'.Dedent) ∷ []) k ≡ false
apart_70 k = excluded _ _ (every_kind (excludes f_line ((one terminal'.Dedent) ∷ [])) refl refl (λ n. refl) (λ n. refl) (λ n. refl) refl (λ n. refl) refl refl refl refl k)

pub apart_71 : (k : TokenKind) → any_fits ((g.mark mark'.Semicolon) ∷ []) k ≡ true → any_fits ((one terminal'.Newline) ∷ []) k ≡ false
apart_71 k = excluded _ _ (every_kind (excludes ((g.mark mark'.Semicolon) ∷ []) ((one terminal'.Newline) ∷ [])) refl refl (λ n. refl) (λ n. refl) (λ n. refl) refl (λ n. refl) refl refl refl refl k)

pub apart_72 : (k : TokenKind) → any_fits f_neg k ≡ true → any_fits ((g.keyword keyword'.Pass) ∷ []) k ≡ false
apart_72 k = excluded _ _ (every_kind (excludes f_neg ((g.keyword keyword'.Pass) ∷ [])) refl refl (λ n. refl) (λ n. refl) (λ n. refl) refl (λ n. refl) refl refl refl refl k)

pub apart_73 : (k : TokenKind) → any_fits ((g.keyword keyword'.Return) ∷ []) k ≡ true → any_fits ((g.keyword keyword'.Pass) ∷ []) k ≡ false
apart_73 k = excluded _ _ (every_kind (excludes ((g.keyword keyword'.Return) ∷ []) ((g.keyword keyword'.Pass) ∷ [])) refl refl (λ n. refl) (λ n. refl) (λ n. refl) refl (λ n. refl) refl refl refl refl k)

pub apart_74 : (k : TokenKind) → any_fits ((g.keyword keyword'.Continue) ∷ []) k ≡ true → any_fits ((g.keyword keyword'.Pass) ∷ []) k ≡ false
apart_74 k = excluded _ _ (every_kind (excludes ((g.keyword keyword'.Continue) ∷ []) ((g.keyword keyword'.Pass) ∷ [])) refl refl (λ n. refl) (λ n. refl) (λ n. refl) refl (λ n. refl) refl refl refl refl k)

pub apart_75 : (k : TokenKind) → any_fits ((g.keyword keyword'.Break) ∷ []) k ≡ true → any_fits ((g.keyword keyword'.Pass) ∷ []) k ≡ false
apart_75 k = excluded _ _ (every_kind (excludes ((g.keyword keyword'.Break) ∷ []) ((g.keyword keyword'.Pass) ∷ [])) refl refl (λ n. refl) (λ n. refl) (λ n. refl) refl (λ n. refl) refl refl refl refl k)

pub apart_76 : (k : TokenKind) → any_fits ((g.keyword keyword'.From) ∷ []) k ≡ true → any_fits ((g.keyword keyword'.Pass) ∷ []) k ≡ false
apart_76 k = excluded _ _ (every_kind (excludes ((g.keyword keyword'.From) ∷ []) ((g.keyword keyword'.Pass) ∷ [])) refl refl (λ n. refl) (λ n. refl) (λ n. refl) refl (λ n. refl) refl refl refl refl k)

pub apart_77 : (k : TokenKind) → any_fits f_neg k ≡ true → any_fits ((g.keyword keyword'.From) ∷ []) k ≡ false
apart_77 k = excluded _ _ (every_kind (excludes f_neg ((g.keyword keyword'.From) ∷ [])) refl refl (λ n. refl) (λ n. refl) (λ n. refl) refl (λ n. refl) refl refl refl refl k)

pub apart_78 : (k : TokenKind) → any_fits ((g.keyword keyword'.Return) ∷ []) k ≡ true → any_fits ((g.keyword keyword'.From) ∷ []) k ≡ false
apart_78 k = excluded _ _ (every_kind (excludes ((g.keyword keyword'.Return) ∷ []) ((g.keyword keyword'.From) ∷ [])) refl refl (λ n. refl) (λ n. refl) (λ n. refl) refl (λ n. refl) refl refl refl refl k)

pub apart_79 : (k : TokenKind) → any_fits ((g.keyword keyword'.Continue) ∷ []) k ≡ true → any_fits ((g.keyword keyword'.From) ∷ []) k ≡ false
apart_79 k = excluded _ _ (every_kind (excludes ((g.keyword keyword'.Continue) ∷ []) ((g.keyword keyword'.From) ∷ [])) refl refl (λ n. refl) (λ n. refl) (λ n. refl) refl (λ n. refl) refl refl refl refl k)

pub apart_80 : (k : TokenKind) → any_fits ((g.keyword keyword'.Break) ∷ []) k ≡ true → any_fits ((g.keyword keyword'.From) ∷ []) k ≡ false
apart_80 k = excluded _ _ (every_kind (excludes ((g.keyword keyword'.Break) ∷ []) ((g.keyword keyword'.From) ∷ [])) refl refl (λ n. refl) (λ n. refl) (λ n. refl) refl (λ n. refl) refl refl refl refl k)

pub apart_81 : (k : TokenKind) → any_fits f_neg k ≡ true → any_fits ((g.keyword keyword'.Break) ∷ []) k ≡ false
apart_81 k = excluded _ _ (every_kind (excludes f_neg ((g.keyword keyword'.Break) ∷ [])) refl refl (λ n. refl) (λ n. refl) (λ n. refl) refl (λ n. refl) refl refl refl refl k)

pub apart_82 : (k : TokenKind) → any_fits ((g.keyword keyword'.Return) ∷ []) k ≡ true → any_fits ((g.keyword keyword'.Break) ∷ []) k ≡ false
apart_82 k = excluded _ _ (every_kind (excludes ((g.keyword keyword'.Return) ∷ []) ((g.keyword keyword'.Break) ∷ [])) refl refl (λ n. refl) (λ n. refl) (λ n. refl) refl (λ n. refl) refl refl refl refl k)

pub apart_83 : (k : TokenKind) → any_fits ((g.keyword keyword'.Continue) ∷ []) k ≡ true → any_fits ((g.keyword keyword'.Break) ∷ []) k ≡ false
apart_83 k = excluded _ _ (every_kind (excludes ((g.keyword keyword'.Continue) ∷ []) ((g.keyword keyword'.Break) ∷ [])) refl refl (λ n. refl) (λ n. refl) (λ n. refl) refl (λ n. refl) refl refl refl refl k)

pub apart_84 : (k : TokenKind) → any_fits f_neg k ≡ true → any_fits ((g.keyword keyword'.Continue) ∷ []) k ≡ false
apart_84 k = excluded _ _ (every_kind (excludes f_neg ((g.keyword keyword'.Continue) ∷ [])) refl refl (λ n. refl) (λ n. refl) (λ n. refl) refl (λ n. refl) refl refl refl refl k)

pub apart_85 : (k : TokenKind) → any_fits ((g.keyword keyword'.Return) ∷ []) k ≡ true → any_fits ((g.keyword keyword'.Continue) ∷ []) k ≡ false
apart_85 k = excluded _ _ (every_kind (excludes ((g.keyword keyword'.Return) ∷ []) ((g.keyword keyword'.Continue) ∷ [])) refl refl (λ n. refl) (λ n. refl) (λ n. refl) refl (λ n. refl) refl refl refl refl k)

pub apart_86 : (k : TokenKind) → any_fits f_neg k ≡ true → any_fits ((g.keyword keyword'.Return) ∷ []) k ≡ false
apart_86 k = excluded _ _ (every_kind (excludes f_neg ((g.keyword keyword'.Return) ∷ [])) refl refl (λ n. refl) (λ n. refl) (λ n. refl) refl (λ n. refl) refl refl refl refl k)

pub less_87 : (k : TokenKind) → any_fits s_items k ≡ false → any_fits ((one terminal'.Expression) ∷ []) k ≡ false
less_87 k = covered _ _ (every_kind (covers s_items ((one terminal'.Expression) ∷ [])) refl refl (λ n. refl) (λ n. refl) (λ n. refl) refl (λ n. refl) refl refl refl refl k)

pub single_88 : (k : TokenKind) → any_fits f_neg k ≡ true → fits (one terminal'.Expression) k ≡ true
single_88 k = implied _ _ (every_kind (λ v. not (any_fits f_neg v) || fits (one terminal'.Expression) v) refl refl (λ n. refl) (λ n. refl) (λ n. refl) refl (λ n. refl) refl refl refl refl k)

pub less_89 : (k : TokenKind) → any_fits s_small k ≡ false → any_fits ((g.mark mark'.Assign) ∷ []) k ≡ false
less_89 k = covered _ _ (every_kind (covers s_small ((g.mark mark'.Assign) ∷ [])) refl refl (λ n. refl) (λ n. refl) (λ n. refl) refl (λ n. refl) refl refl refl refl k)

pub apart_90 : (k : TokenKind) → any_fits ((one terminal'.Augment) ∷ []) k ≡ true → any_fits ((g.mark mark'.Assign) ∷ []) k ≡ false
apart_90 k = excluded _ _ (every_kind (excludes ((one terminal'.Augment) ∷ []) ((g.mark mark'.Assign) ∷ [])) refl refl (λ n. refl) (λ n. refl) (λ n. refl) refl (λ n. refl) refl refl refl refl k)

pub less_91 : (k : TokenKind) → any_fits s_small k ≡ false → any_fits ((one terminal'.Augment) ∷ []) k ≡ false
less_91 k = covered _ _ (every_kind (covers s_small ((one terminal'.Augment) ∷ [])) refl refl (λ n. refl) (λ n. refl) (λ n. refl) refl (λ n. refl) refl refl refl refl k)

pub less_92 : (seen : List (List ℕ)) (k : TokenKind) → any_fits s_args k ≡ false → any_fits ((fresh seen) ∷ []) k ≡ false
less_92 seen k = covered _ _ (every_kind (covers s_args ((fresh seen) ∷ [])) refl refl (λ n. refl) (λ n. refl) (λ n. refl) refl (λ n. refl) refl refl refl refl k)

pub less_93 : (k : TokenKind) → any_fits s_args k ≡ false → any_fits ((g.mark mark'.Assign) ∷ []) k ≡ false
less_93 k = covered _ _ (every_kind (covers s_args ((g.mark mark'.Assign) ∷ [])) refl refl (λ n. refl) (λ n. refl) (λ n. refl) refl (λ n. refl) refl refl refl refl k)

pub apart_94 : (k : TokenKind) → any_fits ((g.mark mark'.Comma) ∷ []) k ≡ true → any_fits ((g.mark mark'.Assign) ∷ []) k ≡ false
apart_94 k = excluded _ _ (every_kind (excludes ((g.mark mark'.Comma) ∷ []) ((g.mark mark'.Assign) ∷ [])) refl refl (λ n. refl) (λ n. refl) (λ n. refl) refl (λ n. refl) refl refl refl refl k)

pub less_95 : (k : TokenKind) → any_fits s_args k ≡ false → any_fits ((g.mark mark'.Comma) ∷ []) k ≡ false
less_95 k = covered _ _ (every_kind (covers s_args ((g.mark mark'.Comma) ∷ [])) refl refl (λ n. refl) (λ n. refl) (λ n. refl) refl (λ n. refl) refl refl refl refl k)

pub less_96 : (k : TokenKind) → any_fits s_items k ≡ false → any_fits ((g.mark mark'.Comma) ∷ []) k ≡ false
less_96 k = covered _ _ (every_kind (covers s_items ((g.mark mark'.Comma) ∷ [])) refl refl (λ n. refl) (λ n. refl) (λ n. refl) refl (λ n. refl) refl refl refl refl k)

pub apart_97 : (k : TokenKind) → any_fits f_unary k ≡ true → any_fits ((g.keyword keyword'.Not) ∷ []) k ≡ false
apart_97 k = excluded _ _ (every_kind (excludes f_unary ((g.keyword keyword'.Not) ∷ [])) refl refl (λ n. refl) (λ n. refl) (λ n. refl) refl (λ n. refl) refl refl refl refl k)

pub less_98 : (k : TokenKind) → any_fits s_cmp k ≡ false → any_fits ((g.keyword keyword'.Not) ∷ []) k ≡ false
less_98 k = covered _ _ (every_kind (covers s_cmp ((g.keyword keyword'.Not) ∷ [])) refl refl (λ n. refl) (λ n. refl) (λ n. refl) refl (λ n. refl) refl refl refl refl k)

pub apart_99 : (k : TokenKind) → any_fits ((one terminal'.Comparison) ∷ []) k ≡ true → any_fits ((g.keyword keyword'.Not) ∷ []) k ≡ false
apart_99 k = excluded _ _ (every_kind (excludes ((one terminal'.Comparison) ∷ []) ((g.keyword keyword'.Not) ∷ [])) refl refl (λ n. refl) (λ n. refl) (λ n. refl) refl (λ n. refl) refl refl refl refl k)

pub apart_100 : (k : TokenKind) → any_fits ((g.keyword keyword'.Is) ∷ []) k ≡ true → any_fits ((g.keyword keyword'.Not) ∷ []) k ≡ false
apart_100 k = excluded _ _ (every_kind (excludes ((g.keyword keyword'.Is) ∷ []) ((g.keyword keyword'.Not) ∷ [])) refl refl (λ n. refl) (λ n. refl) (λ n. refl) refl (λ n. refl) refl refl refl refl k)

pub less_101 : (k : TokenKind) → any_fits s_cmp k ≡ false → any_fits ((g.keyword keyword'.Is) ∷ []) k ≡ false
less_101 k = covered _ _ (every_kind (covers s_cmp ((g.keyword keyword'.Is) ∷ [])) refl refl (λ n. refl) (λ n. refl) (λ n. refl) refl (λ n. refl) refl refl refl refl k)

pub apart_102 : (k : TokenKind) → any_fits ((one terminal'.Comparison) ∷ []) k ≡ true → any_fits ((g.keyword keyword'.Is) ∷ []) k ≡ false
apart_102 k = excluded _ _ (every_kind (excludes ((one terminal'.Comparison) ∷ []) ((g.keyword keyword'.Is) ∷ [])) refl refl (λ n. refl) (λ n. refl) (λ n. refl) refl (λ n. refl) refl refl refl refl k)

pub less_103 : (k : TokenKind) → any_fits s_cmp k ≡ false → any_fits ((one terminal'.Comparison) ∷ []) k ≡ false
less_103 k = covered _ _ (every_kind (covers s_cmp ((one terminal'.Comparison) ∷ [])) refl refl (λ n. refl) (λ n. refl) (λ n. refl) refl (λ n. refl) refl refl refl refl k)

pub apart_104 : (k : TokenKind) → any_fits ((one terminal'.Constant) ∷ []) k ≡ true → any_fits ((g.keyword keyword'.Not) ∷ []) k ≡ false
apart_104 k = excluded _ _ (every_kind (excludes ((one terminal'.Constant) ∷ []) ((g.keyword keyword'.Not) ∷ [])) refl refl (λ n. refl) (λ n. refl) (λ n. refl) refl (λ n. refl) refl refl refl refl k)

pub apart_105 : (k : TokenKind) → any_fits f_atom k ≡ true → any_fits ((g.mark mark'.Minus) ∷ []) k ≡ false
apart_105 k = excluded _ _ (every_kind (excludes f_atom ((g.mark mark'.Minus) ∷ [])) refl refl (λ n. refl) (λ n. refl) (λ n. refl) refl (λ n. refl) refl refl refl refl k)

pub less_106 : (k : TokenKind) → any_fits s_atom k ≡ false → any_fits ((one terminal'.Link) ∷ []) k ≡ false
less_106 k = covered _ _ (every_kind (covers s_atom ((one terminal'.Link) ∷ [])) refl refl (λ n. refl) (λ n. refl) (λ n. refl) refl (λ n. refl) refl refl refl refl k)

pub single_107 : (k : TokenKind) → any_fits ((g.mark mark'.OpenParen) ∷ (g.mark mark'.OpenBracket) ∷ (g.mark mark'.Dot) ∷ []) k ≡ true → fits (one terminal'.Link) k ≡ true
single_107 k = implied _ _ (every_kind (λ v. not (any_fits ((g.mark mark'.OpenParen) ∷ (g.mark mark'.OpenBracket) ∷ (g.mark mark'.Dot) ∷ []) v) || fits (one terminal'.Link) v) refl refl (λ n. refl) (λ n. refl) (λ n. refl) refl (λ n. refl) refl refl refl refl k)

pub apart_108 : (k : TokenKind) → any_fits ((g.mark mark'.Dot) ∷ []) k ≡ true → any_fits ((g.mark mark'.OpenParen) ∷ []) k ≡ false
apart_108 k = excluded _ _ (every_kind (excludes ((g.mark mark'.Dot) ∷ []) ((g.mark mark'.OpenParen) ∷ [])) refl refl (λ n. refl) (λ n. refl) (λ n. refl) refl (λ n. refl) refl refl refl refl k)

pub apart_109 : (k : TokenKind) → any_fits ((g.mark mark'.OpenBracket) ∷ []) k ≡ true → any_fits ((g.mark mark'.OpenParen) ∷ []) k ≡ false
apart_109 k = excluded _ _ (every_kind (excludes ((g.mark mark'.OpenBracket) ∷ []) ((g.mark mark'.OpenParen) ∷ [])) refl refl (λ n. refl) (λ n. refl) (λ n. refl) refl (λ n. refl) refl refl refl refl k)

pub apart_110 : (k : TokenKind) → any_fits ((g.mark mark'.Dot) ∷ []) k ≡ true → any_fits ((g.mark mark'.OpenBracket) ∷ []) k ≡ false
apart_110 k = excluded _ _ (every_kind (excludes ((g.mark mark'.Dot) ∷ []) ((g.mark mark'.OpenBracket) ∷ [])) refl refl (λ n. refl) (λ n. refl) (λ n. refl) refl (λ n. refl) refl refl refl refl k)

pub apart_111 : (k : TokenKind) → any_fits ((one terminal'.Leaf) ∷ []) k ≡ true → any_fits ((one terminal'.Bracket) ∷ []) k ≡ false
apart_111 k = excluded _ _ (every_kind (excludes ((one terminal'.Leaf) ∷ []) ((one terminal'.Bracket) ∷ [])) refl refl (λ n. refl) (λ n. refl) (λ n. refl) refl (λ n. refl) refl refl refl refl k)

pub apart_112 : (k : TokenKind) → any_fits f_neg k ≡ true → any_fits ((g.mark mark'.CloseParen) ∷ []) k ≡ false
apart_112 k = excluded _ _ (every_kind (excludes f_neg ((g.mark mark'.CloseParen) ∷ [])) refl refl (λ n. refl) (λ n. refl) (λ n. refl) refl (λ n. refl) refl refl refl refl k)

pub apart_113 : (k : TokenKind) → any_fits f_neg k ≡ true → any_fits ((g.mark mark'.CloseBracket) ∷ []) k ≡ false
apart_113 k = excluded _ _ (every_kind (excludes f_neg ((g.mark mark'.CloseBracket) ∷ [])) refl refl (λ n. refl) (λ n. refl) (λ n. refl) refl (λ n. refl) refl refl refl refl k)

pub apart_114 : (k : TokenKind) → any_fits ((g.mark mark'.Comma) ∷ []) k ≡ true → any_fits ((g.keyword keyword'.For) ∷ []) k ≡ false
apart_114 k = excluded _ _ (every_kind (excludes ((g.mark mark'.Comma) ∷ []) ((g.keyword keyword'.For) ∷ [])) refl refl (λ n. refl) (λ n. refl) (λ n. refl) refl (λ n. refl) refl refl refl refl k)

pub apart_115 : (k : TokenKind) → any_fits ((g.mark mark'.CloseBracket) ∷ []) k ≡ true → any_fits ((g.keyword keyword'.For) ∷ []) k ≡ false
apart_115 k = excluded _ _ (every_kind (excludes ((g.mark mark'.CloseBracket) ∷ []) ((g.keyword keyword'.For) ∷ [])) refl refl (λ n. refl) (λ n. refl) (λ n. refl) refl (λ n. refl) refl refl refl refl k)

pub less_116 : (k : TokenKind) → any_fits s_names k ≡ false → any_fits ((g.mark mark'.Comma) ∷ []) k ≡ false
less_116 k = covered _ _ (every_kind (covers s_names ((g.mark mark'.Comma) ∷ [])) refl refl (λ n. refl) (λ n. refl) (λ n. refl) refl (λ n. refl) refl refl refl refl k)

pub less_117 : (k : TokenKind) → any_fits s_tests k ≡ false → any_fits ((g.keyword keyword'.If) ∷ []) k ≡ false
less_117 k = covered _ _ (every_kind (covers s_tests ((g.keyword keyword'.If) ∷ [])) refl refl (λ n. refl) (λ n. refl) (λ n. refl) refl (λ n. refl) refl refl refl refl k)

pub apart_118 : (k : TokenKind) → any_fits f_neg k ≡ true → any_fits ((g.mark mark'.Colon) ∷ []) k ≡ false
apart_118 k = excluded _ _ (every_kind (excludes f_neg ((g.mark mark'.Colon) ∷ [])) refl refl (λ n. refl) (λ n. refl) (λ n. refl) refl (λ n. refl) refl refl refl refl k)

pub apart_119 : (k : TokenKind) → any_fits ((g.mark mark'.CloseBracket) ∷ []) k ≡ true → any_fits ((g.mark mark'.Colon) ∷ []) k ≡ false
apart_119 k = excluded _ _ (every_kind (excludes ((g.mark mark'.CloseBracket) ∷ []) ((g.mark mark'.Colon) ∷ [])) refl refl (λ n. refl) (λ n. refl) (λ n. refl) refl (λ n. refl) refl refl refl refl k)

pub less_120 : (k : TokenKind) → any_fits s_upper k ≡ false → any_fits ((one terminal'.Expression) ∷ []) k ≡ false
less_120 k = covered _ _ (every_kind (covers s_upper ((one terminal'.Expression) ∷ [])) refl refl (λ n. refl) (λ n. refl) (λ n. refl) refl (λ n. refl) refl refl refl refl k)

pub less_121 : (k : TokenKind) → any_fits s_args k ≡ false → any_fits ((one terminal'.Expression) ∷ []) k ≡ false
less_121 k = covered _ _ (every_kind (covers s_args ((one terminal'.Expression) ∷ [])) refl refl (λ n. refl) (λ n. refl) (λ n. refl) refl (λ n. refl) refl refl refl refl k)

pub less_122 : (k : TokenKind) → any_fits s_plain k ≡ false → any_fits ((one (terminal'.Operator level'.Or)) ∷ []) k ≡ false
less_122 k = covered _ _ (every_kind (covers s_plain ((one (terminal'.Operator level'.Or)) ∷ [])) refl refl (λ n. refl) (λ n. refl) (λ n. refl) refl (λ n. refl) refl refl refl refl k)

pub less_123 : (k : TokenKind) → any_fits s_and k ≡ false → any_fits ((one (terminal'.Operator level'.And)) ∷ []) k ≡ false
less_123 k = covered _ _ (every_kind (covers s_and ((one (terminal'.Operator level'.And)) ∷ [])) refl refl (λ n. refl) (λ n. refl) (λ n. refl) refl (λ n. refl) refl refl refl refl k)

pub less_124 : (k : TokenKind) → any_fits s_sum k ≡ false → any_fits ((one (terminal'.Operator level'.Sum)) ∷ []) k ≡ false
less_124 k = covered _ _ (every_kind (covers s_sum ((one (terminal'.Operator level'.Sum)) ∷ [])) refl refl (λ n. refl) (λ n. refl) (λ n. refl) refl (λ n. refl) refl refl refl refl k)

pub less_125 : (k : TokenKind) → any_fits s_product k ≡ false → any_fits ((one (terminal'.Operator level'.Product)) ∷ []) k ≡ false
less_125 k = covered _ _ (every_kind (covers s_product ((one (terminal'.Operator level'.Product)) ∷ [])) refl refl (λ n. refl) (λ n. refl) (λ n. refl) refl (λ n. refl) refl refl refl refl k)

pub if_after_plain : (k : TokenKind) → any_fits ((g.keyword keyword'.If) ∷ []) k ≡ true → any_fits s_plain k ≡ false
if_after_plain k = excluded _ _ (every_kind (excludes ((g.keyword keyword'.If) ∷ []) s_plain) refl refl (λ n. refl) (λ n. refl) (λ n. refl) refl (λ n. refl) refl refl refl refl k)

pub expr_plain : (k : TokenKind) → any_fits s_expr k ≡ false → any_fits s_plain k ≡ false
expr_plain k = covered _ _ (every_kind (covers s_expr s_plain) refl refl (λ n. refl) (λ n. refl) (λ n. refl) refl (λ n. refl) refl refl refl refl k)

pub plain_plain : (k : TokenKind) → any_fits s_plain k ≡ false → any_fits s_plain k ≡ false
plain_plain k = covered _ _ (every_kind (covers s_plain s_plain) refl refl (λ n. refl) (λ n. refl) (λ n. refl) refl (λ n. refl) refl refl refl refl k)

pub expr_if : (k : TokenKind) → any_fits s_expr k ≡ false → any_fits ((g.keyword keyword'.If) ∷ []) k ≡ false
expr_if k = covered _ _ (every_kind (covers s_expr ((g.keyword keyword'.If) ∷ [])) refl refl (λ n. refl) (λ n. refl) (λ n. refl) refl (λ n. refl) refl refl refl refl k)

pub else_after_plain : (k : TokenKind) → any_fits ((g.keyword keyword'.Else) ∷ []) k ≡ true → any_fits s_plain k ≡ false
else_after_plain k = excluded _ _ (every_kind (excludes ((g.keyword keyword'.Else) ∷ []) s_plain) refl refl (λ n. refl) (λ n. refl) (λ n. refl) refl (λ n. refl) refl refl refl refl k)

pub brace_after_expr : (k : TokenKind) → any_fits ((g.mark mark'.CloseBrace) ∷ []) k ≡ true → any_fits s_expr k ≡ false
brace_after_expr k = excluded _ _ (every_kind (excludes ((g.mark mark'.CloseBrace) ∷ []) s_expr) refl refl (λ n. refl) (λ n. refl) (λ n. refl) refl (λ n. refl) refl refl refl refl k)

pub pieces_pieces : (k : TokenKind) → any_fits s_pieces k ≡ false → any_fits s_pieces k ≡ false
pieces_pieces k = covered _ _ (every_kind (covers s_pieces s_pieces) refl refl (λ n. refl) (λ n. refl) (λ n. refl) refl (λ n. refl) refl refl refl refl k)

pub links_after_pieces : (k : TokenKind) → any_fits ((g.mark mark'.OpenParen) ∷ (g.mark mark'.OpenBracket) ∷ (g.mark mark'.Dot) ∷ []) k ≡ true → any_fits s_pieces k ≡ false
links_after_pieces k = excluded _ _ (every_kind (excludes ((g.mark mark'.OpenParen) ∷ (g.mark mark'.OpenBracket) ∷ (g.mark mark'.Dot) ∷ []) s_pieces) refl refl (λ n. refl) (λ n. refl) (λ n. refl) refl (λ n. refl) refl refl refl refl k)

pub atom_pieces : (k : TokenKind) → any_fits s_atom k ≡ false → any_fits s_pieces k ≡ false
atom_pieces k = covered _ _ (every_kind (covers s_atom s_pieces) refl refl (λ n. refl) (λ n. refl) (λ n. refl) refl (λ n. refl) refl refl refl refl k)

pub pieces_piece : (k : TokenKind) → any_fits s_pieces k ≡ false → any_fits ((one terminal'.Piece) ∷ []) k ≡ false
pieces_piece k = covered _ _ (every_kind (covers s_pieces ((one terminal'.Piece) ∷ [])) refl refl (λ n. refl) (λ n. refl) (λ n. refl) refl (λ n. refl) refl refl refl refl k)

pub pieces_free : (k : TokenKind) → any_fits s_pieces k ≡ false → any_fits s_free k ≡ false
pieces_free k = covered _ _ (every_kind (covers s_pieces s_free) refl refl (λ n. refl) (λ n. refl) (λ n. refl) refl (λ n. refl) refl refl refl refl k)

pub piece_heads : (k : TokenKind) → any_fits ((one terminal'.Text) ∷ (one terminal'.FStart) ∷ []) k ≡ true → fits (one terminal'.Piece) k ≡ true
piece_heads k = implied _ _ (every_kind (λ v. not (any_fits ((one terminal'.Text) ∷ (one terminal'.FStart) ∷ []) v) || fits (one terminal'.Piece) v) refl refl (λ n. refl) (λ n. refl) (λ n. refl) refl (λ n. refl) refl refl refl refl k)

pub text_no_bracket : (k : TokenKind) → any_fits ((one terminal'.Text) ∷ []) k ≡ true → any_fits ((one terminal'.Bracket) ∷ []) k ≡ false
text_no_bracket k = excluded _ _ (every_kind (excludes ((one terminal'.Text) ∷ []) ((one terminal'.Bracket) ∷ [])) refl refl (λ n. refl) (λ n. refl) (λ n. refl) refl (λ n. refl) refl refl refl refl k)

pub start_no_bracket : (k : TokenKind) → any_fits ((one terminal'.FStart) ∷ []) k ≡ true → any_fits ((one terminal'.Bracket) ∷ []) k ≡ false
start_no_bracket k = excluded _ _ (every_kind (excludes ((one terminal'.FStart) ∷ []) ((one terminal'.Bracket) ∷ [])) refl refl (λ n. refl) (λ n. refl) (λ n. refl) refl (λ n. refl) refl refl refl refl k)

pub start_no_text : (k : TokenKind) → any_fits ((one terminal'.FStart) ∷ []) k ≡ true → any_fits ((one terminal'.Text) ∷ []) k ≡ false
start_no_text k = excluded _ _ (every_kind (excludes ((one terminal'.FStart) ∷ []) ((one terminal'.Text) ∷ [])) refl refl (λ n. refl) (λ n. refl) (λ n. refl) refl (λ n. refl) refl refl refl refl k)

pub leaf_no_text : (k : TokenKind) → any_fits ((one terminal'.Leaf) ∷ []) k ≡ true → any_fits ((one terminal'.Text) ∷ []) k ≡ false
leaf_no_text k = excluded _ _ (every_kind (excludes ((one terminal'.Leaf) ∷ []) ((one terminal'.Text) ∷ [])) refl refl (λ n. refl) (λ n. refl) (λ n. refl) refl (λ n. refl) refl refl refl refl k)

pub leaf_no_start : (k : TokenKind) → any_fits ((one terminal'.Leaf) ∷ []) k ≡ true → any_fits ((one terminal'.FStart) ∷ []) k ≡ false
leaf_no_start k = excluded _ _ (every_kind (excludes ((one terminal'.Leaf) ∷ []) ((one terminal'.FStart) ∷ [])) refl refl (λ n. refl) (λ n. refl) (λ n. refl) refl (λ n. refl) refl refl refl refl k)

pub brace_no_part : (k : TokenKind) → any_fits ((g.mark mark'.OpenBrace) ∷ []) k ≡ true → any_fits ((one terminal'.FPart) ∷ []) k ≡ false
brace_no_part k = excluded _ _ (every_kind (excludes ((g.mark mark'.OpenBrace) ∷ []) ((one terminal'.FPart) ∷ [])) refl refl (λ n. refl) (λ n. refl) (λ n. refl) refl (λ n. refl) refl refl refl refl k)

pub end_no_part : (k : TokenKind) → any_fits ((one terminal'.FEnd) ∷ []) k ≡ true → any_fits ((one terminal'.FPart) ∷ []) k ≡ false
end_no_part k = excluded _ _ (every_kind (excludes ((one terminal'.FEnd) ∷ []) ((one terminal'.FPart) ∷ [])) refl refl (λ n. refl) (λ n. refl) (λ n. refl) refl (λ n. refl) refl refl refl refl k)

pub end_no_brace : (k : TokenKind) → any_fits ((one terminal'.FEnd) ∷ []) k ≡ true → any_fits ((g.mark mark'.OpenBrace) ∷ []) k ≡ false
end_no_brace k = excluded _ _ (every_kind (excludes ((one terminal'.FEnd) ∷ []) ((g.mark mark'.OpenBrace) ∷ [])) refl refl (λ n. refl) (λ n. refl) (λ n. refl) refl (λ n. refl) refl refl refl refl k)

pub while_no_if : (k : TokenKind) → any_fits ((g.keyword keyword'.While) ∷ []) k ≡ true → any_fits ((g.keyword keyword'.If) ∷ []) k ≡ false
while_no_if k = excluded _ _ (every_kind (excludes ((g.keyword keyword'.While) ∷ []) ((g.keyword keyword'.If) ∷ [])) refl refl (λ n. refl) (λ n. refl) (λ n. refl) refl (λ n. refl) refl refl refl refl k)

pub while_no_for : (k : TokenKind) → any_fits ((g.keyword keyword'.While) ∷ []) k ≡ true → any_fits ((g.keyword keyword'.For) ∷ []) k ≡ false
while_no_for k = excluded _ _ (every_kind (excludes ((g.keyword keyword'.While) ∷ []) ((g.keyword keyword'.For) ∷ [])) refl refl (λ n. refl) (λ n. refl) (λ n. refl) refl (λ n. refl) refl refl refl refl k)

pub def_no_while : (k : TokenKind) → any_fits ((g.keyword keyword'.Def) ∷ []) k ≡ true → any_fits ((g.keyword keyword'.While) ∷ []) k ≡ false
def_no_while k = excluded _ _ (every_kind (excludes ((g.keyword keyword'.Def) ∷ []) ((g.keyword keyword'.While) ∷ [])) refl refl (λ n. refl) (λ n. refl) (λ n. refl) refl (λ n. refl) refl refl refl refl k)

pub small_no_while : (k : TokenKind) → any_fits f_small k ≡ true → any_fits ((g.keyword keyword'.While) ∷ []) k ≡ false
small_no_while k = excluded _ _ (every_kind (excludes f_small ((g.keyword keyword'.While) ∷ [])) refl refl (λ n. refl) (λ n. refl) (λ n. refl) refl (λ n. refl) refl refl refl refl k)

pub parts_after_free : (k : TokenKind) → any_fits ((one terminal'.FPart) ∷ (g.mark mark'.OpenBrace) ∷ (one terminal'.FEnd) ∷ []) k ≡ true → any_fits s_free k ≡ false
parts_after_free k = excluded _ _ (every_kind (excludes ((one terminal'.FPart) ∷ (g.mark mark'.OpenBrace) ∷ (one terminal'.FEnd) ∷ []) s_free) refl refl (λ n. refl) (λ n. refl) (λ n. refl) refl (λ n. refl) refl refl refl refl k)
