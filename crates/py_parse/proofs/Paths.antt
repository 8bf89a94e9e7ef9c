-- Each way through each production, over plain variables: how it ends, and where it stops. Generated from the list of
-- productions.
use Rattle.std.proofs.Common.{◌≡◌, ◌≢◌, ℕ, ◌-◌, List, [], false, Result}
use Rattle.py_token.specs.declared.keyword.Keyword.TheVariants as keyword'
use Rattle.py_token.specs.declared.mark.Mark.TheVariants as mark'
use Rattle.py_token.specs.declared.token.Token.{Token}
use Rattle.py_tree.specs.Tree.{Tree, nil, cons, group, tuple, list, attribute, index, negative, imports, simple, branching, branch, for', while', def, pass, augment}
use Rattle.py_parse.specs.declared.stop.Stop.{Stop}
use Rattle.py_parse.specs.declared.level.Level.{Level}
use Rattle.py_parse.specs.declared.site.Site.{Site}
use Rattle.py_parse.specs.declared.terminal.Terminal.TheVariants as terminal'
use Rattle.py_parse.specs.Terminals.{one, heads, name_in, augment_in}
use Rattle.py_parse.specs.Grammar.{chained, operand, operations, chain_of, negation, comparison, unary, posted, atom, links, post_of, display_of, leaf_of, grouped, listed, exprs, expr, names, one_link, call_body, subscript, subscript_rest, loop_body, while_body, function_body, parameters, params, in_loop, in_function, below, block, conditional, branches, indented, statements, more_lines, import_body, assignment, augment_body, small, line, keyword, mark, takes, gives}
use Rattle.py_parse.specs.Reading.{Outcome, ok, fault, Why, unfit, deep, Reads, r_refused, r_read, r_part_fault, pick}
use Rattle.py_parse.specs.Agrees.{Taken, Agrees, branch_body}
use Rattle.py_parse.proofs.Cases.{by_production, last_production, takes_at, opens_at, deeper_at, deeper_fault, deeper_gives, yes_takes, yes_opens, yes_deep, no_takes, no_opens, reads_gives, given_at, agrees_over}

pub chained_fault0 : (d : ℕ) (l : Level) {ts0 : List Token} {w : Why} {r9 : List Token} →
    Reads d (pick (operand l) ts0) ts0 (fault w r9) → Reads d (pick (chained l) ts0) ts0 (fault w r9)
chained_fault0 d l {ts0 = ts0} r = by_production (chained l) (last_production _ (r_part_fault r))

pub chained_fault1 : (d : ℕ) (l : Level) {t : Tree} {ts0 : List Token} {ts1 : List Token} {w : Why} {r9 : List Token} →
    Reads d (pick (operand l) ts0) ts0 (ok t ts1) → Reads d (pick (operations l) ts1) ts1 (fault w r9) → Reads d (pick (chained l) ts0) ts0 (fault w r9)
chained_fault1 d l {t = t} {ts0 = ts0} {ts1 = ts1} r0 r = by_production (chained l) (last_production _ (r_read t ts1 r0 (r_part_fault r)))

pub chained_ok : (d : ℕ) (l : Level) {t : Tree} {ts0 : List Token} {ts1 : List Token} {u : Tree} {ts2 : List Token} {v : Tree} →
    Reads d (pick (operand l) ts0) ts0 (ok t ts1) → Reads d (pick (operations l) ts1) ts1 (ok u ts2) → v ≡ chain_of t u → Reads d (pick (chained l) ts0) ts0 (ok v ts2)
chained_ok d l {t = t} {ts0 = ts0} {ts1 = ts1} {u = u} {ts2 = ts2} {v = v} r0 r1 ev = by_production (chained l) (last_production _ (r_read t ts1 r0 (r_read u ts2 r1 (given_at ev))))

pub not_deep0 : (d : ℕ) {ts0 : List Token} {x9 : Token} {ts1 : List Token} →
    d ≡ 0 → Taken (keyword keyword'.Not) ts0 x9 ts1 → Reads d (pick (negation) ts0) ts0 (fault deep ts0)
not_deep0 d {ts0 = ts0} {ts1 = ts1} hz t9 = by_production (negation) (yes_deep d _ _ hz t9)

pub not_fault1 : (d : ℕ) {x : Token} {ts0 : List Token} {ts1 : List Token} {w : Why} {r9 : List Token} →
    d ≢ 0 → Taken (keyword keyword'.Not) ts0 x ts1 → Reads (d - 1) (pick (negation) ts1) ts1 (fault w r9) → Reads d (pick (negation) ts0) ts0 (fault w r9)
not_fault1 d {ts0 = ts0} {ts1 = ts1} hd t0 r = by_production (negation) (yes_opens d _ _ hd t0 (deeper_fault d _ hd r))

pub not_ok : (d : ℕ) {x : Token} {ts0 : List Token} {ts1 : List Token} {t : Tree} {ts2 : List Token} {v : Tree} →
    d ≢ 0 → Taken (keyword keyword'.Not) ts0 x ts1 → Reads (d - 1) (pick (negation) ts1) ts1 (ok t ts2) → v ≡ Tree.not x.line t → Reads d (pick (negation) ts0) ts0 (ok v ts2)
not_ok d {ts0 = ts0} {ts1 = ts1} {t = t} {ts2 = ts2} {v = v} hd t0 r1 ev = by_production (negation) (yes_opens d _ _ hd t0 (deeper_at d _ t ts2 hd r1 (given_at ev)))

pub unnegated_tail : (d : ℕ) {ts0 : List Token} {o : Outcome} →
    heads (keyword keyword'.Not) ts0 ≡ false → Reads d (pick (comparison) ts0) ts0 o → Reads d (pick (negation) ts0) ts0 (o)
unnegated_tail d {ts0 = ts0} h0 r = by_production (negation) (no_opens _ _ _ _ h0 (last_production _ (reads_gives r)))

pub unnegated_tail_answers : {X : Type 0} (view : X → Outcome) (res : Result X Stop) (d : ℕ) (ts0 : List Token) →
    heads (keyword keyword'.Not) ts0 ≡ false → Agrees view res (Reads d (pick (comparison) ts0) ts0) → Agrees view res (Reads d (pick (negation) ts0) ts0)
unnegated_tail_answers view res d ts0 h0 r =
    agrees_over view res (Reads d (pick (comparison) ts0) ts0) _ (λ o q. unnegated_tail d h0 q) r

pub minus_deep0 : (d : ℕ) {ts0 : List Token} {x9 : Token} {ts1 : List Token} →
    d ≡ 0 → Taken (mark mark'.Minus) ts0 x9 ts1 → Reads d (pick (unary) ts0) ts0 (fault deep ts0)
minus_deep0 d {ts0 = ts0} {ts1 = ts1} hz t9 = by_production (unary) (yes_deep d _ _ hz t9)

pub minus_fault1 : (d : ℕ) {x : Token} {ts0 : List Token} {ts1 : List Token} {w : Why} {r9 : List Token} →
    d ≢ 0 → Taken (mark mark'.Minus) ts0 x ts1 → Reads (d - 1) (pick (unary) ts1) ts1 (fault w r9) → Reads d (pick (unary) ts0) ts0 (fault w r9)
minus_fault1 d {ts0 = ts0} {ts1 = ts1} hd t0 r = by_production (unary) (yes_opens d _ _ hd t0 (deeper_fault d _ hd r))

pub minus_ok : (d : ℕ) {x : Token} {ts0 : List Token} {ts1 : List Token} {t : Tree} {ts2 : List Token} {v : Tree} →
    d ≢ 0 → Taken (mark mark'.Minus) ts0 x ts1 → Reads (d - 1) (pick (unary) ts1) ts1 (ok t ts2) → v ≡ negative x.line t → Reads d (pick (unary) ts0) ts0 (ok v ts2)
minus_ok d {ts0 = ts0} {ts1 = ts1} {t = t} {ts2 = ts2} {v = v} hd t0 r1 ev = by_production (unary) (yes_opens d _ _ hd t0 (deeper_at d _ t ts2 hd r1 (given_at ev)))

pub plain_tail : (d : ℕ) {ts0 : List Token} {o : Outcome} →
    heads (mark mark'.Minus) ts0 ≡ false → Reads d (pick (posted) ts0) ts0 o → Reads d (pick (unary) ts0) ts0 (o)
plain_tail d {ts0 = ts0} h0 r = by_production (unary) (no_opens _ _ _ _ h0 (last_production _ (reads_gives r)))

pub plain_tail_answers : {X : Type 0} (view : X → Outcome) (res : Result X Stop) (d : ℕ) (ts0 : List Token) →
    heads (mark mark'.Minus) ts0 ≡ false → Agrees view res (Reads d (pick (posted) ts0) ts0) → Agrees view res (Reads d (pick (unary) ts0) ts0)
plain_tail_answers view res d ts0 h0 r =
    agrees_over view res (Reads d (pick (posted) ts0) ts0) _ (λ o q. plain_tail d h0 q) r

pub posted_fault0 : (d : ℕ) {ts0 : List Token} {w : Why} {r9 : List Token} →
    Reads d (pick (atom) ts0) ts0 (fault w r9) → Reads d (pick (posted) ts0) ts0 (fault w r9)
posted_fault0 d {ts0 = ts0} r = by_production (posted) (last_production _ (r_part_fault r))

pub posted_fault1 : (d : ℕ) {t : Tree} {ts0 : List Token} {ts1 : List Token} {w : Why} {r9 : List Token} →
    Reads d (pick (atom) ts0) ts0 (ok t ts1) → Reads d (pick (links) ts1) ts1 (fault w r9) → Reads d (pick (posted) ts0) ts0 (fault w r9)
posted_fault1 d {t = t} {ts0 = ts0} {ts1 = ts1} r0 r = by_production (posted) (last_production _ (r_read t ts1 r0 (r_part_fault r)))

pub posted_ok : (d : ℕ) {t : Tree} {ts0 : List Token} {ts1 : List Token} {u : Tree} {ts2 : List Token} {v : Tree} →
    Reads d (pick (atom) ts0) ts0 (ok t ts1) → Reads d (pick (links) ts1) ts1 (ok u ts2) → v ≡ post_of t u → Reads d (pick (posted) ts0) ts0 (ok v ts2)
posted_ok d {t = t} {ts0 = ts0} {ts1 = ts1} {u = u} {ts2 = ts2} {v = v} r0 r1 ev = by_production (posted) (last_production _ (r_read t ts1 r0 (r_read u ts2 r1 (given_at ev))))

pub bracketed_deep0 : (d : ℕ) {ts0 : List Token} {x9 : Token} {ts1 : List Token} →
    d ≡ 0 → Taken (one terminal'.Bracket) ts0 x9 ts1 → Reads d (pick (atom) ts0) ts0 (fault deep ts0)
bracketed_deep0 d {ts0 = ts0} {ts1 = ts1} hz t9 = by_production (atom) (yes_deep d _ _ hz t9)

pub bracketed_tail : (d : ℕ) {x : Token} {ts0 : List Token} {ts1 : List Token} {o : Outcome} →
    d ≢ 0 → Taken (one terminal'.Bracket) ts0 x ts1 → Reads (d - 1) (pick (display_of x) ts1) ts1 o → Reads d (pick (atom) ts0) ts0 (o)
bracketed_tail d {ts0 = ts0} {ts1 = ts1} hd t0 r = by_production (atom) (yes_opens d _ _ hd t0 (deeper_gives d hd r))

pub bracketed_tail_answers : {X : Type 0} (view : X → Outcome) (res : Result X Stop) (d : ℕ) (x : Token) (ts0 : List Token) (ts1 : List Token) →
    d ≢ 0 → Taken (one terminal'.Bracket) ts0 x ts1 → Agrees view res (Reads (d - 1) (pick (display_of x) ts1) ts1) → Agrees view res (Reads d (pick (atom) ts0) ts0)
bracketed_tail_answers view res d x ts0 ts1 hd t0 r =
    agrees_over view res (Reads (d - 1) (pick (display_of x) ts1) ts1) _ (λ o q. bracketed_tail d hd t0 q) r

pub leaf_tail : (d : ℕ) {ts0 : List Token} {o : Outcome} →
    heads (one terminal'.Bracket) ts0 ≡ false → heads (one terminal'.Text) ts0 ≡ false → heads (one terminal'.FStart) ts0 ≡ false → Reads d (takes (one terminal'.Leaf) (λ x. gives (leaf_of x))) ts0 o → Reads d (pick (atom) ts0) ts0 (o)
leaf_tail d {ts0 = ts0} h0 h1 h2 r = by_production (atom) (no_opens _ _ _ _ h0 (no_takes _ _ _ _ h1 (no_takes _ _ _ _ h2 (last_production _ (r)))))

pub empty_group_ok : (d : ℕ) (l : ℕ) {x : Token} {ts0 : List Token} {ts1 : List Token} {v : Tree} →
    Taken (mark mark'.CloseParen) ts0 x ts1 → v ≡ group l (tuple l nil false) → Reads d (pick (grouped l) ts0) ts0 (ok v ts1)
empty_group_ok d l {ts0 = ts0} {ts1 = ts1} {v = v} t0 ev = by_production (grouped l) (yes_takes _ _ t0 (given_at ev))

pub empty_list_ok : (d : ℕ) (l : ℕ) {x : Token} {ts0 : List Token} {ts1 : List Token} {v : Tree} →
    Taken (mark mark'.CloseBracket) ts0 x ts1 → v ≡ list l nil → Reads d (pick (listed l) ts0) ts0 (ok v ts1)
empty_list_ok d l {ts0 = ts0} {ts1 = ts1} {v = v} t0 ev = by_production (listed l) (yes_takes _ _ t0 (given_at ev))

pub call_link_deep0 : (d : ℕ) {ts0 : List Token} {x9 : Token} {ts1 : List Token} →
    d ≡ 0 → Taken (mark mark'.OpenParen) ts0 x9 ts1 → Reads d (pick (one_link) ts0) ts0 (fault deep ts0)
call_link_deep0 d {ts0 = ts0} {ts1 = ts1} hz t9 = by_production (one_link) (yes_deep d _ _ hz t9)

pub call_link_tail : (d : ℕ) {x : Token} {ts0 : List Token} {ts1 : List Token} {o : Outcome} →
    d ≢ 0 → Taken (mark mark'.OpenParen) ts0 x ts1 → Reads (d - 1) (pick (call_body x.line) ts1) ts1 o → Reads d (pick (one_link) ts0) ts0 (o)
call_link_tail d {ts0 = ts0} {ts1 = ts1} hd t0 r = by_production (one_link) (yes_opens d _ _ hd t0 (deeper_gives d hd r))

pub call_link_tail_answers : {X : Type 0} (view : X → Outcome) (res : Result X Stop) (d : ℕ) (x : Token) (ts0 : List Token) (ts1 : List Token) →
    d ≢ 0 → Taken (mark mark'.OpenParen) ts0 x ts1 → Agrees view res (Reads (d - 1) (pick (call_body x.line) ts1) ts1) → Agrees view res (Reads d (pick (one_link) ts0) ts0)
call_link_tail_answers view res d x ts0 ts1 hd t0 r =
    agrees_over view res (Reads (d - 1) (pick (call_body x.line) ts1) ts1) _ (λ o q. call_link_tail d hd t0 q) r

pub index_link_deep0 : (d : ℕ) {ts0 : List Token} {x9 : Token} {ts1 : List Token} →
    heads (mark mark'.OpenParen) ts0 ≡ false → d ≡ 0 → Taken (mark mark'.OpenBracket) ts0 x9 ts1 → Reads d (pick (one_link) ts0) ts0 (fault deep ts0)
index_link_deep0 d {ts0 = ts0} {ts1 = ts1} h0 hz t9 = by_production (one_link) (no_opens _ _ _ _ h0 (yes_deep d _ _ hz t9))

pub index_link_tail : (d : ℕ) {x : Token} {ts0 : List Token} {ts1 : List Token} {o : Outcome} →
    heads (mark mark'.OpenParen) ts0 ≡ false → d ≢ 0 → Taken (mark mark'.OpenBracket) ts0 x ts1 → Reads (d - 1) (pick (subscript x.line) ts1) ts1 o → Reads d (pick (one_link) ts0) ts0 (o)
index_link_tail d {ts0 = ts0} {ts1 = ts1} h0 hd t0 r = by_production (one_link) (no_opens _ _ _ _ h0 (yes_opens d _ _ hd t0 (deeper_gives d hd r)))

pub index_link_tail_answers : {X : Type 0} (view : X → Outcome) (res : Result X Stop) (d : ℕ) (x : Token) (ts0 : List Token) (ts1 : List Token) →
    heads (mark mark'.OpenParen) ts0 ≡ false → d ≢ 0 → Taken (mark mark'.OpenBracket) ts0 x ts1 → Agrees view res (Reads (d - 1) (pick (subscript x.line) ts1) ts1) → Agrees view res (Reads d (pick (one_link) ts0) ts0)
index_link_tail_answers view res d x ts0 ts1 h0 hd t0 r =
    agrees_over view res (Reads (d - 1) (pick (subscript x.line) ts1) ts1) _ (λ o q. index_link_tail d h0 hd t0 q) r

pub attribute_unfit0 : (d : ℕ) {ts0 : List Token} →
    heads (mark mark'.OpenParen) ts0 ≡ false → heads (mark mark'.OpenBracket) ts0 ≡ false → heads (mark mark'.Dot) ts0 ≡ false → Reads d (pick (one_link) ts0) ts0 (fault unfit ts0)
attribute_unfit0 d {ts0 = ts0} h0 h1 nh = by_production (one_link) (no_opens _ _ _ _ h0 (no_opens _ _ _ _ h1 (last_production _ (r_refused nh))))

pub attribute_unfit1 : (d : ℕ) {x : Token} {ts0 : List Token} {ts1 : List Token} →
    heads (mark mark'.OpenParen) ts0 ≡ false → heads (mark mark'.OpenBracket) ts0 ≡ false → Taken (mark mark'.Dot) ts0 x ts1 → heads (one terminal'.Name) ts1 ≡ false → Reads d (pick (one_link) ts0) ts0 (fault unfit ts1)
attribute_unfit1 d {ts0 = ts0} {ts1 = ts1} h0 h1 t0 nh = by_production (one_link) (no_opens _ _ _ _ h0 (no_opens _ _ _ _ h1 (last_production _ (takes_at _ t0 (r_refused nh)))))

pub attribute_ok : (d : ℕ) {x : Token} {ts0 : List Token} {ts1 : List Token} {y : Token} {ts2 : List Token} {v : Tree} →
    heads (mark mark'.OpenParen) ts0 ≡ false → heads (mark mark'.OpenBracket) ts0 ≡ false → Taken (mark mark'.Dot) ts0 x ts1 → Taken (one terminal'.Name) ts1 y ts2 → v ≡ attribute y.line (name_in y.kind) → Reads d (pick (one_link) ts0) ts0 (ok v ts2)
attribute_ok d {ts0 = ts0} {ts1 = ts1} {ts2 = ts2} {v = v} h0 h1 t0 t1 ev = by_production (one_link) (no_opens _ _ _ _ h0 (no_opens _ _ _ _ h1 (last_production _ (takes_at _ t0 (takes_at _ t1 (given_at ev))))))

pub index_unfit0 : (d : ℕ) (l : ℕ) (t : Tree) {ts0 : List Token} →
    heads (mark mark'.Colon) ts0 ≡ false → heads (mark mark'.CloseBracket) ts0 ≡ false → Reads d (pick (subscript_rest l t) ts0) ts0 (fault unfit ts0)
index_unfit0 d l t {ts0 = ts0} h0 nh = by_production (subscript_rest l t) (no_takes _ _ _ _ h0 (last_production _ (r_refused nh)))

pub index_ok : (d : ℕ) (l : ℕ) (t : Tree) {x : Token} {ts0 : List Token} {ts1 : List Token} {v : Tree} →
    heads (mark mark'.Colon) ts0 ≡ false → Taken (mark mark'.CloseBracket) ts0 x ts1 → v ≡ index l t → Reads d (pick (subscript_rest l t) ts0) ts0 (ok v ts1)
index_ok d l t {ts0 = ts0} {ts1 = ts1} {v = v} h0 t0 ev = by_production (subscript_rest l t) (no_takes _ _ _ _ h0 (last_production _ (takes_at _ t0 (given_at ev))))

pub loop_fault0 : (d : ℕ) (l : ℕ) (s : Site) {ts0 : List Token} {w : Why} {r9 : List Token} →
    Reads d (pick (names) ts0) ts0 (fault w r9) → Reads d (loop_body l s) ts0 (fault w r9)
loop_fault0 d l s {ts0 = ts0} r = r_part_fault r

pub loop_unfit1 : (d : ℕ) (l : ℕ) (s : Site) {n : Tree} {ts0 : List Token} {ts1 : List Token} →
    Reads d (pick (names) ts0) ts0 (ok n ts1) → heads (keyword keyword'.In) ts1 ≡ false → Reads d (loop_body l s) ts0 (fault unfit ts1)
loop_unfit1 d l s {n = n} {ts0 = ts0} {ts1 = ts1} r0 nh = r_read n ts1 r0 (r_refused nh)

pub loop_fault2 : (d : ℕ) (l : ℕ) (s : Site) {n : Tree} {ts0 : List Token} {ts1 : List Token} {x : Token} {ts2 : List Token} {w : Why} {r9 : List Token} →
    Reads d (pick (names) ts0) ts0 (ok n ts1) → Taken (keyword keyword'.In) ts1 x ts2 → Reads d (pick (exprs) ts2) ts2 (fault w r9) → Reads d (loop_body l s) ts0 (fault w r9)
loop_fault2 d l s {n = n} {ts0 = ts0} {ts1 = ts1} {ts2 = ts2} r0 t1 r = r_read n ts1 r0 (takes_at _ t1 (r_part_fault r))

pub loop_unfit3 : (d : ℕ) (l : ℕ) (s : Site) {n : Tree} {ts0 : List Token} {ts1 : List Token} {x : Token} {ts2 : List Token} {e : Tree} {ts3 : List Token} →
    Reads d (pick (names) ts0) ts0 (ok n ts1) → Taken (keyword keyword'.In) ts1 x ts2 → Reads d (pick (exprs) ts2) ts2 (ok e ts3) → heads (mark mark'.Colon) ts3 ≡ false → Reads d (loop_body l s) ts0 (fault unfit ts3)
loop_unfit3 d l s {n = n} {ts0 = ts0} {ts1 = ts1} {ts2 = ts2} {e = e} {ts3 = ts3} r0 t1 r2 nh = r_read n ts1 r0 (takes_at _ t1 (r_read e ts3 r2 (r_refused nh)))

pub loop_fault4 : (d : ℕ) (l : ℕ) (s : Site) {n : Tree} {ts0 : List Token} {ts1 : List Token} {x : Token} {ts2 : List Token} {e : Tree} {ts3 : List Token} {y : Token} {ts4 : List Token} {w : Why} {r9 : List Token} →
    Reads d (pick (names) ts0) ts0 (ok n ts1) → Taken (keyword keyword'.In) ts1 x ts2 → Reads d (pick (exprs) ts2) ts2 (ok e ts3) → Taken (mark mark'.Colon) ts3 y ts4 → d ≢ 0 → Reads (d - 1) (pick (block (in_loop s)) ts4) ts4 (fault w r9) → Reads d (loop_body l s) ts0 (fault w r9)
loop_fault4 d l s {n = n} {ts0 = ts0} {ts1 = ts1} {ts2 = ts2} {e = e} {ts3 = ts3} {ts4 = ts4} r0 t1 r2 t3 hd r = r_read n ts1 r0 (takes_at _ t1 (r_read e ts3 r2 (takes_at _ t3 (deeper_fault d _ hd r))))

pub loop_ok : (d : ℕ) (l : ℕ) (s : Site) {n : Tree} {ts0 : List Token} {ts1 : List Token} {x : Token} {ts2 : List Token} {e : Tree} {ts3 : List Token} {y : Token} {ts4 : List Token} {b : Tree} {ts5 : List Token} {v : Tree} →
    Reads d (pick (names) ts0) ts0 (ok n ts1) → Taken (keyword keyword'.In) ts1 x ts2 → Reads d (pick (exprs) ts2) ts2 (ok e ts3) → Taken (mark mark'.Colon) ts3 y ts4 → d ≢ 0 → Reads (d - 1) (pick (block (in_loop s)) ts4) ts4 (ok b ts5) → v ≡ for' l n e b → Reads d (loop_body l s) ts0 (ok v ts5)
loop_ok d l s {n = n} {ts0 = ts0} {ts1 = ts1} {ts2 = ts2} {e = e} {ts3 = ts3} {ts4 = ts4} {b = b} {ts5 = ts5} {v = v} r0 t1 r2 t3 hd r4 ev = r_read n ts1 r0 (takes_at _ t1 (r_read e ts3 r2 (takes_at _ t3 (deeper_at d _ b ts5 hd r4 (given_at ev)))))

pub function_unfit0 : (d : ℕ) (l : ℕ) {ts0 : List Token} →
    heads (one terminal'.Name) ts0 ≡ false → Reads d (function_body l) ts0 (fault unfit ts0)
function_unfit0 d l {ts0 = ts0} nh = r_refused nh

pub function_fault2 : (d : ℕ) (l : ℕ) {n : Token} {ts0 : List Token} {ts1 : List Token} {x : Token} {ts2 : List Token} {w : Why} {r9 : List Token} →
    Taken (one terminal'.Name) ts0 n ts1 → d ≢ 0 → Taken (mark mark'.OpenParen) ts1 x ts2 → Reads (d - 1) (pick (parameters) ts2) ts2 (fault w r9) → Reads d (function_body l) ts0 (fault w r9)
function_fault2 d l {ts0 = ts0} {ts1 = ts1} {ts2 = ts2} t0 hd t1 r = takes_at _ t0 (opens_at d _ hd t1 (deeper_fault d _ hd r))

pub function_unfit3 : (d : ℕ) (l : ℕ) {n : Token} {ts0 : List Token} {ts1 : List Token} {x : Token} {ts2 : List Token} {ps : Tree} {ts3 : List Token} →
    Taken (one terminal'.Name) ts0 n ts1 → d ≢ 0 → Taken (mark mark'.OpenParen) ts1 x ts2 → Reads (d - 1) (pick (parameters) ts2) ts2 (ok ps ts3) → heads (mark mark'.Colon) ts3 ≡ false → Reads d (function_body l) ts0 (fault unfit ts3)
function_unfit3 d l {ts0 = ts0} {ts1 = ts1} {ts2 = ts2} {ps = ps} {ts3 = ts3} t0 hd t1 r2 nh = takes_at _ t0 (opens_at d _ hd t1 (deeper_at d _ ps ts3 hd r2 (r_refused nh)))

pub function_fault4 : (d : ℕ) (l : ℕ) {n : Token} {ts0 : List Token} {ts1 : List Token} {x : Token} {ts2 : List Token} {ps : Tree} {ts3 : List Token} {y : Token} {ts4 : List Token} {w : Why} {r9 : List Token} →
    Taken (one terminal'.Name) ts0 n ts1 → d ≢ 0 → Taken (mark mark'.OpenParen) ts1 x ts2 → Reads (d - 1) (pick (parameters) ts2) ts2 (ok ps ts3) → Taken (mark mark'.Colon) ts3 y ts4 → Reads (d - 1) (pick (block in_function) ts4) ts4 (fault w r9) → Reads d (function_body l) ts0 (fault w r9)
function_fault4 d l {ts0 = ts0} {ts1 = ts1} {ts2 = ts2} {ps = ps} {ts3 = ts3} {ts4 = ts4} t0 hd t1 r2 t3 r = takes_at _ t0 (opens_at d _ hd t1 (deeper_at d _ ps ts3 hd r2 (takes_at _ t3 (deeper_fault d _ hd r))))

pub function_ok : (d : ℕ) (l : ℕ) {n : Token} {ts0 : List Token} {ts1 : List Token} {x : Token} {ts2 : List Token} {ps : Tree} {ts3 : List Token} {y : Token} {ts4 : List Token} {b : Tree} {ts5 : List Token} {v : Tree} →
    Taken (one terminal'.Name) ts0 n ts1 → d ≢ 0 → Taken (mark mark'.OpenParen) ts1 x ts2 → Reads (d - 1) (pick (parameters) ts2) ts2 (ok ps ts3) → Taken (mark mark'.Colon) ts3 y ts4 → Reads (d - 1) (pick (block in_function) ts4) ts4 (ok b ts5) → v ≡ def l (name_in n.kind) ps b → Reads d (function_body l) ts0 (ok v ts5)
function_ok d l {ts0 = ts0} {ts1 = ts1} {ts2 = ts2} {ps = ps} {ts3 = ts3} {ts4 = ts4} {b = b} {ts5 = ts5} {v = v} t0 hd t1 r2 t3 r4 ev = takes_at _ t0 (opens_at d _ hd t1 (deeper_at d _ ps ts3 hd r2 (takes_at _ t3 (deeper_at d _ b ts5 hd r4 (given_at ev)))))

pub parameters_fault0 : (d : ℕ) {ts0 : List Token} {w : Why} {r9 : List Token} →
    Reads d (pick (params []) ts0) ts0 (fault w r9) → Reads d (pick (parameters) ts0) ts0 (fault w r9)
parameters_fault0 d {ts0 = ts0} r = by_production (parameters) (last_production _ (r_part_fault r))

pub parameters_unfit1 : (d : ℕ) {ps : Tree} {ts0 : List Token} {ts1 : List Token} →
    Reads d (pick (params []) ts0) ts0 (ok ps ts1) → heads (mark mark'.CloseParen) ts1 ≡ false → Reads d (pick (parameters) ts0) ts0 (fault unfit ts1)
parameters_unfit1 d {ps = ps} {ts0 = ts0} {ts1 = ts1} r0 nh = by_production (parameters) (last_production _ (r_read ps ts1 r0 (r_refused nh)))

pub parameters_ok : (d : ℕ) {ps : Tree} {ts0 : List Token} {ts1 : List Token} {x : Token} {ts2 : List Token} {v : Tree} →
    Reads d (pick (params []) ts0) ts0 (ok ps ts1) → Taken (mark mark'.CloseParen) ts1 x ts2 → v ≡ ps → Reads d (pick (parameters) ts0) ts0 (ok v ts2)
parameters_ok d {ps = ps} {ts0 = ts0} {ts1 = ts1} {ts2 = ts2} {v = v} r0 t1 ev = by_production (parameters) (last_production _ (r_read ps ts1 r0 (takes_at _ t1 (given_at ev))))

pub branch_fault0 : (d : ℕ) (l : ℕ) (s : Site) {ts0 : List Token} {w : Why} {r9 : List Token} →
    Reads d (pick (expr) ts0) ts0 (fault w r9) → Reads d (branch_body l s) ts0 (fault w r9)
branch_fault0 d l s {ts0 = ts0} r = r_part_fault r

pub branch_unfit1 : (d : ℕ) (l : ℕ) (s : Site) {c : Tree} {ts0 : List Token} {ts1 : List Token} →
    Reads d (pick (expr) ts0) ts0 (ok c ts1) → heads (mark mark'.Colon) ts1 ≡ false → Reads d (branch_body l s) ts0 (fault unfit ts1)
branch_unfit1 d l s {c = c} {ts0 = ts0} {ts1 = ts1} r0 nh = r_read c ts1 r0 (r_refused nh)

pub branch_fault2 : (d : ℕ) (l : ℕ) (s : Site) {c : Tree} {ts0 : List Token} {ts1 : List Token} {y : Token} {ts2 : List Token} {w : Why} {r9 : List Token} →
    Reads d (pick (expr) ts0) ts0 (ok c ts1) → Taken (mark mark'.Colon) ts1 y ts2 → d ≢ 0 → Reads (d - 1) (pick (block (below s)) ts2) ts2 (fault w r9) → Reads d (branch_body l s) ts0 (fault w r9)
branch_fault2 d l s {c = c} {ts0 = ts0} {ts1 = ts1} {ts2 = ts2} r0 t1 hd r = r_read c ts1 r0 (takes_at _ t1 (deeper_fault d _ hd r))

pub branch_ok : (d : ℕ) (l : ℕ) (s : Site) {c : Tree} {ts0 : List Token} {ts1 : List Token} {y : Token} {ts2 : List Token} {b : Tree} {ts3 : List Token} {v : Tree} →
    Reads d (pick (expr) ts0) ts0 (ok c ts1) → Taken (mark mark'.Colon) ts1 y ts2 → d ≢ 0 → Reads (d - 1) (pick (block (below s)) ts2) ts2 (ok b ts3) → v ≡ branch l c b → Reads d (branch_body l s) ts0 (ok v ts3)
branch_ok d l s {c = c} {ts0 = ts0} {ts1 = ts1} {ts2 = ts2} {b = b} {ts3 = ts3} {v = v} r0 t1 hd r2 ev = r_read c ts1 r0 (takes_at _ t1 (deeper_at d _ b ts3 hd r2 (given_at ev)))

pub if_deep0 : (d : ℕ) (s : Site) {ts0 : List Token} {x9 : Token} {ts1 : List Token} →
    d ≡ 0 → Taken (keyword keyword'.If) ts0 x9 ts1 → Reads d (pick (line s) ts0) ts0 (fault deep ts0)
if_deep0 d s {ts0 = ts0} {ts1 = ts1} hz t9 = by_production (line s) (yes_deep d _ _ hz t9)

pub if_tail : (d : ℕ) (s : Site) {x : Token} {ts0 : List Token} {ts1 : List Token} {o : Outcome} →
    d ≢ 0 → Taken (keyword keyword'.If) ts0 x ts1 → Reads d (conditional x.line s) ts1 o → Reads d (pick (line s) ts0) ts0 (o)
if_tail d s {ts0 = ts0} {ts1 = ts1} hd t0 r = by_production (line s) (yes_opens d _ _ hd t0 (r))

pub if_tail_answers : {X : Type 0} (view : X → Outcome) (res : Result X Stop) (d : ℕ) (s : Site) (x : Token) (ts0 : List Token) (ts1 : List Token) →
    d ≢ 0 → Taken (keyword keyword'.If) ts0 x ts1 → Agrees view res (Reads d (conditional x.line s) ts1) → Agrees view res (Reads d (pick (line s) ts0) ts0)
if_tail_answers view res d s x ts0 ts1 hd t0 r =
    agrees_over view res (Reads d (conditional x.line s) ts1) _ (λ o q. if_tail d s hd t0 q) r

pub for_deep0 : (d : ℕ) (s : Site) {ts0 : List Token} {x9 : Token} {ts1 : List Token} →
    heads (keyword keyword'.If) ts0 ≡ false → d ≡ 0 → Taken (keyword keyword'.For) ts0 x9 ts1 → Reads d (pick (line s) ts0) ts0 (fault deep ts0)
for_deep0 d s {ts0 = ts0} {ts1 = ts1} h0 hz t9 = by_production (line s) (no_opens _ _ _ _ h0 (yes_deep d _ _ hz t9))

pub for_tail : (d : ℕ) (s : Site) {x : Token} {ts0 : List Token} {ts1 : List Token} {o : Outcome} →
    heads (keyword keyword'.If) ts0 ≡ false → d ≢ 0 → Taken (keyword keyword'.For) ts0 x ts1 → Reads d (loop_body x.line s) ts1 o → Reads d (pick (line s) ts0) ts0 (o)
for_tail d s {ts0 = ts0} {ts1 = ts1} h0 hd t0 r = by_production (line s) (no_opens _ _ _ _ h0 (yes_opens d _ _ hd t0 (r)))

pub for_tail_answers : {X : Type 0} (view : X → Outcome) (res : Result X Stop) (d : ℕ) (s : Site) (x : Token) (ts0 : List Token) (ts1 : List Token) →
    heads (keyword keyword'.If) ts0 ≡ false → d ≢ 0 → Taken (keyword keyword'.For) ts0 x ts1 → Agrees view res (Reads d (loop_body x.line s) ts1) → Agrees view res (Reads d (pick (line s) ts0) ts0)
for_tail_answers view res d s x ts0 ts1 h0 hd t0 r =
    agrees_over view res (Reads d (loop_body x.line s) ts1) _ (λ o q. for_tail d s h0 hd t0 q) r

pub while_fault0 : (d : ℕ) (l : ℕ) (s : Site) {ts0 : List Token} {w : Why} {r9 : List Token} →
    Reads d (pick (expr) ts0) ts0 (fault w r9) → Reads d (while_body l s) ts0 (fault w r9)
while_fault0 d l s {ts0 = ts0} r = r_part_fault r

pub while_unfit1 : (d : ℕ) (l : ℕ) (s : Site) {c : Tree} {ts0 : List Token} {ts1 : List Token} →
    Reads d (pick (expr) ts0) ts0 (ok c ts1) → heads (mark mark'.Colon) ts1 ≡ false → Reads d (while_body l s) ts0 (fault unfit ts1)
while_unfit1 d l s {c = c} {ts0 = ts0} {ts1 = ts1} r0 nh = r_read c ts1 r0 (r_refused nh)

pub while_fault2 : (d : ℕ) (l : ℕ) (s : Site) {c : Tree} {ts0 : List Token} {ts1 : List Token} {y : Token} {ts2 : List Token} {w : Why} {r9 : List Token} →
    Reads d (pick (expr) ts0) ts0 (ok c ts1) → Taken (mark mark'.Colon) ts1 y ts2 → d ≢ 0 → Reads (d - 1) (pick (block (in_loop s)) ts2) ts2 (fault w r9) → Reads d (while_body l s) ts0 (fault w r9)
while_fault2 d l s {c = c} {ts0 = ts0} {ts1 = ts1} {ts2 = ts2} r0 t1 hd r = r_read c ts1 r0 (takes_at _ t1 (deeper_fault d _ hd r))

pub while_ok : (d : ℕ) (l : ℕ) (s : Site) {c : Tree} {ts0 : List Token} {ts1 : List Token} {y : Token} {ts2 : List Token} {b : Tree} {ts3 : List Token} {v : Tree} →
    Reads d (pick (expr) ts0) ts0 (ok c ts1) → Taken (mark mark'.Colon) ts1 y ts2 → d ≢ 0 → Reads (d - 1) (pick (block (in_loop s)) ts2) ts2 (ok b ts3) → v ≡ while' l c b → Reads d (while_body l s) ts0 (ok v ts3)
while_ok d l s {c = c} {ts0 = ts0} {ts1 = ts1} {ts2 = ts2} {b = b} {ts3 = ts3} r0 t1 hd r2 ev = r_read c ts1 r0 (takes_at _ t1 (deeper_at d _ b ts3 hd r2 (given_at ev)))

pub while_deep0 : (d : ℕ) (s : Site) {ts0 : List Token} {x9 : Token} {ts1 : List Token} →
    heads (keyword keyword'.If) ts0 ≡ false → heads (keyword keyword'.For) ts0 ≡ false → d ≡ 0 → Taken (keyword keyword'.While) ts0 x9 ts1 → Reads d (pick (line s) ts0) ts0 (fault deep ts0)
while_deep0 d s {ts0 = ts0} {ts1 = ts1} h0 h1 hz t9 = by_production (line s) (no_opens _ _ _ _ h0 (no_opens _ _ _ _ h1 (yes_deep d _ _ hz t9)))

pub while_tail : (d : ℕ) (s : Site) {x : Token} {ts0 : List Token} {ts1 : List Token} {o : Outcome} →
    heads (keyword keyword'.If) ts0 ≡ false → heads (keyword keyword'.For) ts0 ≡ false → d ≢ 0 → Taken (keyword keyword'.While) ts0 x ts1 → Reads d (while_body x.line s) ts1 o → Reads d (pick (line s) ts0) ts0 (o)
while_tail d s {ts0 = ts0} {ts1 = ts1} h0 h1 hd t0 r = by_production (line s) (no_opens _ _ _ _ h0 (no_opens _ _ _ _ h1 (yes_opens d _ _ hd t0 (r))))

pub while_tail_answers : {X : Type 0} (view : X → Outcome) (res : Result X Stop) (d : ℕ) (s : Site) (x : Token) (ts0 : List Token) (ts1 : List Token) →
    heads (keyword keyword'.If) ts0 ≡ false → heads (keyword keyword'.For) ts0 ≡ false → d ≢ 0 → Taken (keyword keyword'.While) ts0 x ts1 → Agrees view res (Reads d (while_body x.line s) ts1) → Agrees view res (Reads d (pick (line s) ts0) ts0)
while_tail_answers view res d s x ts0 ts1 h0 h1 hd t0 r =
    agrees_over view res (Reads d (while_body x.line s) ts1) _ (λ o q. while_tail d s h0 h1 hd t0 q) r

pub else_unfit1 : (d : ℕ) (s : Site) {x : Token} {ts0 : List Token} {ts1 : List Token} →
    heads (keyword keyword'.Elif) ts0 ≡ false → d ≢ 0 → Taken (keyword keyword'.Else) ts0 x ts1 → heads (mark mark'.Colon) ts1 ≡ false → Reads d (pick (branches s) ts0) ts0 (fault unfit ts1)
else_unfit1 d s {ts0 = ts0} {ts1 = ts1} h0 hd t0 nh = by_production (branches s) (no_opens _ _ _ _ h0 (yes_opens d _ _ hd t0 (r_refused nh)))

pub else_fault2 : (d : ℕ) (s : Site) {x : Token} {ts0 : List Token} {ts1 : List Token} {y : Token} {ts2 : List Token} {w : Why} {r9 : List Token} →
    heads (keyword keyword'.Elif) ts0 ≡ false → d ≢ 0 → Taken (keyword keyword'.Else) ts0 x ts1 → Taken (mark mark'.Colon) ts1 y ts2 → Reads (d - 1) (pick (block (below s)) ts2) ts2 (fault w r9) → Reads d (pick (branches s) ts0) ts0 (fault w r9)
else_fault2 d s {ts0 = ts0} {ts1 = ts1} {ts2 = ts2} h0 hd t0 t1 r = by_production (branches s) (no_opens _ _ _ _ h0 (yes_opens d _ _ hd t0 (takes_at _ t1 (deeper_fault d _ hd r))))

pub else_ok : (d : ℕ) (s : Site) {x : Token} {ts0 : List Token} {ts1 : List Token} {y : Token} {ts2 : List Token} {b : Tree} {ts3 : List Token} {v : Tree} →
    heads (keyword keyword'.Elif) ts0 ≡ false → d ≢ 0 → Taken (keyword keyword'.Else) ts0 x ts1 → Taken (mark mark'.Colon) ts1 y ts2 → Reads (d - 1) (pick (block (below s)) ts2) ts2 (ok b ts3) → v ≡ branching nil b → Reads d (pick (branches s) ts0) ts0 (ok v ts3)
else_ok d s {ts0 = ts0} {ts1 = ts1} {ts2 = ts2} {b = b} {ts3 = ts3} {v = v} h0 hd t0 t1 r2 ev = by_production (branches s) (no_opens _ _ _ _ h0 (yes_opens d _ _ hd t0 (takes_at _ t1 (deeper_at d _ b ts3 hd r2 (given_at ev)))))

pub elif_tail : (d : ℕ) (s : Site) {x : Token} {ts0 : List Token} {ts1 : List Token} {o : Outcome} →
    d ≢ 0 → Taken (keyword keyword'.Elif) ts0 x ts1 → Reads d (conditional x.line s) ts1 o → Reads d (pick (branches s) ts0) ts0 (o)
elif_tail d s {ts0 = ts0} {ts1 = ts1} hd t0 r = by_production (branches s) (yes_opens d _ _ hd t0 (r))

pub no_branch_ok : (d : ℕ) (s : Site) {ts0 : List Token} {v : Tree} →
    heads (keyword keyword'.Elif) ts0 ≡ false → heads (keyword keyword'.Else) ts0 ≡ false → v ≡ branching nil nil → Reads d (pick (branches s) ts0) ts0 (ok v ts0)
no_branch_ok d s {ts0 = ts0} {v = v} h0 h1 ev = by_production (branches s) (no_opens _ _ _ _ h0 (no_opens _ _ _ _ h1 (last_production _ (given_at ev))))

pub indent_unfit1 : (d : ℕ) (s : Site) {x : Token} {ts0 : List Token} {ts1 : List Token} →
    Taken (one terminal'.Newline) ts0 x ts1 → heads (one terminal'.Indent) ts1 ≡ false → Reads d (pick (block s) ts0) ts0 (fault unfit ts1)
indent_unfit1 d s {ts0 = ts0} {ts1 = ts1} t0 nh = by_production (block s) (yes_takes _ _ t0 (r_refused nh))

pub indent_tail : (d : ℕ) (s : Site) {x : Token} {ts0 : List Token} {ts1 : List Token} {y : Token} {ts2 : List Token} {o : Outcome} →
    Taken (one terminal'.Newline) ts0 x ts1 → Taken (one terminal'.Indent) ts1 y ts2 → Reads d (indented s) ts2 o → Reads d (pick (block s) ts0) ts0 (o)
indent_tail d s {ts0 = ts0} {ts1 = ts1} {ts2 = ts2} t0 t1 r = by_production (block s) (yes_takes _ _ t0 (takes_at _ t1 (r)))

pub indent_tail_answers : {X : Type 0} (view : X → Outcome) (res : Result X Stop) (d : ℕ) (s : Site) (x : Token) (ts0 : List Token) (ts1 : List Token) (y : Token) (ts2 : List Token) →
    Taken (one terminal'.Newline) ts0 x ts1 → Taken (one terminal'.Indent) ts1 y ts2 → Agrees view res (Reads d (indented s) ts2) → Agrees view res (Reads d (pick (block s) ts0) ts0)
indent_tail_answers view res d s x ts0 ts1 y ts2 t0 t1 r =
    agrees_over view res (Reads d (indented s) ts2) _ (λ o q. indent_tail d s t0 t1 q) r

pub one_line_fault0 : (d : ℕ) (s : Site) {ts0 : List Token} {w : Why} {r9 : List Token} →
    heads (one terminal'.Newline) ts0 ≡ false → Reads d (pick (statements s) ts0) ts0 (fault w r9) → Reads d (pick (block s) ts0) ts0 (fault w r9)
one_line_fault0 d s {ts0 = ts0} h0 r = by_production (block s) (no_takes _ _ _ _ h0 (last_production _ (r_part_fault r)))

pub one_line_ok : (d : ℕ) (s : Site) {t : Tree} {ts0 : List Token} {ts1 : List Token} {v : Tree} →
    heads (one terminal'.Newline) ts0 ≡ false → Reads d (pick (statements s) ts0) ts0 (ok t ts1) → v ≡ cons (simple t) nil → Reads d (pick (block s) ts0) ts0 (ok v ts1)
one_line_ok d s {t = t} {ts0 = ts0} {ts1 = ts1} {v = v} h0 r0 ev = by_production (block s) (no_takes _ _ _ _ h0 (last_production _ (r_read t ts1 r0 (given_at ev))))

pub dedent_ok : (d : ℕ) (s : Site) {x : Token} {ts0 : List Token} {ts1 : List Token} {v : Tree} →
    Taken (one terminal'.Dedent) ts0 x ts1 → v ≡ nil → Reads d (pick (more_lines s) ts0) ts0 (ok v ts1)
dedent_ok d s {ts0 = ts0} {ts1 = ts1} {v = v} t0 ev = by_production (more_lines s) (yes_takes _ _ t0 (given_at ev))

pub another_line_tail : (d : ℕ) (s : Site) {ts0 : List Token} {o : Outcome} →
    heads (one terminal'.Dedent) ts0 ≡ false → Reads d (indented s) ts0 o → Reads d (pick (more_lines s) ts0) ts0 (o)
another_line_tail d s {ts0 = ts0} h0 r = by_production (more_lines s) (no_takes _ _ _ _ h0 (last_production _ (r)))

pub import_unfit0 : (d : ℕ) (l : ℕ) {ts0 : List Token} →
    heads (one terminal'.Scons) ts0 ≡ false → Reads d (import_body l) ts0 (fault unfit ts0)
import_unfit0 d l {ts0 = ts0} nh = r_refused nh

pub import_unfit1 : (d : ℕ) (l : ℕ) {x : Token} {ts0 : List Token} {ts1 : List Token} →
    Taken (one terminal'.Scons) ts0 x ts1 → heads (mark mark'.Dot) ts1 ≡ false → Reads d (import_body l) ts0 (fault unfit ts1)
import_unfit1 d l {ts0 = ts0} {ts1 = ts1} t0 nh = takes_at _ t0 (r_refused nh)

pub import_unfit2 : (d : ℕ) (l : ℕ) {x : Token} {ts0 : List Token} {ts1 : List Token} {x1 : Token} {ts2 : List Token} →
    Taken (one terminal'.Scons) ts0 x ts1 → Taken (mark mark'.Dot) ts1 x1 ts2 → heads (one terminal'.Script) ts2 ≡ false → Reads d (import_body l) ts0 (fault unfit ts2)
import_unfit2 d l {ts0 = ts0} {ts1 = ts1} {ts2 = ts2} t0 t1 nh = takes_at _ t0 (takes_at _ t1 (r_refused nh))

pub import_unfit3 : (d : ℕ) (l : ℕ) {x : Token} {ts0 : List Token} {ts1 : List Token} {x1 : Token} {ts2 : List Token} {x2 : Token} {ts3 : List Token} →
    Taken (one terminal'.Scons) ts0 x ts1 → Taken (mark mark'.Dot) ts1 x1 ts2 → Taken (one terminal'.Script) ts2 x2 ts3 → heads (keyword keyword'.Import) ts3 ≡ false → Reads d (import_body l) ts0 (fault unfit ts3)
import_unfit3 d l {ts0 = ts0} {ts1 = ts1} {ts2 = ts2} {ts3 = ts3} t0 t1 t2 nh = takes_at _ t0 (takes_at _ t1 (takes_at _ t2 (r_refused nh)))

pub import_unfit4 : (d : ℕ) (l : ℕ) {x : Token} {ts0 : List Token} {ts1 : List Token} {x1 : Token} {ts2 : List Token} {x2 : Token} {ts3 : List Token} {x3 : Token} {ts4 : List Token} →
    Taken (one terminal'.Scons) ts0 x ts1 → Taken (mark mark'.Dot) ts1 x1 ts2 → Taken (one terminal'.Script) ts2 x2 ts3 → Taken (keyword keyword'.Import) ts3 x3 ts4 → heads (mark mark'.Star) ts4 ≡ false → Reads d (import_body l) ts0 (fault unfit ts4)
import_unfit4 d l {ts0 = ts0} {ts1 = ts1} {ts2 = ts2} {ts3 = ts3} {ts4 = ts4} t0 t1 t2 t3 nh = takes_at _ t0 (takes_at _ t1 (takes_at _ t2 (takes_at _ t3 (r_refused nh))))

pub import_ok : (d : ℕ) (l : ℕ) {x : Token} {ts0 : List Token} {ts1 : List Token} {x1 : Token} {ts2 : List Token} {x2 : Token} {ts3 : List Token} {x3 : Token} {ts4 : List Token} {x4 : Token} {ts5 : List Token} {v : Tree} →
    Taken (one terminal'.Scons) ts0 x ts1 → Taken (mark mark'.Dot) ts1 x1 ts2 → Taken (one terminal'.Script) ts2 x2 ts3 → Taken (keyword keyword'.Import) ts3 x3 ts4 → Taken (mark mark'.Star) ts4 x4 ts5 → v ≡ imports l → Reads d (import_body l) ts0 (ok v ts5)
import_ok d l {ts0 = ts0} {ts1 = ts1} {ts2 = ts2} {ts3 = ts3} {ts4 = ts4} {ts5 = ts5} {v = v} t0 t1 t2 t3 t4 ev = takes_at _ t0 (takes_at _ t1 (takes_at _ t2 (takes_at _ t3 (takes_at _ t4 (given_at ev)))))

pub assignment_fault0 : (d : ℕ) {ts0 : List Token} {w : Why} {r9 : List Token} →
    Reads d (pick (exprs) ts0) ts0 (fault w r9) → Reads d (assignment) ts0 (fault w r9)
assignment_fault0 d {ts0 = ts0} r = r_part_fault r

pub augment_ok : (d : ℕ) (t : Tree) (x : Token) {e : Tree} {ts0 : List Token} {ts1 : List Token} {v : Tree} →
    Reads d (pick (exprs) ts0) ts0 (ok e ts1) → v ≡ augment x.line (augment_in x.kind) t e → Reads d (augment_body t x) ts0 (ok v ts1)
augment_ok d t x {e = e} {ts0 = ts0} {ts1 = ts1} {v = v} r0 ev = r_read e ts1 r0 (given_at ev)

pub pass_ok : (d : ℕ) (s : Site) {x : Token} {ts0 : List Token} {ts1 : List Token} {v : Tree} →
    Taken (keyword keyword'.Pass) ts0 x ts1 → v ≡ pass x.line → Reads d (pick (small s) ts0) ts0 (ok v ts1)
pass_ok d s {ts0 = ts0} {ts1 = ts1} {v = v} t0 ev = by_production (small s) (yes_takes _ _ t0 (given_at ev))

pub from_tail : (d : ℕ) (s : Site) {x : Token} {ts0 : List Token} {ts1 : List Token} {o : Outcome} →
    heads (keyword keyword'.Pass) ts0 ≡ false → Taken (keyword keyword'.From) ts0 x ts1 → Reads d (import_body x.line) ts1 o → Reads d (pick (small s) ts0) ts0 (o)
from_tail d s {ts0 = ts0} {ts1 = ts1} h0 t0 r = by_production (small s) (no_takes _ _ _ _ h0 (yes_takes _ _ t0 (r)))
