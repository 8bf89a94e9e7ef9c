-- Conditional expressions: each way on behind their first operand and behind their `if`.
use Rattle.std.proofs.Common.{◌≡◌, ◌≢◌, ℕ, ◌-◌, List, [], false, Result}
use Rattle.py_token.specs.declared.keyword.Keyword.TheVariants as keyword'
use Rattle.py_token.specs.declared.token.Token.{Token}
use Rattle.py_tree.specs.Tree.{Tree, choice}
use Rattle.py_parse.specs.declared.stop.Stop.{Stop}
use Rattle.py_parse.specs.Terminals.{heads}
use Rattle.py_parse.specs.Grammar.{expr, plain, choice_rest, choice_body, keyword}
use Rattle.py_parse.specs.Reading.{Outcome, ok, fault, Why, unfit, deep, Reads, r_refused, r_read, r_part_fault, pick}
use Rattle.py_parse.specs.Agrees.{Taken, Agrees}
use Rattle.py_parse.proofs.Cases.{by_production, last_production, takes_at, yes_opens, yes_deep, yes_gives, no_opens, deeper_gives, reads_gives, given_at, agrees_over}

pub expr_fault0 : (d : ℕ) {ts0 : List Token} {w : Why} {r9 : List Token} →
    Reads d (pick plain ts0) ts0 (fault w r9) → Reads d (pick expr ts0) ts0 (fault w r9)
expr_fault0 d r = by_production expr (last_production _ (r_part_fault r))

pub expr_plain : (d : ℕ) {t : Tree} {ts0 ts1 : List Token} →
    Reads d (pick plain ts0) ts0 (ok t ts1) → heads (keyword keyword'.If) ts1 ≡ false → Reads d (pick expr ts0) ts0 (ok t ts1)
expr_plain d {t = t} {ts1 = ts1} r h =
    by_production expr (last_production _ (r_read t ts1 r (reads_gives (by_production (choice_rest t) (no_opens _ _ _ _ h (yes_gives t []))))))

pub expr_deep : (d : ℕ) {t : Tree} {ts0 ts1 ts2 : List Token} {x : Token} →
    Reads d (pick plain ts0) ts0 (ok t ts1) → d ≡ 0 → Taken (keyword keyword'.If) ts1 x ts2 → Reads d (pick expr ts0) ts0 (fault deep ts1)
expr_deep d {t = t} {ts1 = ts1} r hz t9 =
    by_production expr (last_production _ (r_read t ts1 r (reads_gives (by_production (choice_rest t) (yes_deep d _ _ hz t9)))))

pub expr_choice : (d : ℕ) {t : Tree} {ts0 ts1 ts2 : List Token} {x : Token} {o : Outcome} →
    Reads d (pick plain ts0) ts0 (ok t ts1) → d ≢ 0 → Taken (keyword keyword'.If) ts1 x ts2 →
    Reads (d - 1) (pick (choice_body x.line t) ts2) ts2 o → Reads d (pick expr ts0) ts0 o
expr_choice d {t = t} {ts1 = ts1} r hd t1 s =
    by_production expr (last_production _ (r_read t ts1 r (reads_gives (by_production (choice_rest t) (yes_opens d _ _ hd t1 (deeper_gives d hd s))))))

pub expr_choice_answers : {X : Type 0} (view : X → Outcome) (res : Result X Stop) (d : ℕ) (t : Tree) (x : Token) (ts0 ts1 ts2 : List Token) →
    Reads d (pick plain ts0) ts0 (ok t ts1) → d ≢ 0 → Taken (keyword keyword'.If) ts1 x ts2 →
    Agrees view res (Reads (d - 1) (pick (choice_body x.line t) ts2) ts2) → Agrees view res (Reads d (pick expr ts0) ts0)
expr_choice_answers view res d t x ts0 ts1 ts2 r hd t1 s =
    agrees_over view res (Reads (d - 1) (pick (choice_body x.line t) ts2) ts2) _ (λ o q. expr_choice d r hd t1 q) s

-- behind the `if`
pub test_fault0 : (d l : ℕ) (t : Tree) {ts0 : List Token} {w : Why} {r9 : List Token} →
    Reads d (pick plain ts0) ts0 (fault w r9) → Reads d (pick (choice_body l t) ts0) ts0 (fault w r9)
test_fault0 d l t r = by_production (choice_body l t) (last_production _ (r_part_fault r))

pub test_unfit1 : (d l : ℕ) (t : Tree) {c : Tree} {ts0 ts1 : List Token} →
    Reads d (pick plain ts0) ts0 (ok c ts1) → heads (keyword keyword'.Else) ts1 ≡ false → Reads d (pick (choice_body l t) ts0) ts0 (fault unfit ts1)
test_unfit1 d l t {c = c} {ts1 = ts1} r nh = by_production (choice_body l t) (last_production _ (r_read c ts1 r (r_refused nh)))

pub test_fault2 : (d l : ℕ) (t : Tree) {c : Tree} {ts0 ts1 ts2 : List Token} {x : Token} {w : Why} {r9 : List Token} →
    Reads d (pick plain ts0) ts0 (ok c ts1) → Taken (keyword keyword'.Else) ts1 x ts2 → Reads d (pick expr ts2) ts2 (fault w r9) →
    Reads d (pick (choice_body l t) ts0) ts0 (fault w r9)
test_fault2 d l t {c = c} {ts1 = ts1} r t1 s = by_production (choice_body l t) (last_production _ (r_read c ts1 r (takes_at _ t1 (r_part_fault s))))

pub test_ok : (d l : ℕ) (t : Tree) {c e v : Tree} {ts0 ts1 ts2 ts3 : List Token} {x : Token} →
    Reads d (pick plain ts0) ts0 (ok c ts1) → Taken (keyword keyword'.Else) ts1 x ts2 → Reads d (pick expr ts2) ts2 (ok e ts3) →
    v ≡ choice l t c e → Reads d (pick (choice_body l t) ts0) ts0 (ok v ts3)
test_ok d l t {c = c} {e = e} {ts1 = ts1} {ts3 = ts3} r t1 s ev =
    by_production (choice_body l t) (last_production _ (r_read c ts1 r (takes_at _ t1 (r_read e ts3 s (given_at ev)))))
