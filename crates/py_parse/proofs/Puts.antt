-- What stands behind an expression in brackets, with what was read before it: each way on.
use Rattle.std.proofs.Common.{◌≡◌, ℕ, Bool, List, [], ◌∷◌, ◌++◌, ◌&&◌, true, false, refl, ap, sym, subst, ◌∙◌, map, Result, Ok, Err, IsErrAnd, IfOk}
use Rattle.std.specs.declared.boxed.Box.{Box}
use Rattle.std.specs.declared.alloc.Global.{Global}
use Rattle.std.specs.declared.alloc.AllocFailed.{AllocFailed}
use Rattle.py_token.specs.declared.keyword.Keyword.TheVariants as keyword'
use Rattle.py_token.specs.declared.mark.Mark.TheVariants as mark'
use Rattle.py_token.specs.declared.token.Token.{Token}
use Rattle.py_token.specs.declared.token.TokenKind.{TokenKind}
use Rattle.py_token.specs.declared.token.TokenKind.TheVariants as kind'
use Rattle.py_tree.specs.declared.expr.Constant.{Constant}
use Rattle.py_tree.specs.declared.expr.Expr.{Expr}
use Rattle.py_tree.specs.Tree.{Tree, nil, cons, absent, trees, tuple, pair, named, name, group, list, dict, call, comprehension, constant, expr_tree}
use Rattle.py_parse.specs.declared.display.NextDisplay.{NextDisplay}
use Rattle.py_parse.specs.declared.stop.Stop.{Stop}
use Rattle.py_parse.specs.declared.terminal.Terminal.TheVariants as terminal'
use Rattle.py_parse.specs.Terminals.{one, fresh, heads, constant_in}
use Rattle.py_parse.specs.Grammar.{Body, reads, mark, keyword, is_name, closed, trails, expr, plain, listed_rest, dict_body, call_body, subscript_rest, sliced, names, comprehended, leaf_at}
use Rattle.py_parse.specs.Reading.{Outcome, ok, fault, Why, Reads, r_read, pick}
use Rattle.py_parse.specs.Agrees.{Taken, FreshAt, AgreesOnStop, onto}
use Rattle.py_parse.specs.Open.{Continues, group_end, grouped_after, tuple_after, list_end, list_after, item_after, source_after, tests_from, test_after, dict_end, key_after, value_after, call_end, argument_after, named_after, named_from_here, lower_after, upper_after}
use Rattle.py_parse.proofs.Cases.{by_production, last_production, takes_at, yes_takes, no_takes, reads_gives, stops_over}
use Rattle.py_parse.proofs.Flat.{covers_given, covers_taken, covers_read}
use Rattle.py_parse.proofs.Steps.{exprs_go, exprs_trail, onto_one_more, closed_trees, closed_trailing, trails_not, trails_yes, onto_all, items_stop, items_trail, items_go, pairs_open, pairs_none, pairs_stop, pairs_comma, args_none, args_open, args_stop, args_go, named_stop, named_comma, named_none, named_go, named_open}

map_one_more : {A : Type 0} (f : A → Tree) (xs : List A) (x : A) → map f (xs ++ x ∷ []) ≡ map f xs ++ f x ∷ []
map_one_more f [] x = refl
map_one_more f (y ∷ ys) x = ap (λ l. f y ∷ l) (map_one_more f ys x)

-- one more at the end of a list, seen as trees
pub more : {A : Type 0} (f : A → Tree) (xs ys : List A) (x : A) (t : Tree) → ys ≡ xs ++ x ∷ [] → f x ≡ t → map f ys ≡ map f xs ++ t ∷ []
more f xs ys x t e p = ap (map f) e ∙ map_one_more f xs x ∙ ap (λ v. map f xs ++ v ∷ []) p

pub first : {A : Type 0} (f : A → Tree) (xs ys : List A) (x : A) → xs ≡ [] → ys ≡ xs ++ x ∷ [] → map f ys ≡ f x ∷ []
first f xs ys x n e = ap (map f) (e ∙ ap (λ l. l ++ x ∷ []) n)

pub none : {A : Type 0} (f : A → Tree) (xs : List A) → xs ≡ [] → map f xs ≡ []
none f xs e = ap (map f) e

-- parentheses
pub grouped_go : {d : ℕ} {ts rest : List Token} {x : Token} {o : Outcome} (l : ℕ) (t : Tree) (found : List Tree) → found ≡ t ∷ [] →
    Taken (mark mark'.Comma) ts x rest → heads (one terminal'.Expression) rest ≡ true →
    Reads d (reads expr (λ v. tuple_after l x.line found v)) rest o → Reads d (grouped_after l t) ts o
grouped_go {d = d} {rest = rest} {x = x} {o = o} l t found e a h r =
    exprs_go _ t a h (subst (λ f. Reads d (reads expr (λ v. tuple_after l x.line f v)) rest o) e r)

pub grouped_trail : {d : ℕ} {ts rest : List Token} {x : Token} {o : Outcome} (l : ℕ) (t v : Tree) → v ≡ tuple x.line (cons t nil) true →
    Taken (mark mark'.Comma) ts x rest → heads (one terminal'.Expression) rest ≡ false →
    Reads d (group_end l v) rest o → Reads d (grouped_after l t) ts o
grouped_trail {d = d} {rest = rest} {o = o} l t v e a h r =
    exprs_trail _ t a h (subst (λ w. Reads d (group_end l w) rest o) e r)

stopped_tuple : (c : ℕ) (found : List Tree) (t : Tree) →
    tuple c (trees (found ++ t ∷ [])) false ≡ tuple c (closed (onto found (cons t nil))) (trails (onto found (cons t nil)))
stopped_tuple c found t =
    rw (← onto_one_more found t nil, closed_trees (found ++ t ∷ []), trails_not (found ++ t ∷ [])) refl

trailed_tuple : (c : ℕ) (found : List Tree) (t : Tree) →
    tuple c (trees (found ++ t ∷ [])) true ≡ tuple c (closed (onto found (cons t absent))) (trails (onto found (cons t absent)))
trailed_tuple c found t =
    rw (← onto_one_more found t absent, closed_trailing (found ++ t ∷ []), trails_yes (found ++ t ∷ [])) refl

pub tuple_stop : {d : ℕ} {ts : List Token} {o : Outcome} (l c : ℕ) (found found' : List Tree) (t v : Tree) →
    v ≡ tuple c (trees found') false → found' ≡ found ++ t ∷ [] → heads (mark mark'.Comma) ts ≡ false →
    Reads d (group_end l v) ts o → Reads d (tuple_after l c found t) ts o
tuple_stop {d = d} {ts = ts} {o = o} l c found found' t v e f h r =
    items_stop _ h (subst (λ w. Reads d (group_end l w) ts o) (e ∙ ap (λ g. tuple c (trees g) false) f ∙ stopped_tuple c found t) r)

pub tuple_trail : {d : ℕ} {ts rest : List Token} {x : Token} {o : Outcome} (l c : ℕ) (found found' : List Tree) (t v : Tree) →
    v ≡ tuple c (trees found') true → found' ≡ found ++ t ∷ [] → Taken (mark mark'.Comma) ts x rest →
    heads (one terminal'.Expression) rest ≡ false → Reads d (group_end l v) rest o → Reads d (tuple_after l c found t) ts o
tuple_trail {d = d} {rest = rest} {o = o} l c found found' t v e f a h r =
    items_trail _ a h (subst (λ w. Reads d (group_end l w) rest o) (e ∙ ap (λ g. tuple c (trees g) true) f ∙ trailed_tuple c found t) r)

pub tuple_go : {d : ℕ} {ts rest : List Token} {x : Token} {o : Outcome} (l c : ℕ) (found found' : List Tree) (t : Tree) →
    found' ≡ found ++ t ∷ [] → Taken (mark mark'.Comma) ts x rest → heads (one terminal'.Expression) rest ≡ true →
    Reads d (reads expr (λ v. tuple_after l c found' v)) rest o → Reads d (tuple_after l c found t) ts o
tuple_go {d = d} {rest = rest} {o = o} l c found found' t f a h r =
    let s = subst (λ g. Reads d (reads expr (λ v. tuple_after l c g v)) rest o) f r in
    items_go _ a h (covers_read _ _ _ (λ v. covers_read _ _ _ (λ u. covers_taken _ _ _ (λ y. covers_given _ _
    (ap (λ w. group l (tuple c (closed w) (trails w))) (onto_one_more found t (cons v u)))))) _ _ _ s)

-- brackets
pub item_stop : {d : ℕ} {ts : List Token} {o : Outcome} (l : ℕ) (found found' : List Tree) (t : Tree) →
    found' ≡ found ++ t ∷ [] → heads (mark mark'.Comma) ts ≡ false →
    Reads d (list_end l (trees found')) ts o → Reads d (item_after l found t) ts o
item_stop {d = d} {ts = ts} {o = o} l found found' t f h r =
    items_stop _ h (subst (λ w. Reads d (list_end l w) ts o)
    (ap trees f ∙ sym (closed_trees (found ++ t ∷ [])) ∙ ap closed (onto_one_more found t nil)) r)

pub item_trail : {d : ℕ} {ts rest : List Token} {x : Token} {o : Outcome} (l : ℕ) (found found' : List Tree) (t : Tree) →
    found' ≡ found ++ t ∷ [] → Taken (mark mark'.Comma) ts x rest → heads (one terminal'.Expression) rest ≡ false →
    Reads d (list_end l (trees found')) rest o → Reads d (item_after l found t) ts o
item_trail {d = d} {rest = rest} {o = o} l found found' t f a h r =
    items_trail _ a h (subst (λ w. Reads d (list_end l w) rest o)
    (ap trees f ∙ sym (closed_trailing (found ++ t ∷ [])) ∙ ap closed (onto_one_more found t absent)) r)

pub item_go : {d : ℕ} {ts rest : List Token} {x : Token} {o : Outcome} (l : ℕ) (found found' : List Tree) (t : Tree) →
    found' ≡ found ++ t ∷ [] → Taken (mark mark'.Comma) ts x rest → heads (one terminal'.Expression) rest ≡ true →
    Reads d (reads expr (λ v. item_after l found' v)) rest o → Reads d (item_after l found t) ts o
item_go {d = d} {rest = rest} {o = o} l found found' t f a h r =
    let s = subst (λ g. Reads d (reads expr (λ v. item_after l g v)) rest o) f r in
    items_go _ a h (covers_read _ _ _ (λ v. covers_read _ _ _ (λ u. covers_taken _ _ _ (λ y. covers_given _ _
    (ap (λ w. list l (closed w)) (onto_one_more found t (cons v u)))))) _ _ _ s)

pub test_more : {d : ℕ} {ts : List Token} {o : Outcome} (l : ℕ) (t n s : Tree) (found found' : List Tree) (v : Tree) →
    found' ≡ found ++ v ∷ [] → Reads d (tests_from l t n s found') ts o → Reads d (test_after l t n s found v) ts o
test_more {d = d} {ts = ts} {o = o} l t n s found found' v f r =
    let q = subst (λ g. Reads d (tests_from l t n s g) ts o) f r in
    covers_read _ _ _ (λ u. covers_taken _ _ _ (λ y. covers_given _ _ (ap (λ w. comprehension l t n s w) (onto_one_more found v u)))) _ _ _ q

pub tests_none_yet : {d : ℕ} {ts : List Token} {o : Outcome} (l : ℕ) (t n s v : Tree) (found : List Tree) → found ≡ [] → s ≡ v →
    Reads d (tests_from l t n s found) ts o → Reads d (tests_from l t n v []) ts o
tests_none_yet {d = d} {ts = ts} {o = o} l t n s v found e p r =
    subst (λ w. Reads d (tests_from l t n w []) ts o) p (subst (λ g. Reads d (tests_from l t n s g) ts o) e r)

-- braces
pub value_stop : {d : ℕ} {ts : List Token} {o : Outcome} (l : ℕ) (found found' : List Tree) (k : Tree) (c : ℕ) (v : Tree) →
    found' ≡ found ++ pair c k v ∷ [] → heads (mark mark'.Comma) ts ≡ false →
    Reads d (dict_end l (trees found')) ts o → Reads d (value_after l found k c v) ts o
value_stop {d = d} {ts = ts} {o = o} l found found' k c v f h r =
    pairs_stop _ h (subst (λ w. Reads d (dict_end l w) ts o)
    (ap trees f ∙ sym (onto_all (found ++ pair c k v ∷ [])) ∙ onto_one_more found (pair c k v) nil) r)

pub value_trail : {d : ℕ} {ts rest : List Token} {x : Token} {o : Outcome} (l : ℕ) (found found' : List Tree) (k : Tree) (c : ℕ) (v : Tree) →
    found' ≡ found ++ pair c k v ∷ [] → Taken (mark mark'.Comma) ts x rest → heads (one terminal'.Expression) rest ≡ false →
    Reads d (dict_end l (trees found')) rest o → Reads d (value_after l found k c v) ts o
value_trail {d = d} {rest = rest} {o = o} l found found' k c v f a h r =
    pairs_comma _ a (pairs_none _ h (subst (λ w. Reads d (dict_end l w) rest o)
    (ap trees f ∙ sym (onto_all (found ++ pair c k v ∷ [])) ∙ onto_one_more found (pair c k v) nil) r))

pub value_go : {d : ℕ} {ts rest : List Token} {x : Token} {o : Outcome} (l : ℕ) (found found' : List Tree) (k : Tree) (c : ℕ) (v : Tree) →
    found' ≡ found ++ pair c k v ∷ [] → Taken (mark mark'.Comma) ts x rest → heads (one terminal'.Expression) rest ≡ true →
    Reads d (reads expr (λ t. key_after l found' t)) rest o → Reads d (value_after l found k c v) ts o
value_go {d = d} {rest = rest} {o = o} l found found' k c v f a h r =
    let s = subst (λ g. Reads d (reads expr (λ t. key_after l g t)) rest o) f r in
    pairs_comma _ a (pairs_open _ h (covers_read _ _ _ (λ t. covers_taken _ _ _ (λ y. covers_read _ _ _ (λ w. covers_read _ _ _ (λ u. covers_taken _ _ _ (λ z. covers_given _ _
    (ap (dict l) (onto_one_more found (pair c k v) (cons (pair y.line t w) u)))))))) _ _ _ s))

-- calls
pub arg_stop : {d : ℕ} {ts : List Token} {o : Outcome} (l : ℕ) (found found' : List Tree) (t : Tree) →
    found' ≡ found ++ t ∷ [] → is_name t && heads (mark mark'.Assign) ts ≡ false → heads (mark mark'.Comma) ts ≡ false →
    Reads d (call_end l (trees found')) ts o → Reads d (argument_after l found t) ts o
arg_stop {d = d} {ts = ts} {o = o} l found found' t f p h r =
    args_stop _ t p h (subst (λ w. Reads d (call_end l w) ts o)
    (ap trees f ∙ sym (onto_all (found ++ t ∷ [])) ∙ onto_one_more found t nil) r)

pub arg_trail : {d : ℕ} {ts rest : List Token} {x : Token} {o : Outcome} (l : ℕ) (found found' : List Tree) (t : Tree) →
    found' ≡ found ++ t ∷ [] → is_name t && heads (mark mark'.Assign) ts ≡ false → Taken (mark mark'.Comma) ts x rest →
    heads (one terminal'.Expression) rest ≡ false → Reads d (call_end l (trees found')) rest o → Reads d (argument_after l found t) ts o
arg_trail {d = d} {rest = rest} {o = o} l found found' t f p a h r =
    args_go _ t p a (args_none _ h (subst (λ w. Reads d (call_end l w) rest o)
    (ap trees f ∙ sym (onto_all (found ++ t ∷ [])) ∙ onto_one_more found t nil) r))

pub arg_go : {d : ℕ} {ts rest : List Token} {x : Token} {o : Outcome} (l : ℕ) (found found' : List Tree) (t : Tree) →
    found' ≡ found ++ t ∷ [] → is_name t && heads (mark mark'.Assign) ts ≡ false → Taken (mark mark'.Comma) ts x rest →
    heads (one terminal'.Expression) rest ≡ true → Reads d (reads expr (λ v. argument_after l found' v)) rest o →
    Reads d (argument_after l found t) ts o
arg_go {d = d} {rest = rest} {o = o} l found found' t f p a h r =
    let s = subst (λ g. Reads d (reads expr (λ v. argument_after l g v)) rest o) f r in
    args_go _ t p a (args_open _ h (covers_read _ _ _ (λ v. covers_read _ _ _ (λ u. covers_taken _ _ _ (λ y. covers_given _ _
    (ap (call l) (onto_one_more found t u))))) _ _ _ s))

pub named_first : {d : ℕ} {ts rest : List Token} {x : Token} {o : Outcome} (l : ℕ) (found : List Tree) (nl : ℕ) (n : List ℕ) (seen : List (List ℕ)) →
    seen ≡ n ∷ [] → Taken (mark mark'.Assign) ts x rest → Reads d (reads expr (λ v. named_after l found seen nl n v)) rest o →
    Reads d (argument_after l found (name nl n)) ts o
named_first {d = d} {rest = rest} {o = o} l found nl n seen e a r =
    named_open _ nl n a (subst (λ s. Reads d (reads expr (λ v. named_after l found s nl n v)) rest o) e r)

pub named_last : {d : ℕ} {ts : List Token} {o : Outcome} (l : ℕ) (found found' : List Tree) (seen : List (List ℕ)) (nl : ℕ) (n : List ℕ) (v : Tree) →
    found' ≡ found ++ named nl n v ∷ [] → heads (mark mark'.Comma) ts ≡ false →
    Reads d (call_end l (trees found')) ts o → Reads d (named_after l found seen nl n v) ts o
named_last {d = d} {ts = ts} {o = o} l found found' seen nl n v f h r =
    named_stop _ seen h (subst (λ w. Reads d (call_end l w) ts o)
    (ap trees f ∙ sym (onto_all (found ++ named nl n v ∷ [])) ∙ onto_one_more found (named nl n v) nil) r)

pub named_more : {d : ℕ} {ts rest : List Token} {x : Token} {o : Outcome} (l : ℕ) (found found' : List Tree) (seen : List (List ℕ)) (nl : ℕ) (n : List ℕ) (v : Tree) →
    found' ≡ found ++ named nl n v ∷ [] → Taken (mark mark'.Comma) ts x rest →
    Reads d (named_from_here l found' seen) rest o → Reads d (named_after l found seen nl n v) ts o
named_more {d = d} {rest = rest} {o = o} l found found' seen nl n v f a r =
    let s = subst (λ g. Reads d (named_from_here l g seen) rest o) f r in
    named_comma _ seen a (covers_read _ _ _ (λ u. covers_taken _ _ _ (λ y. covers_given _ _ (ap (call l) (onto_one_more found (named nl n v) u)))) _ _ _ s)

pub no_more_named : {d : ℕ} {ts : List Token} {o : Outcome} (l : ℕ) (found : List Tree) (seen : List (List ℕ)) →
    heads (fresh seen) ts ≡ false → Reads d (call_end l (trees found)) ts o → Reads d (named_from_here l found seen) ts o
no_more_named {d = d} {ts = ts} {o = o} l found seen h r =
    named_none _ seen h (subst (λ w. Reads d (call_end l w) ts o) (sym (onto_all found)) r)

pub another_named : {d : ℕ} {ts rest rest' : List Token} {y : Token} {o : Outcome} (l : ℕ) (found : List Tree) (seen seen' : List (List ℕ)) (nl : ℕ) (n m : List ℕ) →
    FreshAt seen ts nl n rest → Taken (mark mark'.Assign) rest y rest' → m ≡ n → seen' ≡ seen ++ n ∷ [] →
    Reads d (reads expr (λ v. named_after l found seen' nl m v)) rest' o → Reads d (named_from_here l found seen) ts o
another_named {d = d} {rest' = rest'} {o = o} l found seen seen' nl n m t a p e r =
    let q = subst (λ s. Reads d (reads expr (λ v. named_after l found s nl m v)) rest' o) e r in
    let s = subst (λ k. Reads d (reads expr (λ v. named_after l found (seen ++ n ∷ []) nl k v)) rest' o) p q in
    named_go _ seen t.taking a (rw (← t.called, ← t.on_line) s)

-- nothing was read in the brackets yet
pub item_first : {d : ℕ} {ts : List Token} {o : Outcome} (l : ℕ) (t : Tree) (found : List Expr) → found ≡ [] →
    heads (keyword keyword'.For) ts ≡ false → Reads d (item_after l (map expr_tree found) t) ts o → Reads d (list_after l t) ts o
item_first {d = d} {ts = ts} {o = o} l t found e h r =
    let s = subst (λ g. Reads d (item_after l g t) ts o) (none expr_tree found e) r in
    reads_gives (by_production (listed_rest l t) (no_takes _ _ _ _ h (last_production _ s)))

pub dict_opens : {d : ℕ} {ts : List Token} {o : Outcome} (l : ℕ) (found : List Tree) → found ≡ [] → heads (one terminal'.Expression) ts ≡ true →
    Reads d (reads expr (λ t. key_after l found t)) ts o → Reads d (pick (dict_body l) ts) ts o
dict_opens {d = d} {ts = ts} {o = o} l found e h r =
    let s = subst (λ g. Reads d (reads expr (λ t. key_after l g t)) ts o) e r in
    by_production (dict_body l) (last_production _ (pairs_open _ h s))

pub dict_empty : {d : ℕ} {ts : List Token} {o : Outcome} (l : ℕ) (found : List Tree) → found ≡ [] → heads (one terminal'.Expression) ts ≡ false →
    Reads d (dict_end l (trees found)) ts o → Reads d (pick (dict_body l) ts) ts o
dict_empty {d = d} {ts = ts} {o = o} l found e h r =
    by_production (dict_body l) (last_production _ (pairs_none _ h (subst (λ g. Reads d (dict_end l (trees g)) ts o) e r)))

pub call_opens : {d : ℕ} {ts : List Token} {o : Outcome} (l : ℕ) (found : List Tree) → found ≡ [] → heads (one terminal'.Expression) ts ≡ true →
    Reads d (reads expr (λ t. argument_after l found t)) ts o → Reads d (pick (call_body l) ts) ts o
call_opens {d = d} {ts = ts} {o = o} l found e h r =
    let s = subst (λ g. Reads d (reads expr (λ t. argument_after l g t)) ts o) e r in
    by_production (call_body l) (last_production _ (args_open _ h s))

pub call_empty : {d : ℕ} {ts : List Token} {o : Outcome} (l : ℕ) (found : List Tree) → found ≡ [] → heads (one terminal'.Expression) ts ≡ false →
    Reads d (call_end l (trees found)) ts o → Reads d (pick (call_body l) ts) ts o
call_empty {d = d} {ts = ts} {o = o} l found e h r =
    by_production (call_body l) (last_production _ (args_none _ h (subst (λ g. Reads d (call_end l (trees g)) ts o) e r)))

-- subscripts
pub slice_begins : {d : ℕ} {ts rest : List Token} {x : Token} {o : Outcome} (l : ℕ) (t u : Tree) → u ≡ t →
    Taken (mark mark'.Colon) ts x rest → Reads d (sliced l u) rest o → Reads d (lower_after l t) ts o
slice_begins {d = d} {rest = rest} {o = o} l t u e a r =
    reads_gives (by_production (subscript_rest l t) (yes_takes _ _ a (subst (λ v. Reads d (sliced l v) rest o) e r)))

pub upper_given : {d : ℕ} {ts : List Token} {o : Outcome} (l : ℕ) (t u v : Tree) → v ≡ u →
    Reads d (upper_after l t v) ts o → Reads d (upper_after l t u) ts o
upper_given {d = d} {ts = ts} {o = o} l t u v e r = subst (λ w. Reads d (upper_after l t w) ts o) e r

-- the rest of a comprehension behind its names
pub comprehension_opens : {d : ℕ} {ts rest rest' : List Token} {x : Token} {n : Tree} {o : Outcome} (l : ℕ) (t u : Tree) → u ≡ t →
    Reads d (pick names ts) ts (ok n rest) → Taken (keyword keyword'.In) rest x rest' →
    Reads d (reads plain (λ s. source_after l u n s)) rest' o → Reads d (comprehended l t) ts o
comprehension_opens {d = d} {rest = rest} {rest' = rest'} {n = n} {o = o} l t u e r a s =
    r_read n rest r (takes_at _ a (subst (λ v. Reads d (reads plain (λ s. source_after l v n s)) rest' o) e s))

pub not_a_name : {a : Bool} (b : Bool) → false ≡ a → a && b ≡ false
not_a_name b e = rw (← e) refl

-- one name is seen
pub seen_one : (none seen : List (List ℕ)) (n m : List ℕ) → none ≡ [] → seen ≡ none ++ m ∷ [] → m ≡ n → seen ≡ n ∷ []
seen_one none seen n m e f p = f ∙ ap (λ l. l ++ m ∷ []) e ∙ ap (λ k. k ∷ []) p

rest_of_leaves : (l : ℕ) (k : TokenKind) → ((n : List ℕ) → k ≡ kind'.Name n → ⊥) → ((n : ℕ) → k ≡ kind'.Integer n → ⊥) →
    constant l (constant_in k) ≡ leaf_at l k
rest_of_leaves l (kind'.Name n) a b = absurd (a n refl)
rest_of_leaves l (kind'.Integer n) a b = absurd (b n refl)
rest_of_leaves l _ a b = refl

-- a token that is no name and no number stands for a constant
pub leaf_rest : (l : ℕ) (k : TokenKind) (v : Constant) (t : Tree) → ((n : List ℕ) → k ≡ kind'.Name n → ⊥) → ((n : ℕ) → k ≡ kind'.Integer n → ⊥) →
    t ≡ constant l v → v ≡ constant_in k → t ≡ leaf_at l k
leaf_rest l k v t a b e f = e ∙ ap (constant l) f ∙ rest_of_leaves l k a b

-- a call's stop is the whole's
pub stops_here : (b : Body) (ts : List Token) (r : Result NextDisplay Stop) (P : Outcome → Type 0) (s : Stop) → IsErrAnd r (λ e. e ≡ s) →
    ((w : Why) (rest : List Token) → P (fault w rest) → (d : ℕ) → Reads d b ts (fault w rest)) → AgreesOnStop s P → Continues b ts r
stops_here b ts (Ok n) P s h f a = elim h [ ]
stops_here b ts (Err e) P s h f a = rw h (stops_over s P _ f a)

-- what a box that was made stands for
pub box_made : (r : Result (Box Expr Global) (AllocFailed Expr)) (e : Expr) (t : Tree) → IfOk r (λ b. b.value ≡ e) → expr_tree e ≡ t → IfOk r (λ b. expr_tree b.value ≡ t)
box_made (Ok b) e t h p = ap expr_tree h ∙ p
box_made (Err f) e t h p = tt
