-- What is read in brackets behind an expression: each way on, over plain variables.
use Rattle.std.proofs.Common.{◌≡◌, ℕ, List, [], ◌∷◌, ◌++◌, ◌&&◌, true, false, refl, ap, subst, Result, Ok, Err, Bool, Some, None}
use Rattle.py_token.specs.declared.keyword.Keyword.TheVariants as keyword'
use Rattle.py_token.specs.declared.mark.Mark.TheVariants as mark'
use Rattle.py_token.specs.declared.token.Token.{Token}
use Rattle.std.specs.declared.option.Option.{Option}
use Rattle.std.specs.declared.boxed.Box.{Box}
use Rattle.std.specs.declared.alloc.Global.{Global}
use Rattle.py_tree.specs.declared.expr.Expr.{Expr}
use Rattle.py_tree.specs.declared.expr.Link.TheVariants as link'
use Rattle.py_tree.proofs.Views.{link_tree-Slice}
use Rattle.py_tree.specs.Tree.{Tree, nil, cons, absent, trees, tuple, pair, named, name, slice, link_tree}
use Rattle.py_parse.specs.declared.display.NextDisplay.{NextDisplay}
use Rattle.py_parse.specs.declared.display.NextDisplay.TheVariants as next'
use Rattle.py_parse.specs.declared.link.NextLink.{NextLink}
use Rattle.py_parse.specs.declared.link.NextLink.TheVariants as follow'
use Rattle.py_parse.specs.declared.stop.Stop.{Stop}
use Rattle.py_parse.specs.declared.terminal.Terminal.TheVariants as terminal'
use Rattle.py_parse.specs.Terminals.{Want, one, fresh, fits, heads, name_in}
use Rattle.py_parse.specs.Grammar.{Body, gives, takes, reads, mark, keyword, first_named, is_name, closed, trails, expr, plain as unchosen, exprs, exprs_rest, items, items_rest, tests, one_pair, pairs, pairs_rest, args, args_rest, named_args, named_rest, upper}
use Rattle.py_parse.specs.Reading.{Outcome, fault, unfit, Reads, r_taken, r_refused, r_given, r_read, r_part_fault, pick, choose, beginning}
use Rattle.py_parse.specs.Agrees.{Taken, onto, optional_box}
use Rattle.py_parse.specs.Open.{GoesOn, Continues, LinkGoesOn, LinkContinues}
use Rattle.py_parse.proofs.Flat.{reads_by}
use Rattle.py_parse.proofs.Cases.{by_production, last_production, takes_at, yes_takes, no_takes, yes_reads, no_reads, yes_gives, reads_gives, stops_over}

at_odds : {b : Bool} → b ≡ true → b ≡ false → ⊥
at_odds p q = cc

taken_away : {d : ℕ} {w : Want} {f : Token → Body} {x : Token} {rest : List Token} {o : Outcome} →
    fits w x.kind ≡ true → Reads d (takes w f) (x ∷ rest) o → Reads d (f x) rest o
taken_away h (r_taken p r) = r
taken_away h (r_refused p) = absurd (at_odds h p)

-- what is read behind the token that stands here
pub untake : {d : ℕ} {w : Want} {f : Token → Body} {x : Token} {ts rest : List Token} {o : Outcome} →
    Taken w ts x rest → Reads d (takes w f) ts o → Reads d (f x) rest o
untake {d = d} {w = w} {f = f} {o = o} t r = taken_away t.fitting (subst (λ l. Reads d (takes w f) l o) t.parts r)

-- what is said of one body, carried over to another
pub goes_over : (b c : Body) (ts us : List Token) (n : NextDisplay) → ((d : ℕ) (o : Outcome) → Reads d b ts o → Reads d c us o) →
    GoesOn b ts n → GoesOn c us n
goes_over b c ts us (next'.More s rest) f g = λ d o r. f d o (g d o r)
goes_over b c ts us (next'.Closed e rest) f g = λ d. f d _ (g d)

pub continues_over : (b c : Body) (ts us : List Token) (r : Result NextDisplay Stop) →
    ((d : ℕ) (o : Outcome) → Reads d b ts o → Reads d c us o) → Continues b ts r → Continues c us r
continues_over b c ts us (Ok n) f g = goes_over b c ts us n f g
continues_over b c ts us (Err s) f g = stops_over s _ _ (λ w rest h d. f d _ (h d)) g

pub link_goes_over : (b c : Body) (ts us : List Token) (n : NextLink) → ((d : ℕ) (o : Outcome) → Reads d b ts o → Reads d c us o) →
    LinkGoesOn b ts n → LinkGoesOn c us n
link_goes_over b c ts us (follow'.More s rest) f g = λ d o r. f d o (g d o r)
link_goes_over b c ts us (follow'.Closed e rest) f g = λ d. f d _ (g d)

pub link_continues_over : (b c : Body) (ts us : List Token) (r : Result NextLink Stop) →
    ((d : ℕ) (o : Outcome) → Reads d b ts o → Reads d c us o) → LinkContinues b ts r → LinkContinues c us r
link_continues_over b c ts us (Ok n) f g = link_goes_over b c ts us n f g
link_continues_over b c ts us (Err s) f g = stops_over s _ _ (λ w rest h d. f d _ (h d)) g

-- lists with one more at their end
pub onto_one_more : (xs : List Tree) (x u : Tree) → onto (xs ++ x ∷ []) u ≡ onto xs (cons x u)
onto_one_more [] x u = refl
onto_one_more (y ∷ ys) x u = ap (cons y) (onto_one_more ys x u)

pub closed_trees : (xs : List Tree) → closed (onto xs nil) ≡ trees xs
closed_trees [] = refl
closed_trees (x ∷ xs) = ap (cons x) (closed_trees xs)

pub closed_trailing : (xs : List Tree) → closed (onto xs absent) ≡ trees xs
closed_trailing [] = refl
closed_trailing (x ∷ xs) = ap (cons x) (closed_trailing xs)

pub trails_not : (xs : List Tree) → trails (onto xs nil) ≡ false
trails_not [] = refl
trails_not (x ∷ xs) = trails_not xs

pub trails_yes : (xs : List Tree) → trails (onto xs absent) ≡ true
trails_yes [] = refl
trails_yes (x ∷ xs) = trails_yes xs

pub onto_all : (xs : List Tree) → onto xs nil ≡ trees xs
onto_all [] = refl
onto_all (x ∷ xs) = ap (cons x) (onto_all xs)

-- items behind commas
pub items_stop : {d : ℕ} {ts : List Token} {o : Outcome} (k : Tree → Body) →
    heads (mark mark'.Comma) ts ≡ false → Reads d (k nil) ts o → Reads d (reads items_rest k) ts o
items_stop {ts = ts} k h r = r_read nil ts (by_production items_rest (no_takes _ _ _ _ h (yes_gives nil []))) r

pub items_trail : {d : ℕ} {ts rest : List Token} {x : Token} {o : Outcome} (k : Tree → Body) →
    Taken (mark mark'.Comma) ts x rest → heads (one terminal'.Expression) rest ≡ false → Reads d (k absent) rest o → Reads d (reads items_rest k) ts o
unfolding beginning
items_trail {rest = rest} k t h r =
    r_read absent rest (by_production items_rest (yes_takes _ _ t (reads_gives (by_production items (no_reads _ _ _ _ h (yes_gives absent [])))))) r

pub items_go : {d : ℕ} {ts rest : List Token} {x : Token} {o : Outcome} (k : Tree → Body) →
    Taken (mark mark'.Comma) ts x rest → heads (one terminal'.Expression) rest ≡ true →
    Reads d (reads expr (λ t. reads items_rest (λ u. k (cons t u)))) rest o → Reads d (reads items_rest k) ts o
unfolding beginning
items_go k t h r =
    reads_by items_rest k (takes (mark mark'.Comma) (λ _. reads expr (λ t. reads items_rest (λ u. gives (cons t u)))))
    (λ o' s. by_production items_rest (yes_takes _ _ t (reads_gives (by_production items (yes_reads _ _ h (untake t s))))))
    (takes_at _ t r)

-- behind the first expression of several, or of one
pub exprs_stop : {d : ℕ} {ts : List Token} {o : Outcome} (k : Tree → Body) (t : Tree) →
    heads (mark mark'.Comma) ts ≡ false → Reads d (k t) ts o → Reads d (reads (exprs_rest t) k) ts o
exprs_stop {ts = ts} k t h r = r_read t ts (by_production (exprs_rest t) (no_takes _ _ _ _ h (yes_gives t []))) r

pub exprs_trail : {d : ℕ} {ts rest : List Token} {x : Token} {o : Outcome} (k : Tree → Body) (t : Tree) →
    Taken (mark mark'.Comma) ts x rest → heads (one terminal'.Expression) rest ≡ false →
    Reads d (k (tuple x.line (cons t nil) true)) rest o → Reads d (reads (exprs_rest t) k) ts o
unfolding beginning
exprs_trail {rest = rest} {x = x} k t a h r =
    r_read (tuple x.line (cons t nil) true) rest
    (by_production (exprs_rest t) (yes_takes _ _ a (r_read absent rest (by_production items (no_reads _ _ _ _ h (yes_gives absent []))) r_given)))
    r

pub exprs_go : {d : ℕ} {ts rest : List Token} {x : Token} {o : Outcome} (k : Tree → Body) (t : Tree) →
    Taken (mark mark'.Comma) ts x rest → heads (one terminal'.Expression) rest ≡ true →
    Reads d (reads expr (λ v. reads items_rest (λ u. k (tuple x.line (cons t (closed (cons v u))) (trails (cons t (cons v u))))))) rest o →
    Reads d (reads (exprs_rest t) k) ts o
unfolding beginning
exprs_go k t a h r =
    reads_by (exprs_rest t) k
    (takes (mark mark'.Comma) (λ x. reads expr (λ v. reads items_rest (λ u. gives (tuple x.line (cons t (closed (cons v u))) (trails (cons t (cons v u))))))))
    (λ o' s. by_production (exprs_rest t) (yes_takes _ _ a (reads_by items _ (reads expr (λ v. reads items_rest (λ u. gives (cons v u)))) (λ o'' q. by_production items (yes_reads _ _ h q)) (untake a s))))
    (takes_at _ a r)

-- a list of expressions
pub exprs_open : {d : ℕ} {ts : List Token} {o : Outcome} (k : Tree → Body) →
    Reads d (reads expr (λ t. reads (exprs_rest t) k)) ts o → Reads d (reads exprs k) ts o
exprs_open k r = reads_by exprs k (reads expr (λ t. reads (exprs_rest t) gives)) (λ o' s. by_production exprs (last_production _ s)) r

-- the tests of a comprehension
pub tests_stop : {d : ℕ} {ts : List Token} {o : Outcome} (k : Tree → Body) →
    heads (keyword keyword'.If) ts ≡ false → Reads d (k nil) ts o → Reads d (reads tests k) ts o
tests_stop {ts = ts} k h r = r_read nil ts (by_production tests (no_takes _ _ _ _ h (yes_gives nil []))) r

pub tests_go : {d : ℕ} {ts rest : List Token} {x : Token} {o : Outcome} (k : Tree → Body) →
    Taken (keyword keyword'.If) ts x rest → Reads d (reads unchosen (λ t. reads tests (λ u. k (cons t u)))) rest o → Reads d (reads tests k) ts o
tests_go k t r =
    reads_by tests k (takes (keyword keyword'.If) (λ _. reads unchosen (λ t. reads tests (λ u. gives (cons t u)))))
    (λ o' s. by_production tests (yes_takes _ _ t (untake t s)))
    (takes_at _ t r)

-- the pairs of a dict
pub pair_open : {d : ℕ} {ts : List Token} {o : Outcome} (k : Tree → Body) →
    Reads d (reads expr (λ t. takes (mark mark'.Colon) (λ x. reads expr (λ v. k (pair x.line t v))))) ts o → Reads d (reads one_pair k) ts o
pair_open k r =
    reads_by one_pair k (reads expr (λ t. takes (mark mark'.Colon) (λ x. reads expr (λ v. gives (pair x.line t v)))))
    (λ o' s. by_production one_pair (last_production _ s)) r

pub pairs_open : {d : ℕ} {ts : List Token} {o : Outcome} (k : Tree → Body) → heads (one terminal'.Expression) ts ≡ true →
    Reads d (reads expr (λ t. takes (mark mark'.Colon) (λ x. reads expr (λ v. reads pairs_rest (λ u. k (cons (pair x.line t v) u)))))) ts o →
    Reads d (reads pairs k) ts o
unfolding beginning
pairs_open k h r =
    reads_by pairs k (reads one_pair (λ t. reads pairs_rest (λ u. gives (cons t u))))
    (λ o' s. by_production pairs (yes_reads _ _ h s))
    (pair_open (λ t. reads pairs_rest (λ u. k (cons t u))) r)

pub pairs_none : {d : ℕ} {ts : List Token} {o : Outcome} (k : Tree → Body) → heads (one terminal'.Expression) ts ≡ false →
    Reads d (k nil) ts o → Reads d (reads pairs k) ts o
unfolding beginning
pairs_none {ts = ts} k h r = r_read nil ts (by_production pairs (no_reads _ _ _ _ h (yes_gives nil []))) r

pub pairs_stop : {d : ℕ} {ts : List Token} {o : Outcome} (k : Tree → Body) →
    heads (mark mark'.Comma) ts ≡ false → Reads d (k nil) ts o → Reads d (reads pairs_rest k) ts o
pairs_stop {ts = ts} k h r = r_read nil ts (by_production pairs_rest (no_takes _ _ _ _ h (yes_gives nil []))) r

pub pairs_comma : {d : ℕ} {ts rest : List Token} {x : Token} {o : Outcome} (k : Tree → Body) →
    Taken (mark mark'.Comma) ts x rest → Reads d (reads pairs k) rest o → Reads d (reads pairs_rest k) ts o
pairs_comma k t r =
    reads_by pairs_rest k (takes (mark mark'.Comma) (λ _. reads pairs gives))
    (λ o' s. by_production pairs_rest (yes_takes _ _ t (untake t s)))
    (takes_at _ t r)

-- arguments without a name
pub args_none : {d : ℕ} {ts : List Token} {o : Outcome} (k : Tree → Body) → heads (one terminal'.Expression) ts ≡ false →
    Reads d (k nil) ts o → Reads d (reads args k) ts o
unfolding beginning
args_none {ts = ts} k h r = r_read nil ts (by_production args (no_reads _ _ _ _ h (yes_gives nil []))) r

pub args_open : {d : ℕ} {ts : List Token} {o : Outcome} (k : Tree → Body) → heads (one terminal'.Expression) ts ≡ true →
    Reads d (reads expr (λ t. reads (args_rest t) k)) ts o → Reads d (reads args k) ts o
unfolding beginning
args_open k h r =
    reads_by args k (reads expr (λ t. reads (args_rest t) gives)) (λ o' s. by_production args (yes_reads _ _ h s)) r

-- an expression that is no name in front of `=`
plain : {d : ℕ} {ts : List Token} {o : Outcome} (t : Tree) (c : Body) (cs : List Body) →
    is_name t && heads (mark mark'.Assign) ts ≡ false → Reads d (choose (c ∷ cs) ts) ts o →
    Reads d (choose (first_named t (c ∷ cs)) ts) ts o
plain (name l n) c cs h r = no_takes _ _ _ _ h r
plain _ c cs h r = r

pub args_stop : {d : ℕ} {ts : List Token} {o : Outcome} (k : Tree → Body) (t : Tree) →
    is_name t && heads (mark mark'.Assign) ts ≡ false → heads (mark mark'.Comma) ts ≡ false →
    Reads d (k (cons t nil)) ts o → Reads d (reads (args_rest t) k) ts o
args_stop {ts = ts} k t p h r =
    r_read (cons t nil) ts (by_production (args_rest t) (plain t _ _ p (no_takes _ _ _ _ h (yes_gives (cons t nil) [])))) r

pub args_go : {d : ℕ} {ts rest : List Token} {x : Token} {o : Outcome} (k : Tree → Body) (t : Tree) →
    is_name t && heads (mark mark'.Assign) ts ≡ false → Taken (mark mark'.Comma) ts x rest →
    Reads d (reads args (λ u. k (cons t u))) rest o → Reads d (reads (args_rest t) k) ts o
args_go k t p a r =
    reads_by (args_rest t) k (takes (mark mark'.Comma) (λ _. reads args (λ u. gives (cons t u))))
    (λ o' s. by_production (args_rest t) (plain t _ _ p (yes_takes _ _ a (untake a s))))
    (takes_at _ a r)

-- the first name in front of `=`
pub named_open : {d : ℕ} {ts rest : List Token} {x : Token} {o : Outcome} (k : Tree → Body) (l : ℕ) (n : List ℕ) →
    Taken (mark mark'.Assign) ts x rest → Reads d (reads expr (λ v. reads (named_rest (n ∷ [])) (λ u. k (cons (named l n v) u)))) rest o →
    Reads d (reads (args_rest (name l n)) k) ts o
named_open k l n a r =
    reads_by (args_rest (name l n)) k
    (takes (mark mark'.Assign) (λ _. reads expr (λ v. reads (named_rest (n ∷ [])) (λ u. gives (cons (named l n v) u)))))
    (λ o' s. by_production (args_rest (name l n)) (yes_takes _ _ a (untake a s)))
    (takes_at _ a r)

pub named_stop : {d : ℕ} {ts : List Token} {o : Outcome} (k : Tree → Body) (seen : List (List ℕ)) →
    heads (mark mark'.Comma) ts ≡ false → Reads d (k nil) ts o → Reads d (reads (named_rest seen) k) ts o
named_stop {ts = ts} k seen h r = r_read nil ts (by_production (named_rest seen) (no_takes _ _ _ _ h (yes_gives nil []))) r

pub named_comma : {d : ℕ} {ts rest : List Token} {x : Token} {o : Outcome} (k : Tree → Body) (seen : List (List ℕ)) →
    Taken (mark mark'.Comma) ts x rest → Reads d (reads (named_args seen) k) rest o → Reads d (reads (named_rest seen) k) ts o
named_comma k seen t r =
    reads_by (named_rest seen) k (takes (mark mark'.Comma) (λ _. reads (named_args seen) gives))
    (λ o' s. by_production (named_rest seen) (yes_takes _ _ t (untake t s)))
    (takes_at _ t r)

pub named_none : {d : ℕ} {ts : List Token} {o : Outcome} (k : Tree → Body) (seen : List (List ℕ)) → heads (fresh seen) ts ≡ false →
    Reads d (k nil) ts o → Reads d (reads (named_args seen) k) ts o
named_none {ts = ts} k seen h r = r_read nil ts (by_production (named_args seen) (no_takes _ _ _ _ h (yes_gives nil []))) r

pub named_unfit : {d : ℕ} {ts rest : List Token} {x : Token} (k : Tree → Body) (seen : List (List ℕ)) →
    Taken (fresh seen) ts x rest → heads (mark mark'.Assign) rest ≡ false → Reads d (reads (named_args seen) k) ts (fault unfit rest)
named_unfit k seen t h = r_part_fault (by_production (named_args seen) (yes_takes _ _ t (r_refused h)))

pub named_go : {d : ℕ} {ts rest rest' : List Token} {x y : Token} {o : Outcome} (k : Tree → Body) (seen : List (List ℕ)) →
    Taken (fresh seen) ts x rest → Taken (mark mark'.Assign) rest y rest' →
    Reads d (reads expr (λ v. reads (named_rest (seen ++ name_in x.kind ∷ [])) (λ u. k (cons (named x.line (name_in x.kind) v) u)))) rest' o →
    Reads d (reads (named_args seen) k) ts o
named_go k seen t a r =
    reads_by (named_args seen) k
    (takes (fresh seen) (λ x. takes (mark mark'.Assign) (λ _. reads expr (λ v. reads (named_rest (seen ++ name_in x.kind ∷ [])) (λ u. gives (cons (named x.line (name_in x.kind) v) u))))))
    (λ o' s. by_production (named_args seen) (yes_takes _ _ t (untake t s)))
    (takes_at _ t (takes_at _ a r))

-- the end of a slice may be left out
pub upper_none : {d : ℕ} {ts : List Token} {o : Outcome} (k : Tree → Body) → heads (one terminal'.Expression) ts ≡ false →
    Reads d (k absent) ts o → Reads d (reads upper k) ts o
unfolding beginning
upper_none {ts = ts} k h r = r_read absent ts (by_production upper (no_reads _ _ _ _ h (yes_gives absent []))) r

pub upper_open : {d : ℕ} {ts : List Token} {o : Outcome} (k : Tree → Body) → heads (one terminal'.Expression) ts ≡ true →
    Reads d (reads expr k) ts o → Reads d (reads upper k) ts o
unfolding beginning
upper_open k h r = reads_by upper k (reads expr gives) (λ o' s. by_production upper (yes_reads _ _ h s)) r

pub slice_at : (l : ℕ) (t u : Option (Box Expr Global)) → link_tree (link'.Slice l t u) ≡ slice l (optional_box t) (optional_box u)
slice_at l None None = link_tree-Slice l None None
slice_at l None (Some u) = link_tree-Slice l None (Some u)
slice_at l (Some t) None = link_tree-Slice l (Some t) None
slice_at l (Some t) (Some u) = link_tree-Slice l (Some t) (Some u)

-- the items of a list from the next on
pub items_open : {d : ℕ} {ts : List Token} {o : Outcome} (k : Tree → Body) → heads (one terminal'.Expression) ts ≡ true →
    Reads d (reads expr (λ t. reads items_rest (λ u. k (cons t u)))) ts o → Reads d (reads items k) ts o
unfolding beginning
items_open k h r = reads_by items k (reads expr (λ t. reads items_rest (λ u. gives (cons t u)))) (λ o' s. by_production items (yes_reads _ _ h s)) r

pub items_none : {d : ℕ} {ts : List Token} {o : Outcome} (k : Tree → Body) → heads (one terminal'.Expression) ts ≡ false →
    Reads d (k absent) ts o → Reads d (reads items k) ts o
unfolding beginning
items_none {ts = ts} k h r = r_read absent ts (by_production items (no_reads _ _ _ _ h (yes_gives absent []))) r

pub items_comma : {d : ℕ} {ts rest : List Token} {x : Token} {o : Outcome} (k : Tree → Body) →
    Taken (mark mark'.Comma) ts x rest → Reads d (reads items k) rest o → Reads d (reads items_rest k) ts o
items_comma k t r =
    reads_by items_rest k (takes (mark mark'.Comma) (λ _. reads items gives)) (λ o' s. by_production items_rest (yes_takes _ _ t (untake t s))) (takes_at _ t r)

-- several expressions behind the first comma
pub exprs_more : {d : ℕ} {ts rest : List Token} {x : Token} {o : Outcome} (t : Tree) → Taken (mark mark'.Comma) ts x rest →
    Reads d (reads items (λ u. gives (tuple x.line (cons t (closed u)) (trails (cons t u))))) rest o → Reads d (pick (exprs_rest t) ts) ts o
exprs_more t a r = by_production (exprs_rest t) (yes_takes _ _ a r)
