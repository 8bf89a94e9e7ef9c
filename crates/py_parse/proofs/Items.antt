-- Items with commas between them, as a loop reads them.
use Rattle.std.proofs.Common.{◌≡◌, ℕ, List, [], ◌∷◌, ◌++◌, Bool, true, false, refl, ap, sym, subst, ◌∙◌}
use Rattle.py_token.specs.declared.mark.Mark.TheVariants as mark'
use Rattle.py_token.specs.declared.token.Token.{Token}
use Rattle.py_tree.specs.Tree.{Tree, nil, cons, absent, trees, tuple}
use Rattle.py_parse.specs.declared.terminal.Terminal.TheVariants as terminal'
use Rattle.py_parse.specs.Terminals.{one, heads}
use Rattle.py_parse.specs.Grammar.{Body, gives, reads, mark, expr, exprs, exprs_rest, items, closed, trails}
use Rattle.py_parse.specs.Reading.{Outcome, ok, fault, Why, Reads, r_given, r_read, r_part_fault, pick}
use Rattle.py_parse.specs.Agrees.{Taken, onto, list_end}
use Rattle.py_parse.proofs.Cases.{by_production, last_production, reads_gives}
use Rattle.py_parse.proofs.Flat.{covers_given, covers_read}
use Rattle.py_parse.proofs.Steps.{onto_one_more, closed_trees, closed_trailing, trails_not, trails_yes, items_open, items_none, items_comma, items_stop, exprs_more}

abbrev pub Filled : (Tree → Tree) → List Tree → Tree → Body
Filled f found u = gives (f (onto found u))

-- one more item, and a comma behind it
pub items_one_more : {d : ℕ} {ts rest rest' : List Token} {x : Token} {o : Outcome} (f : Tree → Tree) (found found' : List Tree) (t : Tree) →
    found' ≡ found ++ t ∷ [] → heads (one terminal'.Expression) ts ≡ true → Reads d (pick expr ts) ts (ok t rest) →
    Taken (mark mark'.Comma) rest x rest' → Reads d (reads items (Filled f found')) rest' o → Reads d (reads items (Filled f found)) ts o
items_one_more {d = d} {rest = rest} {rest' = rest'} {o = o} f found found' t e h r a s =
    let q = subst (λ g. Reads d (reads items (Filled f g)) rest' o) e s in
    let p = covers_read items _ _ (λ u. covers_given _ _ (ap f (onto_one_more found t u))) d rest' o q in
    items_open (Filled f found) h (r_read t rest r (items_comma (λ u. Filled f found (cons t u)) a p))

-- one more item, the last
pub items_last : {d : ℕ} {ts rest : List Token} (f : Tree → Tree) (found found' : List Tree) (t : Tree) →
    found' ≡ found ++ t ∷ [] → heads (one terminal'.Expression) ts ≡ true → Reads d (pick expr ts) ts (ok t rest) →
    heads (mark mark'.Comma) rest ≡ false → Reads d (reads items (Filled f found)) ts (ok (f (onto found' nil)) rest)
items_last {d = d} {ts = ts} {rest = rest} f found found' t e h r n =
    let p : f (onto found' nil) ≡ f (onto found (cons t nil)) = ap f (ap (λ g. onto g nil) e ∙ onto_one_more found t nil) in
    subst (λ v. Reads d (reads items (Filled f found)) ts (ok v rest)) (sym p)
    (items_open (Filled f found) h (r_read t rest r (items_stop (λ u. Filled f found (cons t u)) n r_given)))

pub items_fault : {d : ℕ} {ts r9 : List Token} {w : Why} (f : Tree → Tree) (found : List Tree) →
    heads (one terminal'.Expression) ts ≡ true → Reads d (pick expr ts) ts (fault w r9) → Reads d (reads items (Filled f found)) ts (fault w r9)
items_fault f found h r = items_open (Filled f found) h (r_part_fault r)

pub items_over : {d : ℕ} {ts : List Token} (f : Tree → Tree) (found : List Tree) → heads (one terminal'.Expression) ts ≡ false →
    Reads d (reads items (Filled f found)) ts (ok (f (onto found absent)) ts)
items_over f found h = items_none (Filled f found) h r_given

-- expressions with commas between them are a tuple
abbrev pub tuple_at : ℕ → Tree → Tree
tuple_at l u = tuple l (closed u) (trails u)

pub closed_end : (xs : List Tree) (b : Bool) → closed (onto xs (list_end b)) ≡ trees xs
closed_end xs true = closed_trailing xs
closed_end xs false = closed_trees xs

pub trails_end : (xs : List Tree) (b : Bool) → trails (onto xs (list_end b)) ≡ b
trails_end xs true = trails_yes xs
trails_end xs false = trails_not xs

pub tuple_end : (l : ℕ) (xs : List Tree) (b : Bool) → tuple l (trees xs) b ≡ tuple_at l (onto xs (list_end b))
tuple_end l xs b = rw (closed_end xs b, trails_end xs b) refl

pub exprs_one : {d : ℕ} {ts rest : List Token} {t : Tree} {o : Outcome} → Reads d (pick expr ts) ts (ok t rest) →
    Reads d (pick (exprs_rest t) rest) rest o → Reads d (pick exprs ts) ts o
exprs_one {rest = rest} {t = t} r s = by_production exprs (last_production _ (r_read t rest r (reads_gives s)))

pub exprs_several : {d : ℕ} {ts rest rest' : List Token} {t : Tree} {x : Token} {o : Outcome} (found : List Tree) → found ≡ t ∷ [] →
    Reads d (pick expr ts) ts (ok t rest) → Taken (mark mark'.Comma) rest x rest' →
    Reads d (reads items (Filled (tuple_at x.line) found)) rest' o → Reads d (pick exprs ts) ts o
exprs_several {d = d} {rest' = rest'} {t = t} {x = x} {o = o} found e r a s =
    exprs_one r (exprs_more t a (subst (λ g. Reads d (reads items (Filled (tuple_at x.line) g)) rest' o) e s))

pub exprs_tuple : (d : ℕ) (ts rest : List Token) (t : Tree) {v : Tree} → v ≡ t → Reads d (pick exprs ts) ts (ok t rest) → Reads d (pick exprs ts) ts (ok v rest)
exprs_tuple d ts rest t e r = subst (λ w. Reads d (pick exprs ts) ts (ok w rest)) (sym e) r
