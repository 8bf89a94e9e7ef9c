-- Statements without a block: the ways through their productions that stand only under a condition, and what a loop over
-- statements keeps.
use Rattle.std.proofs.Common.{◌≡◌, ℕ, List, [], ◌∷◌, Bool, true, false, ◌&&◌, refl, Result, Option, Some, None, is_some}
use Rattle.py_token.specs.declared.keyword.Keyword.TheVariants as keyword'
use Rattle.py_token.specs.declared.mark.Mark.TheVariants as mark'
use Rattle.py_token.specs.declared.token.Token.{Token}
use Rattle.py_tree.specs.Tree.{Tree, nil, cons, assign, augment, expression, break, continue, return, absent}
use Rattle.py_tree.specs.declared.expr.Operator.{Operator}
use Rattle.py_parse.specs.declared.site.Site.{Site}
use Rattle.py_parse.specs.declared.stop.Stop.{Stop}
use Rattle.py_parse.specs.declared.terminal.Terminal.TheVariants as terminal'
use Rattle.py_parse.specs.Terminals.{Want, one, heads, augment_of, augment_in}
use Rattle.py_parse.specs.Grammar.{Body, takes, gives, reads, when, keyword, mark, small, assignment, assigned, augment_body, return_body, returned, exprs, is_targets, is_place, statements, statements_rest, statements_more}
use Rattle.py_parse.specs.Reading.{Outcome, ok, fault, Why, unfit, Reads, r_read, r_part_fault, r_refused, r_given, pick, choose, beginning}
use Rattle.py_parse.specs.Agrees.{Taken, Agrees}
use Rattle.py_parse.specs.Permits.{Permitted}
use Rattle.py_parse.proofs.Cases.{by_production, last_production, takes_at, yes_takes, yes_gives, yes_reads, no_takes, no_reads, reads_gives, reads_behind, agrees_over}
use Rattle.py_parse.proofs.Loops.{Step}

-- the list isn't empty
abbrev pub HasOne : List Body → Type 0
HasOne [] = ⊥
HasOne (b ∷ bs) = Unit {0}

pub has_one_when : (a : Bool) (b : Body) (bs : List Body) → HasOne bs → HasOne (when a b bs)
has_one_when true b bs h = tt
has_one_when false b bs h = h

pub none_taken : {d : ℕ} {ts : List Token} {o : Outcome} (w : Want) (k : Token → Body) (bs : List Body) → HasOne bs →
    heads w ts ≡ false → Reads d (choose bs ts) ts o → Reads d (choose (takes w k ∷ bs) ts) ts o
none_taken w k [] n h r = absurd n
none_taken w k (c ∷ cs) n h r = no_takes w k c cs h r

pub yes_when : {d : ℕ} {w : Want} {ts rest : List Token} {x : Token} {o : Outcome} (a : Bool) (k : Token → Body) (bs : List Body) →
    Permitted a w ts x rest → Reads d (k x) rest o → Reads d (choose (when a (takes w k) bs) ts) ts o
yes_when true k bs p r = yes_takes k bs p.taking r
yes_when false k bs p r = let e = p.may in cc

pub no_when : {d : ℕ} {ts : List Token} {o : Outcome} (a : Bool) (w : Want) (k : Token → Body) (bs : List Body) → HasOne bs →
    a && heads w ts ≡ false → Reads d (choose bs ts) ts o → Reads d (choose (when a (takes w k) bs) ts) ts o
no_when true w k bs n h r = none_taken w k bs n h r
no_when false w k bs n h r = r

-- what a statement may be that is no `pass` and no import
abbrev returning : Site → List Body
returning s = when s.in_def (takes (keyword keyword'.Return) (λ x. return_body x.line)) (assignment ∷ [])

abbrev continuing : Site → List Body
continuing s = when s.in_for (takes (keyword keyword'.Continue) (λ x. gives (continue x.line))) (returning s)

abbrev breaking : Site → List Body
breaking s = when s.in_for (takes (keyword keyword'.Break) (λ x. gives (break x.line))) (continuing s)

has_returning : (s : Site) → HasOne (returning s)
has_returning s = has_one_when s.in_def _ (assignment ∷ []) tt

has_continuing : (s : Site) → HasOne (continuing s)
has_continuing s = has_one_when s.in_for _ (returning s) (has_returning s)

has_breaking : (s : Site) → HasOne (breaking s)
has_breaking s = has_one_when s.in_for _ (continuing s) (has_continuing s)

-- these tokens begin with none of the words before
pub record Wordless (s : Site) (ts : List Token) : Type 0 where
  pub no_pass : heads (keyword keyword'.Pass) ts ≡ false
  pub no_from : heads (keyword keyword'.From) ts ≡ false

pub record Jumpless (s : Site) (ts : List Token) : Type 0 where
  pub wordless : Wordless s ts
  pub no_break : s.in_for && heads (keyword keyword'.Break) ts ≡ false
  pub no_continue : s.in_for && heads (keyword keyword'.Continue) ts ≡ false

behind_from : (d : ℕ) (s : Site) (ts : List Token) (o : Outcome) → Wordless s ts → Reads d (choose (breaking s) ts) ts o →
    Reads d (pick (small s) ts) ts o
behind_from d s ts o h r =
    by_production (small s) (none_taken _ _ _ tt h.no_pass (none_taken _ _ (breaking s) (has_breaking s) h.no_from r))

behind_continue : (d : ℕ) (s : Site) (ts : List Token) (o : Outcome) → Jumpless s ts → Reads d (choose (returning s) ts) ts o →
    Reads d (pick (small s) ts) ts o
behind_continue d s ts o h r =
    behind_from d s ts o h.wordless (no_when s.in_for _ _ (continuing s) (has_continuing s) h.no_break (no_when s.in_for _ _ (returning s) (has_returning s) h.no_continue r))

pub break_ok : (d : ℕ) (s : Site) (ts rest : List Token) (x : Token) → Wordless s ts → Permitted s.in_for (keyword keyword'.Break) ts x rest →
    Reads d (pick (small s) ts) ts (ok (break x.line) rest)
break_ok d s ts rest x h p = behind_from d s ts _ h (yes_when s.in_for _ (continuing s) p r_given)

pub continue_ok : (d : ℕ) (s : Site) (ts rest : List Token) (x : Token) → Wordless s ts → s.in_for && heads (keyword keyword'.Break) ts ≡ false →
    Permitted s.in_for (keyword keyword'.Continue) ts x rest → Reads d (pick (small s) ts) ts (ok (continue x.line) rest)
continue_ok d s ts rest x h i p =
    behind_from d s ts _ h (no_when s.in_for _ _ (continuing s) (has_continuing s) i (yes_when s.in_for _ (returning s) p r_given))

pub return_answers : {X : Type 0} (view : X → Outcome) (res : Result X Stop) (d : ℕ) (s : Site) (ts rest : List Token) (x : Token) → Jumpless s ts →
    Permitted s.in_def (keyword keyword'.Return) ts x rest → Agrees view res (Reads d (return_body x.line) rest) →
    Agrees view res (Reads d (pick (small s) ts) ts)
return_answers view res d s ts rest x h p r =
    agrees_over view res (Reads d (return_body x.line) rest) _ (λ o q. behind_continue d s ts o h (yes_when s.in_def _ (assignment ∷ []) p q)) r

pub assignment_answers : {X : Type 0} (view : X → Outcome) (res : Result X Stop) (d : ℕ) (s : Site) (ts : List Token) → Jumpless s ts →
    s.in_def && heads (keyword keyword'.Return) ts ≡ false → Agrees view res (Reads d assignment ts) → Agrees view res (Reads d (pick (small s) ts) ts)
assignment_answers view res d s ts h n r =
    agrees_over view res (Reads d assignment ts) _ (λ o q. behind_continue d s ts o h (no_when s.in_def _ _ (assignment ∷ []) tt n (last_production assignment q))) r

-- `return` with nothing behind it
pub returned_none : (d : ℕ) (l : ℕ) (ts : List Token) → heads (one terminal'.Expression) ts ≡ false → Reads d (return_body l) ts (ok (return l absent) ts)
unfolding beginning
returned_none d l ts h = r_read absent ts (by_production returned (no_reads _ _ _ _ h (yes_gives absent []))) r_given

pub return_fault : (d : ℕ) (l : ℕ) (ts r9 : List Token) (w : Why) → heads (one terminal'.Expression) ts ≡ true → Reads d (pick exprs ts) ts (fault w r9) →
    Reads d (return_body l) ts (fault w r9)
unfolding beginning
return_fault d l ts r9 w h r = r_part_fault (by_production returned (yes_reads _ _ h (reads_gives r)))

pub return_ok : (d : ℕ) (l : ℕ) (ts rest : List Token) (t : Tree) → heads (one terminal'.Expression) ts ≡ true → Reads d (pick exprs ts) ts (ok t rest) →
    Reads d (return_body l) ts (ok (return l t) rest)
unfolding beginning
return_ok d l ts rest t h r = r_read t rest (by_production returned (yes_reads _ _ h (reads_gives r))) r_given

-- what stands behind the expressions of an assignment
abbrev augmenting : Tree → List Body
augmenting t = when (is_place t) (takes (one terminal'.Augment) (augment_body t)) (gives (expression t) ∷ [])

has_augmenting : (t : Tree) → HasOne (augmenting t)
has_augmenting t = has_one_when (is_place t) _ (gives (expression t) ∷ []) tt

assigned_at : (d : ℕ) (t : Tree) (ts ts1 : List Token) (o : Outcome) → Reads d (pick exprs ts) ts (ok t ts1) →
    Reads d (choose (when (is_targets t) (takes (mark mark'.Assign) (λ x. reads exprs (λ e. gives (assign x.line t e)))) (augmenting t)) ts1) ts1 o →
    Reads d assignment ts o
assigned_at d t ts ts1 o r s = r_read t ts1 r (reads_gives (by_production (assigned t) s))

pub assign_fault : (d : ℕ) (t : Tree) (ts ts1 ts2 r9 : List Token) (x : Token) (w : Why) → Reads d (pick exprs ts) ts (ok t ts1) →
    Permitted (is_targets t) (mark mark'.Assign) ts1 x ts2 → Reads d (pick exprs ts2) ts2 (fault w r9) → Reads d assignment ts (fault w r9)
assign_fault d t ts ts1 ts2 r9 x w r p s = assigned_at d t ts ts1 _ r (yes_when (is_targets t) _ (augmenting t) p (r_part_fault s))

pub assign_ok : (d : ℕ) (t e : Tree) (ts ts1 ts2 ts3 : List Token) (x : Token) → Reads d (pick exprs ts) ts (ok t ts1) →
    Permitted (is_targets t) (mark mark'.Assign) ts1 x ts2 → Reads d (pick exprs ts2) ts2 (ok e ts3) →
    Reads d assignment ts (ok (assign x.line t e) ts3)
assign_ok d t e ts ts1 ts2 ts3 x r p s = assigned_at d t ts ts1 _ r (yes_when (is_targets t) _ (augmenting t) p (r_read e ts3 s r_given))

pub record Unassigned (d : ℕ) (t : Tree) (ts ts1 : List Token) : Type 0 where
  pub first : Reads d (pick exprs ts) ts (ok t ts1)
  pub no_assign : is_targets t && heads (mark mark'.Assign) ts1 ≡ false

augmented_at : (d : ℕ) (t : Tree) (ts ts1 ts2 : List Token) (x : Token) (o : Outcome) → Unassigned d t ts ts1 →
    Permitted (is_place t) (one terminal'.Augment) ts1 x ts2 → Reads d (augment_body t x) ts2 o → Reads d assignment ts o
augmented_at d t ts ts1 ts2 x o u p r =
    assigned_at d t ts ts1 o u.first (no_when (is_targets t) _ _ (augmenting t) (has_augmenting t) u.no_assign (yes_when (is_place t) (augment_body t) (gives (expression t) ∷ []) p r))

pub augment_fault : (d : ℕ) (t : Tree) (ts ts1 ts2 r9 : List Token) (x : Token) (w : Why) → Unassigned d t ts ts1 →
    Permitted (is_place t) (one terminal'.Augment) ts1 x ts2 → Reads d (pick exprs ts2) ts2 (fault w r9) → Reads d assignment ts (fault w r9)
augment_fault d t ts ts1 ts2 r9 x w u p r = augmented_at d t ts ts1 ts2 x _ u p (r_part_fault r)

pub augment_ok : (d : ℕ) (t e : Tree) (ts ts1 ts2 ts3 : List Token) (x : Token) (k : Operator) → Unassigned d t ts ts1 →
    Permitted (is_place t) (one terminal'.Augment) ts1 x ts2 → Some k ≡ augment_of x.kind → Reads d (pick exprs ts2) ts2 (ok e ts3) →
    Reads d assignment ts (ok (augment x.line k t e) ts3)
augment_ok d t e ts ts1 ts2 ts3 x k u p a r =
    let is : k ≡ augment_in x.kind = rw (← a) refl in
    rw is (augmented_at d t ts ts1 ts2 x _ u p (r_read e ts3 r r_given))

pub expression_ok : (d : ℕ) (t : Tree) (ts ts1 : List Token) → Unassigned d t ts ts1 → is_place t && heads (one terminal'.Augment) ts1 ≡ false →
    Reads d assignment ts (ok (expression t) ts1)
expression_ok d t ts ts1 u h =
    assigned_at d t ts ts1 _ u.first (no_when (is_targets t) _ _ (augmenting t) (has_augmenting t) u.no_assign (no_when (is_place t) _ _ (gives (expression t) ∷ []) tt h (yes_gives (expression t) [])))

no_some : {A : Type 0} (o : Option A) → is_some o ≡ true → None ≡ o → ⊥
no_some None p e = cc
no_some (Some x) p e = cc

pub augment_there : (ts rest : List Token) (x : Token) → Taken (one terminal'.Augment) ts x rest → None ≡ augment_of x.kind → ⊥
augment_there ts rest x t e = no_some (augment_of x.kind) t.fitting e

-- statements on one line
pub statements_fault : (d : ℕ) (s : Site) (ts r9 : List Token) (w : Why) → Reads d (pick (small s) ts) ts (fault w r9) →
    Reads d (pick (statements s) ts) ts (fault w r9)
statements_fault d s ts r9 w r = by_production (statements s) (last_production _ (r_part_fault r))

statements_at : (d : ℕ) (s : Site) (ts ts1 : List Token) (t : Tree) (o : Outcome) → Reads d (pick (small s) ts) ts (ok t ts1) →
    Reads d (reads (statements_rest s) (λ u. gives (cons t u))) ts1 o → Reads d (pick (statements s) ts) ts o
statements_at d s ts ts1 t o r q = by_production (statements s) (last_production _ (r_read t ts1 r q))

pub statements_unfit : (d : ℕ) (s : Site) (ts ts1 : List Token) (t : Tree) → Reads d (pick (small s) ts) ts (ok t ts1) →
    heads (one terminal'.Newline) ts1 ≡ false → heads (mark mark'.Semicolon) ts1 ≡ false → Reads d (pick (statements s) ts) ts (fault unfit ts1)
statements_unfit d s ts ts1 t r h i =
    statements_at d s ts ts1 t _ r (r_part_fault (by_production (statements_rest s) (no_takes _ _ _ _ h (last_production _ (r_refused i)))))

pub statements_end : (d : ℕ) (s : Site) (ts ts1 ts2 : List Token) (t : Tree) (x : Token) → Reads d (pick (small s) ts) ts (ok t ts1) →
    Taken (one terminal'.Newline) ts1 x ts2 → Reads d (pick (statements s) ts) ts (ok (cons t nil) ts2)
statements_end d s ts ts1 ts2 t x r a =
    statements_at d s ts ts1 t _ r (r_read nil ts2 (by_production (statements_rest s) (yes_takes _ _ a r_given)) r_given)

-- a `;` stands behind the statement
pub record Divided (d : ℕ) (s : Site) (ts : List Token) (t : Tree) (rest : List Token) : Type 0 where
  pub first_rest : List Token
  pub first : Reads d (pick (small s) ts) ts (ok t first_rest)
  pub no_end : heads (one terminal'.Newline) first_rest ≡ false
  pub divider : Token
  pub taking : Taken (mark mark'.Semicolon) first_rest divider rest

divided_at : (d : ℕ) (s : Site) (ts rest : List Token) (t : Tree) (o : Outcome) (a : Divided d s ts t rest) →
    Reads d (pick (statements_more s) rest) rest o → Reads d (pick (statements_rest s) a.first_rest) a.first_rest o
divided_at d s ts rest t o a r = by_production (statements_rest s) (no_takes _ _ _ _ a.no_end (last_production _ (takes_at _ a.taking (reads_gives r))))

pub statements_end_mark : (d : ℕ) (s : Site) (ts rest rest' : List Token) (t : Tree) (x : Token) → Divided d s ts t rest →
    Taken (one terminal'.Newline) rest x rest' → Reads d (pick (statements s) ts) ts (ok (cons t nil) rest')
statements_end_mark d s ts rest rest' t x a b =
    statements_at d s ts a.first_rest t _ a.first
    (r_read nil rest' (divided_at d s ts rest t _ a (by_production (statements_more s) (yes_takes _ _ b r_given))) r_given)

pub statements_further : (d : ℕ) (s : Site) (ts rest : List Token) (t : Tree) → Divided d s ts t rest → heads (one terminal'.Newline) rest ≡ false →
    Step d (statements s) ts rest t
statements_further d s ts rest t a h out r =
    statements_at d s ts a.first_rest t _ a.first
    (reads_behind t out (divided_at d s ts rest t _ a (by_production (statements_more s) (no_takes _ _ _ _ h (last_production _ (reads_gives r))))))
