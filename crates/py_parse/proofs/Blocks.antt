-- Lines with blocks below them: the ways through their productions, and what the loops over branches and lines keep.
use Rattle.std.proofs.Common.{◌≡◌, ◌≢◌, ℕ, ◌<◌, List, [], ◌∷◌, ◌++◌, Bool, true, false, ◌&&◌, cond, length, refl, sym, ap, ◌∙◌, Result, Ok, Err, arith}
use Rattle.py_token.specs.declared.keyword.Keyword.TheVariants as keyword'
use Rattle.py_token.specs.declared.mark.Mark.TheVariants as mark'
use Rattle.py_token.specs.declared.token.Token.{Token}
use Rattle.py_tree.specs.Tree.{Tree, nil, cons, trees, simple, branching}
use Rattle.py_parse.specs.declared.site.Site.{Site}
use Rattle.py_parse.specs.declared.stop.Stop.{Stop}
use Rattle.py_parse.specs.declared.terminal.Terminal.TheVariants as terminal'
use Rattle.py_parse.specs.Terminals.{Want, one, heads}
use Rattle.py_parse.specs.Grammar.{Body, takes, opens, reads, gives, when, keyword, mark, top, block, branches, conditional, loop_body, while_body, function_body, indented, line, script, small, statements, statements_rest, with_branch, productions}
use Rattle.py_parse.specs.Reading.{Outcome, ok, fault, Why, unfit, deep, Reads, r_given, r_taken, r_refused, r_opened, r_unopened, r_read, r_part_fault, r_nested, r_nested_fault, pick, choose, leads, beginning}
use Rattle.py_parse.specs.Agrees.{Taken, Agrees, branch_body, behind, onto, all_behind}
use Rattle.py_parse.specs.Permits.{Permitted}
use Rattle.py_parse.proofs.Cases.{by_production, last_production, takes_at, yes_opens, yes_deep, yes_gives, yes_reads, no_opens, no_reads, reads_behind, agrees_over, stops_over, all_behind_none, all_behind_one, onto_trees}
use Rattle.py_parse.proofs.Loops.{Step}
use Rattle.py_parse.proofs.Paths.{another_line_tail, dedent_ok, elif_tail, one_line_ok}
use Rattle.py_parse.proofs.Shorter.{shorter}
use Rattle.py_parse.proofs.Simples.{HasOne}

-- an answer under two views
pub agrees_as : {X : Type 0} (view view' : X → Outcome) (r : Result X Stop) (P Q : Outcome → Type 0) → ((x : X) → P (view x) → Q (view' x)) →
    ((w : Why) (rest : List Token) → P (fault w rest) → Q (fault w rest)) → Agrees view r P → Agrees view' r Q
agrees_as view view' (Ok x) P Q f g h = f x h
agrees_as view view' (Err s) P Q f g h = stops_over s P Q g h

-- reading leaves fewer tokens than there were
abbrev Strict : ℕ → Body → Type 0
Strict d b = (ts rest : List Token) (t : Tree) → Reads d b ts (ok t rest) → length rest < length ts

takes_strict : (d : ℕ) (w : Want) (k : Token → Body) → Strict d (takes w k)
takes_strict d w k _ rest t (r_taken {ts = ts} f r) = let h = shorter r in omega (arith, h)

opens_strict : (d : ℕ) (w : Want) (k : Token → Body) → Strict d (opens w k)
opens_strict _ w k _ rest t (r_opened {ts = ts} f r) = let h = shorter r in omega (arith, h)

abbrev AllStrict : ℕ → List Body → Type 0
AllStrict d [] = ⊥
AllStrict d (b ∷ []) = Strict d b
AllStrict d (b ∷ (c ∷ cs)) = Strict d b × AllStrict d (c ∷ cs)

choose_strict : (d : ℕ) (bs : List Body) (ts rest : List Token) (t : Tree) → AllStrict d bs → Reads d (choose bs ts) ts (ok t rest) → length rest < length ts
unfolding choose
choose_strict d [] ts rest t a r = absurd a
choose_strict d (b ∷ []) ts rest t a r = a ts rest t r
choose_strict d (b ∷ (c ∷ cs)) ts rest t a r =
    let go : Reads d (cond (leads b ts) b (choose (c ∷ cs) ts)) ts (ok t rest) → length rest < length ts =
    elim (leads b ts) as (λ v. Reads d (cond v b (choose (c ∷ cs) ts)) ts (ok t rest) → length rest < length ts) [
      | true ↦ a.0 ts rest t
      | false ↦ choose_strict d (c ∷ cs) ts rest t a.1
    ] in
    go r

statements_rest_strict : (d : ℕ) (s : Site) (ts rest : List Token) (t : Tree) → Reads d (pick (statements_rest s) ts) ts (ok t rest) → length rest < length ts
unfolding pick
statements_rest_strict d s ts rest t r = choose_strict d (productions (statements_rest s)) ts rest t (takes_strict d _ _, takes_strict d _ _) r

read_strict : (d : ℕ) (s : Site) (t : Tree) (ts rest : List Token) (v : Tree) → Reads d (reads (statements_rest s) (λ u. gives (cons t u))) ts (ok v rest) → length rest < length ts
read_strict d s t ts rest v (r_read u _ r r_given) = statements_rest_strict d s ts _ u r

small_strict : (d : ℕ) (s : Site) → Strict d (reads (small s) (λ t. reads (statements_rest s) (λ u. gives (cons t u))))
small_strict d s ts rest v (r_read t ts1 r q) = let h = shorter r in let i = read_strict d s t ts1 rest v q in omega (arith, h, i)

pub statements_shorter : (d : ℕ) (s : Site) (ts rest : List Token) (t : Tree) → Reads d (pick (statements s) ts) ts (ok t rest) → length rest < length ts
unfolding pick choose
statements_shorter d s ts rest t r = small_strict d s ts rest t r

simple_strict : (d : ℕ) (s : Site) → Strict d (reads (statements s) (λ t. gives (simple t)))
simple_strict d s ts rest _ (r_read t _ r r_given) = statements_shorter d s ts rest t r

line_strict : (d : ℕ) (s : Site) (b : Bool) → AllStrict d (opens (keyword keyword'.If) (λ x. conditional x.line s) ∷ (opens (keyword keyword'.For) (λ x. loop_body x.line s) ∷ (opens (keyword keyword'.While) (λ x. while_body x.line s) ∷ when b (opens (keyword keyword'.Def) (λ x. function_body x.line)) (reads (statements s) (λ t. gives (simple t)) ∷ []))))
line_strict d s true = (opens_strict d _ _, (opens_strict d _ _, (opens_strict d _ _, (opens_strict d _ _, simple_strict d s))))
line_strict d s false = (opens_strict d _ _, (opens_strict d _ _, (opens_strict d _ _, simple_strict d s)))

pub line_shorter : (d : ℕ) (s : Site) (ts rest : List Token) (t : Tree) → Reads d (pick (line s) ts) ts (ok t rest) → length rest < length ts
unfolding pick
line_shorter d s ts rest t r = choose_strict d (productions (line s)) ts rest t (line_strict d s s.outermost) r

-- a line that is no `if`, no `for` and no `while`
pub record Blockless (ts : List Token) : Type 0 where
  pub no_if : heads (keyword keyword'.If) ts ≡ false
  pub no_for : heads (keyword keyword'.For) ts ≡ false
  pub no_while : heads (keyword keyword'.While) ts ≡ false

none_opened : {d : ℕ} {ts : List Token} {o : Outcome} (w : Want) (k : Token → Body) (bs : List Body) → HasOne bs →
    heads w ts ≡ false → Reads d (choose bs ts) ts o → Reads d (choose (opens w k ∷ bs) ts) ts o
none_opened w k [] n h r = absurd n
none_opened w k (c ∷ cs) n h r = no_opens w k c cs h r

abbrev defining : Bool → Site → List Body
defining b s = when b (opens (keyword keyword'.Def) (λ x. function_body x.line)) (reads (statements s) (λ t. gives (simple t)) ∷ [])

has_defining : (b : Bool) (s : Site) → HasOne (defining b s)
has_defining true s = tt
has_defining false s = tt

behind_for : (d : ℕ) (s : Site) (ts : List Token) (o : Outcome) → Blockless ts → Reads d (choose (defining s.outermost s) ts) ts o → Reads d (pick (line s) ts) ts o
behind_for d s ts o h r =
    by_production (line s) (none_opened _ _ _ tt h.no_if (none_opened _ _ _ tt h.no_for (none_opened _ _ (defining s.outermost s) (has_defining s.outermost s) h.no_while r)))

def_opened : (d : ℕ) (b : Bool) (s : Site) (ts rest : List Token) (x : Token) (o : Outcome) → d ≢ 0 → Permitted b (keyword keyword'.Def) ts x rest →
    Reads d (function_body x.line) rest o → Reads d (choose (defining b s) ts) ts o
def_opened d true s ts rest x o h p r = yes_opens d (λ x. function_body x.line) (reads (statements s) (λ t. gives (simple t)) ∷ []) h p.taking r
def_opened d false s ts rest x o h p r = let e = p.may in cc

def_too_deep : (d : ℕ) (b : Bool) (s : Site) (ts rest : List Token) (x : Token) → d ≡ 0 → Permitted b (keyword keyword'.Def) ts x rest →
    Reads d (choose (defining b s) ts) ts (fault deep ts)
def_too_deep d true s ts rest x h p = yes_deep d (λ x. function_body x.line) (reads (statements s) (λ t. gives (simple t)) ∷ []) h p.taking
def_too_deep d false s ts rest x h p = let e = p.may in cc

no_def : (d : ℕ) (b : Bool) (s : Site) (ts : List Token) (o : Outcome) → b && heads (keyword keyword'.Def) ts ≡ false →
    Reads d (reads (statements s) (λ t. gives (simple t))) ts o → Reads d (choose (defining b s) ts) ts o
no_def d true s ts o h r = no_opens (keyword keyword'.Def) (λ x. function_body x.line) _ [] h (last_production _ r)
no_def d false s ts o h r = last_production _ r

pub def_answers : {X : Type 0} (view : X → Outcome) (res : Result X Stop) (d : ℕ) (s : Site) (ts rest : List Token) (x : Token) → Blockless ts → d ≢ 0 →
    Permitted s.outermost (keyword keyword'.Def) ts x rest → Agrees view res (Reads d (function_body x.line) rest) → Agrees view res (Reads d (pick (line s) ts) ts)
def_answers view res d s ts rest x h n p r =
    agrees_over view res (Reads d (function_body x.line) rest) _ (λ o q. behind_for d s ts o h (def_opened d s.outermost s ts rest x o n p q)) r

pub def_deep : (d : ℕ) (s : Site) (ts rest : List Token) (x : Token) → Blockless ts → d ≡ 0 → Permitted s.outermost (keyword keyword'.Def) ts x rest →
    Reads d (pick (line s) ts) ts (fault deep ts)
def_deep d s ts rest x h n p = behind_for d s ts _ h (def_too_deep d s.outermost s ts rest x n p)

pub simple_fault : (d : ℕ) (s : Site) (ts r9 : List Token) (w : Why) → Blockless ts → s.outermost && heads (keyword keyword'.Def) ts ≡ false →
    Reads d (pick (statements s) ts) ts (fault w r9) → Reads d (pick (line s) ts) ts (fault w r9)
simple_fault d s ts r9 w h n r = behind_for d s ts _ h (no_def d s.outermost s ts _ n (r_part_fault r))

pub simple_ok : (d : ℕ) (s : Site) (ts rest : List Token) (t v : Tree) → Blockless ts → s.outermost && heads (keyword keyword'.Def) ts ≡ false →
    Reads d (pick (statements s) ts) ts (ok t rest) → v ≡ simple t → Reads d (pick (line s) ts) ts (ok v rest)
simple_ok d s ts rest t v h n r e = rw e (behind_for d s ts _ h (no_def d s.outermost s ts _ n (r_read t rest r r_given)))

-- branches in front of what stands behind them
abbrev pub all_with : List Tree → Tree → Tree
all_with [] t = t
all_with (b ∷ bs) t = with_branch b (all_with bs t)

abbrev pub branched : Tree → Outcome → Outcome
branched b (ok t rest) = ok (with_branch b t) rest
branched b (fault w rest) = fault w rest

abbrev pub all_branched : List Tree → Outcome → Outcome
all_branched bs (ok t rest) = ok (all_with bs t) rest
all_branched bs (fault w rest) = fault w rest

all_branched_none : (o : Outcome) → all_branched [] o ≡ o
all_branched_none (ok t rest) = refl
all_branched_none (fault w rest) = refl

all_with_one : (bs : List Tree) (b t : Tree) → all_with (bs ++ b ∷ []) t ≡ all_with bs (with_branch b t)
all_with_one [] b t = refl
all_with_one (c ∷ bs) b t = ap (with_branch c) (all_with_one bs b t)

all_branched_one : (bs : List Tree) (b : Tree) (o : Outcome) → all_branched (bs ++ b ∷ []) o ≡ all_branched bs (branched b o)
all_branched_one bs b (ok t rest) = ap (λ u. ok u rest) (all_with_one bs b t)
all_branched_one bs b (fault w rest) = refl

all_with_branching : (bs : List Tree) (u e : Tree) → all_with bs (branching u e) ≡ branching (onto bs u) e
all_with_branching [] u e = refl
all_with_branching (b ∷ bs) u e = ap (with_branch b) (all_with_branching bs u e)

all_with_end : (bs : List Tree) (e : Tree) → all_with bs (branching nil e) ≡ branching (trees bs) e
all_with_end bs e = all_with_branching bs nil e ∙ ap (λ u. branching u e) (onto_trees bs)

branch_then : {d : ℕ} (l : ℕ) (s : Site) (ts rest : List Token) (t : Tree) (o : Outcome) → Reads d (branch_body l s) ts (ok t rest) →
    Reads d (pick (branches s) rest) rest o → Reads d (conditional l s) ts (branched t o)
branch_then l s ts rest _ (ok e r9) (r_read c _ r (r_taken f (r_nested b _ q r_given))) g = r_read c _ r (r_taken f (r_nested b _ q (r_read e r9 g r_given)))
branch_then l s ts rest _ (fault w r9) (r_read c _ r (r_taken f (r_nested b _ q r_given))) g = r_read c _ r (r_taken f (r_nested b _ q (r_part_fault g)))

branch_stops : {d : ℕ} (l : ℕ) (s : Site) (ts r9 : List Token) (w : Why) → Reads d (branch_body l s) ts (fault w r9) → Reads d (conditional l s) ts (fault w r9)
branch_stops l s ts r9 w (r_part_fault r) = r_part_fault r
branch_stops l s ts r9 _ (r_read c _ r (r_refused h)) = r_read c _ r (r_refused h)
branch_stops l s ts r9 w (r_read c _ r (r_taken f (r_nested_fault q))) = r_read c _ r (r_taken f (r_nested_fault q))
branch_stops l s ts r9 w (r_read c _ r (r_taken f (r_nested b _ q g))) = elim g [ ]

-- whatever the branch and those behind it give, all of them give behind those found
abbrev pub BranchesGoOn : ℕ → Site → ℕ → List Token → List Tree → ℕ → List Token → Type 0
BranchesGoOn d s first ts found l rest = (o : Outcome) → Reads d (conditional l s) rest o → Reads d (conditional first s) ts (all_branched found o)

pub branches_start : (d : ℕ) (s : Site) (l : ℕ) (ts : List Token) (found : List Tree) → found ≡ [] → BranchesGoOn d s l ts found l ts
branches_start d s l ts found e o r = rw (e, all_branched_none o) r

pub branches_fault : (d : ℕ) (s : Site) (first : ℕ) (ts : List Token) (found : List Tree) (l : ℕ) (rest r9 : List Token) (w : Why) → BranchesGoOn d s first ts found l rest →
    Reads d (branch_body l s) rest (fault w r9) → Reads d (conditional first s) ts (fault w r9)
branches_fault d s first ts found l rest r9 w c r = c (fault w r9) (branch_stops l s rest r9 w r)

pub branches_more : (d : ℕ) (s : Site) (first : ℕ) (ts : List Token) (found found' : List Tree) (l : ℕ) (rest rest1 rest2 : List Token) (t : Tree) (x : Token) →
    BranchesGoOn d s first ts found l rest → Reads d (branch_body l s) rest (ok t rest1) → d ≢ 0 → Taken (keyword keyword'.Elif) rest1 x rest2 →
    found' ≡ found ++ t ∷ [] → BranchesGoOn d s first ts found' x.line rest2
branches_more d s first ts found found' l rest rest1 rest2 t x c r n a e o q =
    rw (e, all_branched_one found t o) (c (branched t o) (branch_then l s rest rest1 t o r (elif_tail d s n a q)))

pub branches_stop : (d : ℕ) (s : Site) (first : ℕ) (ts : List Token) (found : List Tree) (l : ℕ) (rest rest1 r9 : List Token) (t : Tree) (w : Why) →
    BranchesGoOn d s first ts found l rest → Reads d (branch_body l s) rest (ok t rest1) → Reads d (pick (branches s) rest1) rest1 (fault w r9) →
    Reads d (conditional first s) ts (fault w r9)
branches_stop d s first ts found l rest rest1 r9 t w c r q = c (fault w r9) (branch_then l s rest rest1 t (fault w r9) r q)

pub branches_end : (d : ℕ) (s : Site) (first : ℕ) (ts : List Token) (found found' : List Tree) (l : ℕ) (rest rest1 r9 : List Token) (t e v : Tree) →
    BranchesGoOn d s first ts found l rest → Reads d (branch_body l s) rest (ok t rest1) → found' ≡ found ++ t ∷ [] →
    Reads d (pick (branches s) rest1) rest1 (ok (branching nil e) r9) → v ≡ branching (trees found') e → Reads d (conditional first s) ts (ok v r9)
branches_end d s first ts found found' l rest rest1 r9 t e v c r f q i =
    let g : Reads d (conditional first s) ts (ok (all_with found (with_branch t (branching nil e))) r9) = c (branched t (ok (branching nil e) r9)) (branch_then l s rest rest1 t (ok (branching nil e) r9) r q) in
    let h : v ≡ all_with found (with_branch t (branching nil e)) = i ∙ sym (all_with_end found' e) ∙ ap (λ bs. all_with bs (branching nil e)) f ∙ all_with_one found t (branching nil e) in
    rw h g

-- whatever the lines of a block from this one on give, all of them give behind those found
abbrev pub LinesGoOn : ℕ → Site → List Token → List Tree → List Token → Type 0
LinesGoOn d s ts found rest = (o : Outcome) → Reads d (indented s) rest o → Reads d (indented s) ts (all_behind found o)

pub lines_start : (d : ℕ) (s : Site) (ts : List Token) (found : List Tree) → found ≡ [] → LinesGoOn d s ts found ts
lines_start d s ts found e o r = rw (e, all_behind_none o) r

pub lines_fault : (d : ℕ) (s : Site) (ts : List Token) (found : List Tree) (rest r9 : List Token) (w : Why) → LinesGoOn d s ts found rest →
    Reads d (pick (line s) rest) rest (fault w r9) → Reads d (indented s) ts (fault w r9)
lines_fault d s ts found rest r9 w c r = c (fault w r9) (r_part_fault r)

pub lines_more : (d : ℕ) (s : Site) (ts : List Token) (found found' : List Tree) (rest rest1 : List Token) (t : Tree) → LinesGoOn d s ts found rest →
    Reads d (pick (line s) rest) rest (ok t rest1) → heads (one terminal'.Dedent) rest1 ≡ false → found' ≡ found ++ t ∷ [] → LinesGoOn d s ts found' rest1
lines_more d s ts found found' rest rest1 t c r h e o q =
    rw (e, all_behind_one found t o) (c (behind t o) (r_read t rest1 r (reads_behind t o (another_line_tail d s h q))))

pub lines_end : (d : ℕ) (s : Site) (ts : List Token) (found found' : List Tree) (rest rest1 rest2 : List Token) (t : Tree) (x : Token) → LinesGoOn d s ts found rest →
    Reads d (pick (line s) rest) rest (ok t rest1) → Taken (one terminal'.Dedent) rest1 x rest2 → found' ≡ found ++ t ∷ [] → Reads d (indented s) ts (ok (trees found') rest2)
lines_end d s ts found found' rest rest1 rest2 t x c r a e =
    let q : Reads d (indented s) rest (ok (cons t nil) rest2) = r_read t rest1 r (r_read nil rest2 (dedent_ok d s a refl) r_given) in
    rw (← onto_trees found', e) (rw (← all_behind_one found t (ok nil rest2)) at (c (ok (cons t nil) rest2) q))

-- a block on one line
pub one_line_block : (d : ℕ) (s : Site) (ts rest : List Token) (t v : Tree) → heads (one terminal'.Newline) ts ≡ false → Reads d (pick (statements s) ts) ts (ok t rest) →
    v ≡ simple t → Reads d (pick (block s) ts) ts (ok (cons v nil) rest)
one_line_block d s ts rest t v h r e = one_line_ok d s h r (ap (λ u. cons u nil) e)

-- the lines of a script
pub script_end : (d : ℕ) (ts : List Token) → length ts ≡ 0 → Reads d (pick script ts) ts (ok nil [])
unfolding beginning
script_end d [] e = by_production script (no_reads _ _ _ _ refl (yes_gives nil []))
script_end d (x ∷ ts) e = cc

any_heads : (ts : List Token) → (length ts ≡ 0 → ⊥) → heads (one terminal'.Any) ts ≡ true
any_heads [] h = absurd (h refl)
any_heads (x ∷ ts) h = refl

pub script_fault : (d : ℕ) (ts r9 : List Token) (w : Why) → (length ts ≡ 0 → ⊥) → Reads d (pick (line top) ts) ts (fault w r9) → Reads d (pick script ts) ts (fault w r9)
unfolding beginning
script_fault d ts r9 w h r = by_production script (yes_reads _ _ (any_heads ts h) (r_part_fault r))

pub script_more : (d : ℕ) (ts rest : List Token) (t : Tree) → (length ts ≡ 0 → ⊥) → Reads d (pick (line top) ts) ts (ok t rest) → Step d script ts rest t
unfolding beginning
script_more d ts rest t h r o q = by_production script (yes_reads _ _ (any_heads ts h) (r_read t rest r (reads_behind t o q)))

-- a function's name with no parenthesis behind it
pub function_unfit1 : (d : ℕ) (l : ℕ) (ts rest : List Token) (x : Token) → Taken (one terminal'.Name) ts x rest → heads (mark mark'.OpenParen) rest ≡ false →
    Reads d (function_body l) ts (fault unfit rest)
function_unfit1 d l ts rest x a h = takes_at _ a (r_unopened h)
