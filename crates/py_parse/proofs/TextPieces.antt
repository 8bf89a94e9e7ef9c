-- Texts behind one another and their fields: each way on, over plain variables.
use Rattle.std.proofs.Common.{◌≡◌, ◌≢◌, ℕ, ◌-◌, ◌<◌, ◌≤◌, List, [], ◌∷◌, ◌++◌, Bool, true, false, not, map, length, refl, ap, sym, ◌∙◌, subst, arith, Result, Ok, Err, IfOk}
use Rattle.std.specs.Borrow.{Bor}
use Rattle.std.specs.declared.vec.Vec.{Vec}
use Rattle.std.specs.declared.alloc.Global.{Global}
use Rattle.py_token.specs.declared.mark.Mark.TheVariants as mark'
use Rattle.py_token.specs.declared.token.Token.{Token}
use Rattle.py_token.specs.declared.token.TokenKind.{TokenKind}
use Rattle.py_token.specs.declared.token.TokenKind.TheVariants as kind'
use Rattle.py_tree.specs.declared.expr.Expr.{Expr}
use Rattle.py_tree.specs.declared.expr.Piece.{Piece}
use Rattle.py_tree.specs.declared.expr.Piece.TheVariants as part'
use Rattle.py_tree.proofs.Views.{piece_tree-Part}
use Rattle.py_tree.specs.Tree.{Tree, nil, cons, trees, text, field, joined, expr_tree, piece_tree}
use Rattle.py_parse.specs.declared.pieces.NextPiece.{NextPiece}
use Rattle.py_parse.specs.declared.pieces.NextPiece.TheVariants as piece'
use Rattle.py_parse.specs.declared.pieces.PieceStep.{PieceStep}
use Rattle.py_parse.specs.declared.stop.Stop.{Stop}
use Rattle.py_parse.specs.declared.terminal.Terminal.TheVariants as terminal'
use Rattle.py_parse.specs.Terminals.{one, fits, heads, text_in}
use Rattle.py_parse.specs.Grammar.{Part, Body, gives, takes, reads, opens, deeper, mark, atom, expr, text_rest, some_pieces, more_pieces, parts, field_body, one_field, piece_of}
use Rattle.py_parse.specs.Reading.{Outcome, ok, fault, Why, unfit, deep, Reads, r_given, r_taken, r_refused, r_opened, r_deep, r_unopened, r_read, r_part_fault, r_nested, r_nested_fault, pick, choose, leads, beginning}
use Rattle.py_parse.specs.Agrees.{Taken, Agrees, AgreesOnStop, onto}
use Rattle.py_parse.specs.Open.{PiecesGoOn, PiecesContinue, PiecesStay, StepsTo, pieces_from, field_from, part_wanted, turn_wanted}
use Rattle.py_parse.proofs.Cases.{choose_yes, by_production, last_production, takes_at, opens_at, deep_at, yes_takes, yes_opens, yes_gives, yes_reads, no_takes, no_opens, no_reads, deeper_at, deeper_fault, deeper_gives, reads_gives, given_at, agrees_over, stops_over, heads_of}
use Rattle.py_parse.proofs.Flat.{reads_by, covers_given, covers_read, covers_opened, covers_nested}
use Rattle.py_parse.proofs.Steps.{untake, onto_one_more, onto_all}

-- atoms that begin with a text
pub text_tail : (d : ℕ) {x : Token} {ts0 ts1 : List Token} {o : Outcome} → heads (one terminal'.Bracket) ts0 ≡ false →
    Taken (one terminal'.Text) ts0 x ts1 → Reads d (pick (text_rest x.line (text_in x.kind)) ts1) ts1 o → Reads d (pick atom ts0) ts0 o
text_tail d h0 t0 r = by_production atom (no_opens _ _ _ _ h0 (yes_takes _ _ t0 (reads_gives r)))

pub text_tail_answers : {X : Type 0} (view : X → Outcome) (res : Result X Stop) (d : ℕ) (x : Token) (ts0 ts1 : List Token) →
    heads (one terminal'.Bracket) ts0 ≡ false → Taken (one terminal'.Text) ts0 x ts1 →
    Agrees view res (Reads d (pick (text_rest x.line (text_in x.kind)) ts1) ts1) → Agrees view res (Reads d (pick atom ts0) ts0)
text_tail_answers view res d x ts0 ts1 h0 t0 r =
    agrees_over view res (Reads d (pick (text_rest x.line (text_in x.kind)) ts1) ts1) _ (λ o q. text_tail d h0 t0 q) r

pub start_tail : (d : ℕ) {x : Token} {ts0 ts1 : List Token} {o : Outcome} (found : List Piece) → found ≡ [] →
    heads (one terminal'.Bracket) ts0 ≡ false → heads (one terminal'.Text) ts0 ≡ false → Taken (one terminal'.FStart) ts0 x ts1 →
    Reads d (pieces_from true x.line (map piece_tree found)) ts1 o → Reads d (pick atom ts0) ts0 o
start_tail d {x = x} {ts1 = ts1} {o = o} found e h0 h1 t0 r =
    let s = subst (λ f. Reads d (pieces_from true x.line (map piece_tree f)) ts1 o) e r in
    by_production atom (no_opens _ _ _ _ h0 (no_takes _ _ _ _ h1 (yes_takes _ _ t0 s)))

pub start_tail_answers : {X : Type 0} (view : X → Outcome) (res : Result X Stop) (d : ℕ) (x : Token) (ts0 ts1 : List Token) (found : List Piece) → found ≡ [] →
    heads (one terminal'.Bracket) ts0 ≡ false → heads (one terminal'.Text) ts0 ≡ false → Taken (one terminal'.FStart) ts0 x ts1 →
    Agrees view res (Reads d (pieces_from true x.line (map piece_tree found)) ts1) → Agrees view res (Reads d (pick atom ts0) ts0)
start_tail_answers view res d x ts0 ts1 found e h0 h1 t0 r =
    agrees_over view res (Reads d (pieces_from true x.line (map piece_tree found)) ts1) _ (λ o q. start_tail d found e h0 h1 t0 q) r

-- a field
pub field_deep : (d : ℕ) {x : Token} {ts0 ts1 : List Token} → d ≡ 0 → Taken (mark mark'.OpenBrace) ts0 x ts1 → Reads d one_field ts0 (fault deep ts0)
field_deep d hz t0 = deep_at d _ hz t0

pub field_fault0 : (d : ℕ) {x : Token} {ts0 ts1 r9 : List Token} {w : Why} → d ≢ 0 → Taken (mark mark'.OpenBrace) ts0 x ts1 →
    Reads (d - 1) (pick expr ts1) ts1 (fault w r9) → Reads d one_field ts0 (fault w r9)
field_fault0 d {x = x} hd t0 r = opens_at d _ hd t0 (deeper_fault d _ hd (by_production (field_body x.line) (last_production _ (r_part_fault r))))

pub field_unfit1 : (d : ℕ) {x : Token} {v : Tree} {ts0 ts1 ts2 : List Token} → d ≢ 0 → Taken (mark mark'.OpenBrace) ts0 x ts1 →
    Reads (d - 1) (pick expr ts1) ts1 (ok v ts2) → heads (mark mark'.CloseBrace) ts2 ≡ false → Reads d one_field ts0 (fault unfit ts2)
field_unfit1 d {x = x} {v = v} {ts2 = ts2} hd t0 r nh =
    opens_at d _ hd t0 (deeper_fault d _ hd (by_production (field_body x.line) (last_production _ (r_read v ts2 r (r_refused nh)))))

pub field_ok : (d : ℕ) {x y : Token} {u v : Tree} {ts0 ts1 ts2 ts3 : List Token} → d ≢ 0 → Taken (mark mark'.OpenBrace) ts0 x ts1 →
    Reads (d - 1) (pick expr ts1) ts1 (ok v ts2) → Taken (mark mark'.CloseBrace) ts2 y ts3 → u ≡ field x.line v → Reads d one_field ts0 (ok u ts3)
field_ok d {x = x} {v = v} {ts2 = ts2} hd t0 r t1 e =
    opens_at d _ hd t0 (deeper_gives d hd (by_production (field_body x.line) (last_production _ (r_read v ts2 r (takes_at _ t1 (given_at e))))))

-- a field, and what stands behind it
pub field_then : {d : ℕ} {ts rest : List Token} {t : Tree} {o : Outcome} (l : ℕ) (found : List Tree) →
    Reads d one_field ts (ok t rest) → Reads d (pieces_from true l (found ++ t ∷ [])) rest o → Reads d (field_from l found) ts o
field_then l found (r_opened p (r_nested u rest r r_given)) s = r_opened p (r_nested u rest r s)

pub field_broken : {d : ℕ} {ts r9 : List Token} {w : Why} (l : ℕ) (found : List Tree) →
    Reads d one_field ts (fault w r9) → Reads d (field_from l found) ts (fault w r9)
field_broken l found (r_opened p (r_nested u rest r s)) = elim s [ ]
field_broken l found (r_opened p (r_nested_fault r)) = r_opened p (r_nested_fault r)
field_broken l found (r_deep p) = r_deep p
field_broken l found (r_unopened p) = r_unopened p

-- texts that go on with a field, or ended
pub pieces_begin : (d l : ℕ) (b : Body) (ts : List Token) (n : NextPiece) (found : Vec Piece Global) (rest : Bor (List Token)) (o : Outcome) →
    n ≡ piece'.Field found rest → PiecesGoOn l b ts n → Reads d (field_from l (map piece_tree found.items)) rest.now o → Reads d b ts o
pieces_begin d l b ts n found rest o e g r = let h : PiecesGoOn l b ts (piece'.Field found rest) = subst (λ m. PiecesGoOn l b ts m) e g in h d o r

pub pieces_end : (d l : ℕ) (b : Body) (ts : List Token) (n : NextPiece) (e : Expr) (rest : Bor (List Token)) →
    n ≡ piece'.Ended e rest → PiecesGoOn l b ts n → Reads d b ts (ok (expr_tree e) rest.now)
pieces_end d l b ts n e rest p g = let h : PiecesGoOn l b ts (piece'.Ended e rest) = subst (λ m. PiecesGoOn l b ts m) p g in h d

pub pieces_stay : (ts : List Token) (n : NextPiece) (found : Vec Piece Global) (rest : Bor (List Token)) → n ≡ piece'.Field found rest →
    PiecesStay ts (Ok n) → length rest.now ≤ length ts
pieces_stay ts n found rest e h = let i : PiecesStay ts (Ok (piece'.Field found rest)) = subst (λ m. PiecesStay ts (Ok m)) e h in i

-- what is said of one body, carried over to another
pub pieces_go_over : (l : ℕ) (b c : Body) (ts us : List Token) (n : NextPiece) → ((d : ℕ) (o : Outcome) → Reads d b ts o → Reads d c us o) →
    PiecesGoOn l b ts n → PiecesGoOn l c us n
pieces_go_over l b c ts us (piece'.Field found rest) f g = λ d o r. f d o (g d o r)
pieces_go_over l b c ts us (piece'.Ended e rest) f g = λ d. f d _ (g d)

pub pieces_continue_over : (l : ℕ) (b c : Body) (ts us : List Token) (r : Result NextPiece Stop) →
    ((d : ℕ) (o : Outcome) → Reads d b ts o → Reads d c us o) → PiecesContinue l b ts r → PiecesContinue l c us r
pieces_continue_over l b c ts us (Ok n) f g = pieces_go_over l b c ts us n f g
pieces_continue_over l b c ts us (Err s) f g = stops_over s _ _ (λ w rest h d. f d _ (h d)) g

-- the whole that a list of pieces is behind those found
abbrev Whole : ℕ → List Tree → Tree → Body
Whole l found u = gives (joined l (onto found u))

one_longer : {d : ℕ} {ts : List Token} {o : Outcome} (l : ℕ) (found found' : List Tree) (p : Tree) → found' ≡ found ++ p ∷ [] →
    Reads d (reads parts (Whole l found')) ts o → Reads d (reads parts (λ u. Whole l found (cons p u))) ts o
one_longer {d = d} {ts = ts} {o = o} l found found' p e r =
    let s = subst (λ f. Reads d (reads parts (Whole l f)) ts o) e r in
    covers_read parts _ _ (λ u. covers_given _ _ (ap (joined l) (onto_one_more found p u))) d ts o s

more_longer : {d : ℕ} {ts : List Token} {o : Outcome} (l : ℕ) (found found' : List Tree) (p : Tree) → found' ≡ found ++ p ∷ [] →
    Reads d (reads more_pieces (Whole l found')) ts o → Reads d (reads more_pieces (λ u. Whole l found (cons p u))) ts o
more_longer {d = d} {ts = ts} {o = o} l found found' p e r =
    let s = subst (λ f. Reads d (reads more_pieces (Whole l f)) ts o) e r in
    covers_read more_pieces _ _ (λ u. covers_given _ _ (ap (joined l) (onto_one_more found p u))) d ts o s

-- how a token begins texts
text_is_piece : (k : TokenKind) → fits (one terminal'.Text) k ≡ true → fits (one terminal'.Piece) k ≡ true
text_is_piece (kind'.Text t) h = refl
text_is_piece (kind'.Name n) h = cc
text_is_piece (kind'.Integer n) h = cc
text_is_piece (kind'.FPart t) h = cc
text_is_piece (kind'.Word w) h = cc
text_is_piece (kind'.Mark m) h = cc
text_is_piece kind'.FStart h = cc
text_is_piece kind'.FEnd h = cc
text_is_piece kind'.Newline h = cc
text_is_piece kind'.Indent h = cc
text_is_piece kind'.Dedent h = cc

start_is_piece : (k : TokenKind) → fits (one terminal'.FStart) k ≡ true → fits (one terminal'.Piece) k ≡ true
start_is_piece (kind'.Text t) h = cc
start_is_piece (kind'.Name n) h = cc
start_is_piece (kind'.Integer n) h = cc
start_is_piece (kind'.FPart t) h = cc
start_is_piece (kind'.Word w) h = cc
start_is_piece (kind'.Mark m) h = cc
start_is_piece kind'.FStart h = refl
start_is_piece kind'.FEnd h = cc
start_is_piece kind'.Newline h = cc
start_is_piece kind'.Indent h = cc
start_is_piece kind'.Dedent h = cc

no_other_piece : (k : TokenKind) → fits (one terminal'.Text) k ≡ false → fits (one terminal'.FStart) k ≡ false → fits (one terminal'.Piece) k ≡ false
no_other_piece (kind'.Text t) h i = cc
no_other_piece (kind'.Name n) h i = refl
no_other_piece (kind'.Integer n) h i = refl
no_other_piece (kind'.FPart t) h i = refl
no_other_piece (kind'.Word w) h i = refl
no_other_piece (kind'.Mark m) h i = refl
no_other_piece kind'.FStart h i = cc
no_other_piece kind'.FEnd h i = refl
no_other_piece kind'.Newline h i = refl
no_other_piece kind'.Indent h i = refl
no_other_piece kind'.Dedent h i = refl

text_heads : {x : Token} {ts rest : List Token} → Taken (one terminal'.Text) ts x rest → heads (one terminal'.Piece) ts ≡ true
text_heads {x = x} t = rw t.parts (text_is_piece x.kind t.fitting)

start_heads : {x : Token} {ts rest : List Token} → Taken (one terminal'.FStart) ts x rest → heads (one terminal'.Piece) ts ≡ true
start_heads {x = x} t = rw t.parts (start_is_piece x.kind t.fitting)

no_heads : (ts : List Token) → heads (one terminal'.Text) ts ≡ false → heads (one terminal'.FStart) ts ≡ false → heads (one terminal'.Piece) ts ≡ false
no_heads [] h i = refl
no_heads (x ∷ ts) h i = no_other_piece x.kind h i

-- one more part
pub part_more : {d : ℕ} {ts rest : List Token} {x : Token} {o : Outcome} (inside : Bool) (l : ℕ) (found found' : List Tree) →
    Taken (part_wanted inside) ts x rest → found' ≡ found ++ piece_of x ∷ [] →
    Reads d (pieces_from inside l found') rest o → Reads d (pieces_from inside l found) ts o
unfolding beginning
part_more {x = x} true l found found' t e r =
    reads_by parts (Whole l found) (takes (one terminal'.FPart) (λ y. reads parts (λ u. gives (cons (piece_of y) u))))
    (λ o' s. by_production parts (yes_takes _ _ t (untake t s)))
    (takes_at _ t (one_longer l found found' (piece_of x) e r))
part_more {x = x} false l found found' t e r =
    reads_by more_pieces (Whole l found) (takes (one terminal'.Text) (λ y. reads more_pieces (λ u. gives (cons (piece_of y) u))))
    (λ o' s. by_production more_pieces (yes_reads _ _ (text_heads t) (reads_gives (by_production some_pieces (yes_takes _ _ t (untake t s))))))
    (takes_at _ t (more_longer l found found' (piece_of x) e r))

-- an f-text ends, or one begins
pub turned : {d : ℕ} {ts rest : List Token} {x : Token} {o : Outcome} (inside inside' : Bool) (l : ℕ) (found : List Tree) →
    inside' ≡ not inside → Taken (turn_wanted inside) ts x rest → heads (part_wanted inside) ts ≡ false →
    (inside ≡ true → heads (mark mark'.OpenBrace) ts ≡ false) →
    Reads d (pieces_from inside' l found) rest o → Reads d (pieces_from inside l found) ts o
unfolding beginning
turned {d = d} {rest = rest} {o = o} true inside' l found e t h b r =
    let s = subst (λ i. Reads d (pieces_from i l found) rest o) e r in
    reads_by parts (Whole l found) (takes (one terminal'.FEnd) (λ _. reads more_pieces gives))
    (λ o' q. by_production parts (no_takes _ _ _ _ h (no_opens _ _ _ _ (b refl) (last_production _ q))))
    (takes_at _ t s)
turned {d = d} {rest = rest} {o = o} false inside' l found e t h b r =
    let s = subst (λ i. Reads d (pieces_from i l found) rest o) e r in
    reads_by more_pieces (Whole l found) (takes (one terminal'.FStart) (λ _. reads parts gives))
    (λ o' q. by_production more_pieces (yes_reads _ _ (start_heads t) (reads_gives (by_production some_pieces (no_takes _ _ _ _ h (last_production _ q))))))
    (takes_at _ t s)

-- a field stands here
pub field_stands : {d : ℕ} {ts : List Token} {o : Outcome} (inside : Bool) (l : ℕ) (found : List Tree) → inside ≡ true →
    heads (part_wanted inside) ts ≡ false → heads (mark mark'.OpenBrace) ts ≡ true →
    Reads d (field_from l found) ts o → Reads d (pieces_from inside l found) ts o
unfolding leads
field_stands {d = d} {ts = ts} {o = o} true l found e h b r =
    reads_by parts (Whole l found) (opens (mark mark'.OpenBrace) (λ x. deeper (field_body x.line) (λ t. reads parts (λ u. gives (cons t u)))))
    (λ o' q. by_production parts (no_takes _ _ _ _ h (choose_yes _ _ b q)))
    (covers_opened _ _ _ (λ x. covers_nested _ _ _ (λ t. covers_read parts _ _ (λ u. covers_given _ _ (ap (joined l) (onto_one_more found t u))))) d ts o r)
field_stands false l found e h b r = cc

-- nothing more stands here
pub pieces_ended : (d : ℕ) (inside : Bool) (l : ℕ) (found : List Tree) (ts : List Token) {v : Tree} → inside ≡ false →
    heads (part_wanted inside) ts ≡ false → heads (turn_wanted inside) ts ≡ false → v ≡ joined l (trees found) →
    Reads d (pieces_from inside l found) ts (ok v ts)
unfolding beginning
pieces_ended d true l found ts e h i p = cc
pieces_ended d false l found ts e h i p =
    r_read nil ts (by_production more_pieces (no_reads _ _ _ _ (no_heads ts h i) (yes_gives nil [])))
    (given_at (p ∙ ap (joined l) (sym (onto_all found))))

pub pieces_unfit : (d : ℕ) (inside : Bool) (l : ℕ) (found : List Tree) (ts : List Token) → inside ≡ true →
    heads (part_wanted inside) ts ≡ false → heads (mark mark'.OpenBrace) ts ≡ false → heads (turn_wanted inside) ts ≡ false →
    Reads d (pieces_from inside l found) ts (fault unfit ts)
pieces_unfit d true l found ts e h b i = r_part_fault (by_production parts (no_takes _ _ _ _ h (no_opens _ _ _ _ b (last_production _ (r_refused i)))))
pieces_unfit d false l found ts e h b i = cc

pub steps_as : (inside : Bool) (ts : List Token) (n m : PieceStep) → n ≡ m → StepsTo inside ts n → StepsTo inside ts m
steps_as inside ts n m e h = subst (λ s. StepsTo inside ts s) e h

-- a text, and what stands behind it
pub text_alone : (d l : ℕ) (t : List ℕ) (ts : List Token) {v : Tree} → heads (one terminal'.Piece) ts ≡ false → v ≡ text l t →
    Reads d (pick (text_rest l t) ts) ts (ok v ts)
unfolding beginning
text_alone d l t ts h e =
    subst (λ v. Reads d (pick (text_rest l t) ts) ts (ok v ts)) (sym e) (by_production (text_rest l t) (no_reads _ _ _ _ h (yes_gives (text l t) [])))

pub first_part : (l : ℕ) (t s : List ℕ) (old new : List Piece) → old ≡ [] → new ≡ old ++ part'.Part l s ∷ [] → s ≡ t → map piece_tree new ≡ text l t ∷ []
first_part l t s old new e n p =
    ap (map piece_tree) (n ∙ ap (λ (ps : List Piece). ps ++ part'.Part l s ∷ []) e) ∙ ap (λ (u : Tree). u ∷ []) (piece_tree-Part l s ∙ ap (text l) p)

picks_some : (ts : List Token) → heads (one terminal'.Piece) ts ≡ true → pick more_pieces ts ≡ reads some_pieces gives
unfolding pick choose leads beginning
picks_some ts h = rw h refl

given_on : {d : ℕ} {ts : List Token} {o : Outcome} (p : Part) → Reads d (reads p gives) ts o → Reads d (pick p ts) ts o
given_on p (r_read u rest r r_given) = r
given_on p (r_part_fault r) = r

one_piece_more : {d : ℕ} {ts : List Token} {o : Outcome} (k : Tree → Body) → heads (one terminal'.Piece) ts ≡ true →
    Reads d (reads more_pieces k) ts o → Reads d (reads some_pieces k) ts o
one_piece_more {d = d} {ts = ts} k h (r_read u rest r s) =
    r_read u rest (given_on some_pieces (subst (λ b. Reads d b ts (ok u rest)) (picks_some ts h) r)) s
one_piece_more {d = d} {ts = ts} k h (r_part_fault {rest = rest} {w = w} r) =
    r_part_fault (given_on some_pieces (subst (λ b. Reads d b ts (fault w rest)) (picks_some ts h) r))

pub text_more : {d : ℕ} {ts : List Token} {o : Outcome} (l : ℕ) (t : List ℕ) (found : List Tree) → found ≡ text l t ∷ [] →
    heads (one terminal'.Piece) ts ≡ true → Reads d (pieces_from false l found) ts o → Reads d (pick (text_rest l t) ts) ts o
unfolding beginning
text_more {d = d} {ts = ts} {o = o} l t found e h r =
    let s = subst (λ f. Reads d (pieces_from false l f) ts o) e r in
    by_production (text_rest l t) (yes_reads _ _ h (one_piece_more _ h s))
