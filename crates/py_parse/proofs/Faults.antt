-- A fault of reading is the fault of the tokens, with its place and its kind, and tokens have one fault or a tree.
use Rattle.std.proofs.Common.{◌≡◌, ℕ, zero, suc, ◌+◌, List, [], ◌∷◌, ◌++◌, refl, sym, ap, subst, ◌∙◌, append_assoc, arith, ◌⊎◌, inl, inr}
use Rattle.scons_base.specs.declared.limits.TheConstants.{SYNTAX_DEPTH_LIMIT}
use Rattle.py_token.specs.declared.token.Token.{Token}
use Rattle.py_tree.specs.Tree.{Tree}
use Rattle.py_parse.specs.declared.fault.ParseKind.{ParseKind}
use Rattle.py_parse.specs.Grammar.{Body, reads, gives, script}
use Rattle.py_parse.specs.Parses.{Parses, BeginsScript, NoMore, IsFirstFault}
use Rattle.py_parse.specs.Reading.{Outcome, fault, Why, unfit, deep, Reads}
use Rattle.py_parse.specs.Kinds.{IsTooDeep, IsKind, too_deep, behind_expression, behind_none, another}
use Rattle.py_parse.specs.Faults.{FaultAt, line_of, number_of}
use Rattle.py_parse.proofs.One.{Reads-one}
use Rattle.py_parse.proofs.Table.{complete_script}
use Rattle.py_parse.proofs.Levels as levels
use Rattle.py_parse.proofs.Levels.{NotDeep, GoesOn, one_more}
use Rattle.py_parse.proofs.Top.{with_nothing, begins_script}
use Rattle.py_parse.proofs.Local.{SameHead, local, same_fronts, begun, no_more_at}

-- where reading stops: the tokens before begin a script, no script goes on with the next one, and other tokens behind that
-- one change nothing
pub record Stopped (ts rest : List Token) (w : Why) : Type 0 where
  pub front : List Token
  pub parts : ts ≡ front ++ rest
  pub begins : BeginsScript front
  pub ends : NoMore front rest
  pub moves : (r : List Token) → SameHead rest r → Reads SYNTAX_DEPTH_LIMIT (reads script gives) (front ++ r) (fault w r)

pub stopped_at : {ts rest : List Token} {w : Why} → Reads SYNTAX_DEPTH_LIMIT (reads script gives) ts (fault w rest) → Stopped ts rest w
stopped_at {ts = ts} {rest = rest} {w = w} r =
    let l = local r in
    let v = begins_script ts rest w r in
    let e : v.front ≡ l.front = same_fronts ts v.front l.front rest v.parts l.parts in
    record {
      front = l.front;
      parts = l.parts;
      begins = rw e at (begun v.front v.begins);
      ends = no_more_at l.front rest w l.moves;
      moves = l.moves;
    }

-- with more levels, what wasn't too deep ends as it did
more_levels : (n : ℕ) {d e : ℕ} {b : Body} {ts : List Token} {o : Outcome} → e ≡ n + d → Reads d b ts o → NotDeep o → Reads e b ts o
more_levels zero {d = d} {e = e} q r h = let p : e ≡ d = omega arith in rw p r
more_levels (suc n) {d = d} {e = e} q r h = more_levels n {d = suc d} {e = e} (omega arith) (one_more r h) h

-- what is refused as too deep would go on with one more level
pub deep_is : (front rest : List Token) → Reads SYNTAX_DEPTH_LIMIT (reads script gives) (front ++ rest) (fault deep rest) → IsTooDeep front rest
deep_is front rest r =
    let g = levels.too_deep (front ++ rest) rest r in
    let e : g.front ≡ front = same_fronts (front ++ rest) g.front front rest g.parts refl in
    let h : IsTooDeep g.front (g.token ∷ g.behind) = (101, g.begins.more, g.begins.tree, g.begins.spelling) in
    let i : IsTooDeep front (g.token ∷ g.behind) = subst (λ f. IsTooDeep f (g.token ∷ g.behind)) e h in
    subst (λ l. IsTooDeep front l) (sym g.rest_is) i

-- what is refused as such is refused at every limit
pub unfit_is : (front rest : List Token) → Reads SYNTAX_DEPTH_LIMIT (reads script gives) (front ++ rest) (fault unfit rest) → IsTooDeep front rest → ⊥
unfit_is front [] r h = h
unfit_is front (x ∷ rest) r h =
    let s = stopped_at r in
    let e : s.front ≡ front = same_fronts (front ++ x ∷ rest) s.front front (x ∷ rest) s.parts refl in
    let stops : Reads SYNTAX_DEPTH_LIMIT (reads script gives) (front ++ x ∷ h.1) (fault unfit (x ∷ h.1)) = rw e at (s.moves (x ∷ h.1) (λ v. refl)) in
    let whole : (front ++ x ∷ []) ++ h.1 ≡ front ++ x ∷ h.1 = append_assoc (front) (x ∷ []) h.1 in
    let goes = rw (with_nothing, whole) at (complete_script h.0 ((front ++ x ∷ []) ++ h.1) h.2 h.3) in
    let both = Reads-one (more_levels h.0 {e = h.0 + SYNTAX_DEPTH_LIMIT} refl stops tt) (more_levels SYNTAX_DEPTH_LIMIT {e = h.0 + SYNTAX_DEPTH_LIMIT} (omega arith) goes tt) in
    cc

-- of two fronts of the same tokens one goes on where the other ends
record Longer (f r g : List Token) : Type 0 where
  token : Token
  middle : List Token
  behind : List Token
  front_is : g ≡ f ++ token ∷ middle
  rest_is : r ≡ token ∷ behind

abbrev ThreeWays : List Token → List Token → List Token → List Token → Type 0
ThreeWays f r g s = ((f ≡ g) × (r ≡ s)) ⊎ (Longer f r g ⊎ Longer g s f)

longer_too : (x : Token) (f r g : List Token) → Longer f r g → Longer (x ∷ f) r (x ∷ g)
longer_too x f r g l = record { token = l.token; middle = l.middle; behind = l.behind; front_is = ap (λ t. x ∷ t) l.front_is; rest_is = l.rest_is }

three_ways_too : (x : Token) (f r g s : List Token) → ThreeWays f r g s → ThreeWays (x ∷ f) r (x ∷ g) s
three_ways_too x f r g s (inl e) = inl (ap (λ t. x ∷ t) e.0, e.1)
three_ways_too x f r g s (inr (inl l)) = inr (inl (longer_too x f r g l))
three_ways_too x f r g s (inr (inr l)) = inr (inr (longer_too x g s f l))

three_ways : (f r g s : List Token) → f ++ r ≡ g ++ s → ThreeWays f r g s
three_ways [] r [] s e = inl (refl, e)
three_ways [] r (y ∷ g) s e = inr (inl (record { token = y; middle = g; behind = g ++ s; front_is = refl; rest_is = e }))
three_ways (x ∷ f) r [] s e = inr (inr (record { token = x; middle = f; behind = f ++ r; front_is = refl; rest_is = sym e }))
three_ways (x ∷ f) r (y ∷ g) s e =
    let p : x ≡ y = cc in
    let q : f ++ r ≡ g ++ s = cc in
    subst (λ z. ThreeWays (x ∷ f) r (z ∷ g) s) p (three_ways_too x f r g s (three_ways f r g s q))

not_longer : (f r g : List Token) → NoMore f r → BeginsScript g → Longer f r g → ⊥
not_longer f r g n b l =
    let m : NoMore f (l.token ∷ l.behind) = subst (λ k. NoMore f k) l.rest_is n in
    let e : g ++ b.0 ≡ f ++ l.token ∷ (l.middle ++ b.0) = rw (l.front_is, append_assoc) refl in
    m (l.middle ++ b.0) b.1 (subst (λ k. Parses k b.1) e b.2)

same_front : (f r g s : List Token) → NoMore f r → NoMore g s → BeginsScript f → BeginsScript g → ThreeWays f r g s → (f ≡ g) × (r ≡ s)
same_front f r g s n m b c (inl e) = e
same_front f r g s n m b c (inr (inl l)) = absurd (not_longer f r g n c l)
same_front f r g s n m b c (inr (inr l)) = absurd (not_longer g s f m b l)

-- tokens have one first fault
one_place : (ts : List Token) (p q : ℕ) (a : IsFirstFault ts p) (b : IsFirstFault ts q) → (a.front ≡ b.front) × (a.rest ≡ b.rest)
one_place ts p q a b = same_front a.front a.rest b.front b.rest a.ends b.ends a.begins b.begins (three_ways a.front a.rest b.front b.rest (sym a.parts ∙ b.parts))

-- and it is of one kind
one_kind : (front rest : List Token) (k l : ParseKind) → IsKind front rest k → IsKind front rest l → k ≡ l
one_kind front rest k l (too_deep d) (too_deep e) = refl
one_kind front rest k l (too_deep d) (behind_expression u n is b) = absurd (n d)
one_kind front rest k l (too_deep d) (behind_none u n is b) = absurd (n d)
one_kind front rest k l (too_deep d) (another kind n is w) = absurd (n d)
one_kind front rest k l (behind_expression u n is b) (too_deep d) = absurd (n d)
one_kind front rest k l (behind_expression u n is b) (behind_expression v m are c) = cc
one_kind front rest k l (behind_expression u n is b) (behind_none v m are c) = absurd (c b)
one_kind front rest k l (behind_expression u n is b) (another kind m are w) = cc
one_kind front rest k l (behind_none u n is b) (too_deep d) = absurd (n d)
one_kind front rest k l (behind_none u n is b) (behind_expression v m are c) = absurd (b c)
one_kind front rest k l (behind_none u n is b) (behind_none v m are c) = refl
one_kind front rest k l (behind_none u n is b) (another kind m are w) = cc
one_kind front rest k l (another kind n is w) (too_deep d) = absurd (n d)
one_kind front rest k l (another kind n is w) (behind_expression v m are c) = cc
one_kind front rest k l (another kind n is w) (behind_none v m are c) = cc
one_kind front rest k l (another kind n is w) (another other m are v) = cc

pub one_fault : (ts : List Token) (line number : ℕ) (kind : ParseKind) (line' number' : ℕ) (kind' : ParseKind) →
    FaultAt ts line number kind → FaultAt ts line' number' kind' → (line ≡ line') × (number ≡ number') × (kind ≡ kind')
one_fault ts line number kind line' number' kind' a b =
    let e = one_place ts a.place b.place a.first b.first in
    let f : a.first.front ≡ b.first.front = e.0 in
    let r : a.first.rest ≡ b.first.rest = e.1 in
    let l : line ≡ line' = a.on_line ∙ ap (λ g. line_of g a.first.rest) f ∙ ap (λ g. line_of b.first.front g) r ∙ sym b.on_line in
    let n : number ≡ number' = a.number ∙ ap number_of f ∙ sym b.number in
    let w = subst (λ g. IsKind b.first.front g kind) r (subst (λ g. IsKind g a.first.rest kind) f a.why) in
    (l, n, one_kind b.first.front b.first.rest kind kind' w b.why)

-- tokens have no fault and a tree
no_more_tree : (ts front rest : List Token) (t : Tree) → ts ≡ front ++ rest → NoMore front rest → Parses ts t → ⊥
no_more_tree ts front [] t e n p = let f : ts ≡ front = e ∙ with_nothing front in n t (subst (λ l. Parses l t) f p)
no_more_tree ts front (x ∷ rest) t e n p = n rest t (subst (λ l. Parses l t) e p)

pub not_both : (ts : List Token) (t : Tree) (line number : ℕ) (kind : ParseKind) → Parses ts t → FaultAt ts line number kind → ⊥
not_both ts t line number kind p a = no_more_tree ts a.first.front a.first.rest t a.first.parts a.first.ends p
