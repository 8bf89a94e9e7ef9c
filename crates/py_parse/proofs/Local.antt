-- Reading looks one token ahead: other tokens behind that one change nothing. So where reading stops, no tokens that go on
-- with the next one are a script.
use Rattle.std.proofs.Common.{◌≡◌, ℕ, suc, ◌+◌, List, [], ◌∷◌, ◌++◌, true, refl, sym, ap, ◌∙◌, append_assoc, length, length-append, arith, ◌⊎◌, inl, inr}
use Rattle.scons_base.specs.declared.limits.TheConstants.{SYNTAX_DEPTH_LIMIT}
use Rattle.py_token.specs.declared.token.Token.{Token}
use Rattle.py_tree.specs.Tree.{Tree, nil}
use Rattle.py_parse.specs.Terminals.{Want, one, fits, heads}
use Rattle.py_parse.specs.Grammar.{Part, Body, productions, gives, takes, opens, reads, deeper, script}
use Rattle.py_parse.specs.Parses.{BeginsScript, NoMore, IsFirstFault, here, there, given, read}
use Rattle.py_parse.specs.Reading.{Outcome, ok, fault, Why, Reads, r_given, r_taken, r_refused, r_opened, r_deep, r_unopened, r_read, r_part_fault, r_nested, r_nested_fault, pick, choose, leads, beginning}
use Rattle.py_parse.proofs.Shorter.{rest_of}
use Rattle.py_parse.proofs.Top.{no_tree, with_nothing, begins_script}
use Rattle.py_parse.proofs.Viable.{Begins}

abbrev pub SameHead : List Token → List Token → Type 0
SameHead ts us = (w : Want) → heads w ts ≡ heads w us

leads_same : (b : Body) (ts us : List Token) → SameHead ts us → leads b ts ≡ leads b us
unfolding leads
leads_same (gives t) ts us h = refl
leads_same (takes w k) ts us h = h w
leads_same (opens w k) ts us h = h w
leads_same (reads p k) ts us h = h (one (beginning p))
leads_same (deeper p k) ts us h = refl

choose_same : (bs : List Body) (ts us : List Token) → SameHead ts us → choose bs ts ≡ choose bs us
unfolding choose
choose_same [] ts us h = refl
choose_same (b ∷ []) ts us h = refl
choose_same (b ∷ (c ∷ cs)) ts us h = rw (leads_same b ts us h, choose_same (c ∷ cs) ts us h) refl

pick_same : (p : Part) (ts us : List Token) → SameHead ts us → pick p ts ≡ pick p us
unfolding pick
pick_same p ts us h = choose_same (productions p) ts us h

same_front : (front ts us : List Token) → SameHead ts us → SameHead (front ++ ts) (front ++ us)
same_front [] ts us h = h
same_front (x ∷ front) ts us h = λ w. refl

abbrev pub with_rest : Outcome → List Token → Outcome
with_rest (ok t rest) r = ok t r
with_rest (fault w rest) r = fault w r

pub record Local (d : ℕ) (b : Body) (ts : List Token) (o : Outcome) : Type 0 where
  pub front : List Token
  pub parts : ts ≡ front ++ rest_of o
  pub moves : (r : List Token) → SameHead (rest_of o) r → Reads d b (front ++ r) (with_rest o r)

local_token : (d : ℕ) (w : Want) (k : Token → Body) (x : Token) (ts : List Token) (o : Outcome) → fits w x.kind ≡ true →
    Local d (k x) ts o → Local d (takes w k) (x ∷ ts) o
local_token d w k x ts o f l = record {
  front = x ∷ l.front;
  parts = ap (λ s. x ∷ s) l.parts;
  moves = λ r h. r_taken f (l.moves r h);
}

local_opener : (d : ℕ) (w : Want) (k : Token → Body) (x : Token) (ts : List Token) (o : Outcome) → fits w x.kind ≡ true →
    Local (suc d) (k x) ts o → Local (suc d) (opens w k) (x ∷ ts) o
local_opener d w k x ts o f l = record {
  front = x ∷ l.front;
  parts = ap (λ s. x ∷ s) l.parts;
  moves = λ r h. r_opened f (l.moves r h);
}

moved_pick : (d : ℕ) (p : Part) (ts us : List Token) (o : Outcome) → SameHead ts us → Reads d (pick p ts) us o → Reads d (pick p us) us o
moved_pick d p ts us o h r = rw (pick_same p ts us h) at r

local_part : (d : ℕ) (p : Part) (k : Tree → Body) (u : Tree) (ts rest : List Token) (o : Outcome) →
    Local d (pick p ts) ts (ok u rest) → Local d (k u) rest o → Local d (reads p k) ts o
local_part d p k u ts rest o l m = record {
  front = l.front ++ m.front;
  parts = rw (append_assoc, ← m.parts) l.parts;
  moves = λ r h.
      let s : SameHead rest (m.front ++ r) = rw m.parts (same_front m.front (rest_of o) r h) in
      let a : SameHead ts (l.front ++ (m.front ++ r)) = rw l.parts (same_front l.front rest (m.front ++ r) s) in
      let first = moved_pick d p ts (l.front ++ (m.front ++ r)) (ok u (m.front ++ r)) a (l.moves (m.front ++ r) s) in
      let whole : Reads d (reads p k) (l.front ++ (m.front ++ r)) (with_rest o r) = r_read u (m.front ++ r) first (m.moves r h) in
      rw append_assoc whole;
}

local_deeper : (d : ℕ) (p : Part) (k : Tree → Body) (u : Tree) (ts rest : List Token) (o : Outcome) →
    Local d (pick p ts) ts (ok u rest) → Local (suc d) (k u) rest o → Local (suc d) (deeper p k) ts o
local_deeper d p k u ts rest o l m = record {
  front = l.front ++ m.front;
  parts = rw (append_assoc, ← m.parts) l.parts;
  moves = λ r h.
      let s : SameHead rest (m.front ++ r) = rw m.parts (same_front m.front (rest_of o) r h) in
      let a : SameHead ts (l.front ++ (m.front ++ r)) = rw l.parts (same_front l.front rest (m.front ++ r) s) in
      let first = moved_pick d p ts (l.front ++ (m.front ++ r)) (ok u (m.front ++ r)) a (l.moves (m.front ++ r) s) in
      let whole : Reads (suc d) (deeper p k) (l.front ++ (m.front ++ r)) (with_rest o r) = r_nested u (m.front ++ r) first (m.moves r h) in
      rw append_assoc whole;
}

local_fault : (d : ℕ) (p : Part) (k : Tree → Body) (ts rest : List Token) (w : Why) → Local d (pick p ts) ts (fault w rest) → Local d (reads p k) ts (fault w rest)
local_fault d p k ts rest w l = record {
  front = l.front;
  parts = l.parts;
  moves = λ r h.
      let a : SameHead ts (l.front ++ r) = rw l.parts (same_front l.front rest r h) in
      r_part_fault (moved_pick d p ts (l.front ++ r) (fault w r) a (l.moves r h));
}

local_deeper_fault : (d : ℕ) (p : Part) (k : Tree → Body) (ts rest : List Token) (w : Why) → Local d (pick p ts) ts (fault w rest) → Local (suc d) (deeper p k) ts (fault w rest)
local_deeper_fault d p k ts rest w l = record {
  front = l.front;
  parts = l.parts;
  moves = λ r h.
      let a : SameHead ts (l.front ++ r) = rw l.parts (same_front l.front rest r h) in
      r_nested_fault (moved_pick d p ts (l.front ++ r) (fault w r) a (l.moves r h));
}

pub local : {d : ℕ} {b : Body} {ts : List Token} {o : Outcome} → Reads d b ts o → Local d b ts o
local r_given = record { front = []; parts = refl; moves = λ r h. r_given }
local (r_taken {d = d} {w = w} {k = k} {x = x} {ts = ts} {o = o} f r) = local_token d w k x ts o f (local r)
local (r_refused {w = w} n) = record { front = []; parts = refl; moves = λ r h. r_refused (sym (h w) ∙ n) }
local (r_opened {d = d} {w = w} {k = k} {x = x} {ts = ts} {o = o} f r) = local_opener d w k x ts o f (local r)
local (r_deep {w = w} n) = record { front = []; parts = refl; moves = λ r h. r_deep (sym (h w) ∙ n) }
local (r_unopened {w = w} n) = record { front = []; parts = refl; moves = λ r h. r_unopened (sym (h w) ∙ n) }
local (r_read {d = d} {p = p} {k = k} {ts = ts} {o = o} u rest r s) = local_part d p k u ts rest o (local r) (local s)
local (r_part_fault {d = d} {p = p} {k = k} {ts = ts} {rest = rest} {w = w} r) = local_fault d p k ts rest w (local r)
local (r_nested {d = d} {p = p} {k = k} {ts = ts} {o = o} u rest r s) = local_deeper d p k u ts rest o (local r) (local s)
local (r_nested_fault {d = d} {p = p} {k = k} {ts = ts} {rest = rest} {w = w} r) = local_deeper_fault d p k ts rest w (local r)

pub no_more_at : (front rest : List Token) (w : Why) → ((r : List Token) → SameHead rest r → Reads SYNTAX_DEPTH_LIMIT (reads script gives) (front ++ r) (fault w r)) → NoMore front rest
no_more_at front [] w m = λ t p. no_tree (front ++ []) [] t w (m [] (λ v. refl)) (rw with_nothing p)
no_more_at front (x ∷ rest) w m = λ more t p. no_tree (front ++ x ∷ more) (x ∷ more) t w (m (x ∷ more) (λ v. refl)) p

same_part : (a b r s : List Token) → a ++ r ≡ b ++ s → length a ≡ length b → a ≡ b
same_part [] [] r s e n = refl
same_part [] (y ∷ b) r s e n = absurd (omega arith)
same_part (x ∷ a) [] r s e n = absurd (omega arith)
same_part (x ∷ a) (y ∷ b) r s e n =
    let p : x ≡ y = cc in
    let q : a ++ r ≡ b ++ s = cc in
    let t : a ≡ b = same_part a b r s q (omega arith) in
    cc

pub same_fronts : (ts a b r : List Token) → ts ≡ a ++ r → ts ≡ b ++ r → a ≡ b
same_fronts ts a b r p q =
    let e : a ++ r ≡ b ++ r = sym p ∙ q in
    let n = length-append a r in
    let m = length-append b r in
    let l = ap length e in
    same_part a b r r e (omega (arith, n, m, l))

nothing_begins : BeginsScript []
nothing_begins = ([], nil, read (gives nil) [] [] (there here) given given)

pub begun : (front : List Token) → (front ≡ []) ⊎ Begins SYNTAX_DEPTH_LIMIT (reads script gives) front → BeginsScript front
begun front (inl e) = rw e nothing_begins
begun front (inr b) = (b.more, b.tree, b.spelling)

-- where reading stops is the first token that no continuation allows
pub first_fault : (ts rest : List Token) (w : Why) → Reads SYNTAX_DEPTH_LIMIT (reads script gives) ts (fault w rest) →
    (place : ℕ) × (place + length rest ≡ length ts) × IsFirstFault ts place
first_fault ts rest w r =
    let l = local r in
    let v = begins_script ts rest w r in
    let e : v.front ≡ l.front = same_fronts ts v.front l.front rest v.parts l.parts in
    let b : BeginsScript l.front = rw e at (begun v.front v.begins) in
    let n = length-append l.front rest in
    let m : length ts ≡ length (l.front ++ rest) = ap length l.parts in (
      length l.front,
      omega (arith, n, m),
      record {
        front = l.front;
        rest = rest;
        parts = l.parts;
        place_is = refl;
        begins = b;
        ends = no_more_at l.front rest w l.moves;
      },
    )
