-- With one more level of nesting, what was refused as such is refused still, and what was refused as too deep goes on.
use Rattle.std.proofs.Common.{◌≡◌, ℕ, zero, suc, List, [], ◌∷◌, ◌++◌, true, refl, ap, append_assoc}
use Rattle.scons_base.specs.declared.limits.TheConstants.{SYNTAX_DEPTH_LIMIT}
use Rattle.py_token.specs.declared.token.Token.{Token}
use Rattle.py_tree.specs.Tree.{Tree}
use Rattle.py_parse.specs.Terminals.{Want, fits, heads}
use Rattle.py_parse.specs.Grammar.{Part, Body, gives, takes, opens, reads, deeper, script}
use Rattle.py_parse.specs.Parses.{Spells, taken, opened, read, nested}
use Rattle.py_parse.specs.Reading.{Outcome, ok, fault, Why, unfit, deep, Reads, r_given, r_taken, r_refused, r_opened, r_deep, r_unopened, r_read, r_part_fault, r_nested, r_nested_fault, pick}
use Rattle.py_parse.proofs.Sound.{Sound, sound, picks}
use Rattle.py_parse.proofs.Fill.{fill}
use Rattle.py_parse.proofs.Viable.{Begins}

abbrev pub NotDeep : Outcome → Type 0
NotDeep (ok t rest) = Unit {0}
NotDeep (fault unfit rest) = Unit {0}
NotDeep (fault deep rest) = ⊥

pub one_more : {d : ℕ} {b : Body} {ts : List Token} {o : Outcome} → Reads d b ts o → NotDeep o → Reads (suc d) b ts o
one_more r_given n = r_given
one_more (r_taken f r) n = r_taken f (one_more r n)
one_more (r_refused h) n = r_refused h
one_more (r_opened f r) n = r_opened f (one_more r n)
one_more (r_deep h) n = absurd n
one_more (r_unopened h) n = r_unopened h
one_more (r_read u rest r s) n = r_read u rest (one_more r tt) (one_more s n)
one_more (r_part_fault r) n = r_part_fault (one_more r n)
one_more (r_nested u rest r s) n = r_nested u rest (one_more r tt) (one_more s n)
one_more (r_nested_fault r) n = r_nested_fault (one_more r n)

-- the tokens up to the one that is too deep begin the body where one more level is left
pub record GoesOn (d : ℕ) (b : Body) (ts rest : List Token) : Type 0 where
  pub front : List Token
  pub token : Token
  pub behind : List Token
  pub parts : ts ≡ front ++ rest
  pub rest_is : rest ≡ token ∷ behind
  pub begins : Begins (suc d) b (front ++ token ∷ [])

abbrev pub GoesOnFor : ℕ → Body → List Token → Outcome → Type 0
GoesOnFor d b ts (ok t rest) = Unit {0}
GoesOnFor d b ts (fault unfit rest) = Unit {0}
GoesOnFor d b ts (fault deep rest) = GoesOn d b ts rest

on_token : (d : ℕ) (w : Want) (k : Token → Body) (x : Token) (ts : List Token) (o : Outcome) → fits w x.kind ≡ true →
    GoesOnFor d (k x) ts o → GoesOnFor d (takes w k) (x ∷ ts) o
on_token d w k x ts (ok t rest) f g = tt
on_token d w k x ts (fault unfit rest) f g = tt
on_token d w k x ts (fault deep rest) f g = record {
  front = x ∷ g.front;
  token = g.token;
  behind = g.behind;
  parts = ap (λ s. x ∷ s) g.parts;
  rest_is = g.rest_is;
  begins = record { more = g.begins.more; tree = g.begins.tree; spelling = taken f g.begins.spelling };
}

on_opener : (d : ℕ) (w : Want) (k : Token → Body) (x : Token) (ts : List Token) (o : Outcome) → fits w x.kind ≡ true →
    GoesOnFor (suc d) (k x) ts o → GoesOnFor (suc d) (opens w k) (x ∷ ts) o
on_opener d w k x ts (ok t rest) f g = tt
on_opener d w k x ts (fault unfit rest) f g = tt
on_opener d w k x ts (fault deep rest) f g = record {
  front = x ∷ g.front;
  token = g.token;
  behind = g.behind;
  parts = ap (λ s. x ∷ s) g.parts;
  rest_is = g.rest_is;
  begins = record { more = g.begins.more; tree = g.begins.tree; spelling = opened f g.begins.spelling };
}

on_deep : (w : Want) (k : Token → Body) (ts : List Token) → heads w ts ≡ true → GoesOn zero (opens w k) ts ts
on_deep w k [] h = cc
on_deep w k (x ∷ ts) h =
    let f = fill zero (k x) in
    record {
      front = [];
      token = x;
      behind = ts;
      parts = refl;
      rest_is = refl;
      begins = record { more = f.tokens; tree = f.tree; spelling = opened h f.spelling };
    }

joined : (ts a rest b r : List Token) → ts ≡ a ++ rest → rest ≡ b ++ r → ts ≡ (a ++ b) ++ r
joined ts a rest b r p q = rw (append_assoc, ← q) p

on_part : (d : ℕ) (p : Part) (k : Tree → Body) (u : Tree) (ts rest : List Token) (o : Outcome) →
    Sound (suc d) (pick p ts) ts u rest → GoesOnFor d (k u) rest o → GoesOnFor d (reads p k) ts o
on_part d p k u ts rest (ok t r) s g = tt
on_part d p k u ts rest (fault unfit r) s g = tt
on_part d p k u ts rest (fault deep r) s g = record {
  front = s.front ++ g.front;
  token = g.token;
  behind = g.behind;
  parts = joined ts s.front rest g.front r s.parts g.parts;
  rest_is = g.rest_is;
  begins = record {
    more = g.begins.more;
    tree = g.begins.tree;
    spelling =
        let w : Spells (suc d) (reads p k) (s.front ++ ((g.front ++ g.token ∷ []) ++ g.begins.more)) g.begins.tree =
        read (pick p ts) s.front ((g.front ++ g.token ∷ []) ++ g.begins.more) (picks p ts) s.spelling g.begins.spelling in
        let v = simp append_assoc at w in
        simp append_assoc v;
  };
}

on_deeper : (d : ℕ) (p : Part) (k : Tree → Body) (u : Tree) (ts rest : List Token) (o : Outcome) →
    Sound (suc d) (pick p ts) ts u rest → GoesOnFor (suc d) (k u) rest o → GoesOnFor (suc d) (deeper p k) ts o
on_deeper d p k u ts rest (ok t r) s g = tt
on_deeper d p k u ts rest (fault unfit r) s g = tt
on_deeper d p k u ts rest (fault deep r) s g = record {
  front = s.front ++ g.front;
  token = g.token;
  behind = g.behind;
  parts = joined ts s.front rest g.front r s.parts g.parts;
  rest_is = g.rest_is;
  begins = record {
    more = g.begins.more;
    tree = g.begins.tree;
    spelling =
        let w : Spells (suc (suc d)) (deeper p k) (s.front ++ ((g.front ++ g.token ∷ []) ++ g.begins.more)) g.begins.tree =
        nested (pick p ts) s.front ((g.front ++ g.token ∷ []) ++ g.begins.more) (picks p ts) s.spelling g.begins.spelling in
        let v = simp append_assoc at w in
        simp append_assoc v;
  };
}

on_part_fault : (d : ℕ) (p : Part) (k : Tree → Body) (ts rest : List Token) (w : Why) →
    GoesOnFor d (pick p ts) ts (fault w rest) → GoesOnFor d (reads p k) ts (fault w rest)
on_part_fault d p k ts rest unfit g = tt
on_part_fault d p k ts rest deep g =
    let f = fill d (k g.begins.tree) in
    record {
      front = g.front;
      token = g.token;
      behind = g.behind;
      parts = g.parts;
      rest_is = g.rest_is;
      begins = record {
        more = g.begins.more ++ f.tokens;
        tree = f.tree;
        spelling = rw (← append_assoc) (read (pick p ts) ((g.front ++ g.token ∷ []) ++ g.begins.more) f.tokens (picks p ts) g.begins.spelling f.spelling);
      };
    }

on_deeper_fault : (d : ℕ) (p : Part) (k : Tree → Body) (ts rest : List Token) (w : Why) →
    GoesOnFor d (pick p ts) ts (fault w rest) → GoesOnFor (suc d) (deeper p k) ts (fault w rest)
on_deeper_fault d p k ts rest unfit g = tt
on_deeper_fault d p k ts rest deep g =
    let f = fill (suc d) (k g.begins.tree) in
    record {
      front = g.front;
      token = g.token;
      behind = g.behind;
      parts = g.parts;
      rest_is = g.rest_is;
      begins = record {
        more = g.begins.more ++ f.tokens;
        tree = f.tree;
        spelling = rw (← append_assoc) (nested (pick p ts) ((g.front ++ g.token ∷ []) ++ g.begins.more) f.tokens (picks p ts) g.begins.spelling f.spelling);
      };
    }

pub goes_on : {d : ℕ} {b : Body} {ts : List Token} {o : Outcome} → Reads d b ts o → GoesOnFor d b ts o
goes_on r_given = tt
goes_on (r_taken {d = d} {w = w} {k = k} {x = x} {ts = ts} {o = o} f r) = on_token d w k x ts o f (goes_on r)
goes_on (r_refused h) = tt
goes_on (r_opened {d = d} {w = w} {k = k} {x = x} {ts = ts} {o = o} f r) = on_opener d w k x ts o f (goes_on r)
goes_on (r_deep {w = w} {k = k} {ts = ts} h) = on_deep w k ts h
goes_on (r_unopened h) = tt
goes_on (r_read {d = d} {p = p} {k = k} {ts = ts} {o = o} u rest r s) = on_part d p k u ts rest o (sound (one_more r tt)) (goes_on s)
goes_on (r_part_fault {d = d} {p = p} {k = k} {ts = ts} {rest = rest} {w = w} r) = on_part_fault d p k ts rest w (goes_on r)
goes_on (r_nested {d = d} {p = p} {k = k} {ts = ts} {o = o} u rest r s) = on_deeper d p k u ts rest o (sound (one_more r tt)) (goes_on s)
goes_on (r_nested_fault {d = d} {p = p} {k = k} {ts = ts} {rest = rest} {w = w} r) = on_deeper_fault d p k ts rest w (goes_on r)

-- what is too deep is too deep alone: with one more level the tokens up to it begin a script
pub too_deep : (ts rest : List Token) → Reads SYNTAX_DEPTH_LIMIT (reads script gives) ts (fault deep rest) → GoesOn SYNTAX_DEPTH_LIMIT (reads script gives) ts rest
too_deep ts rest r = goes_on r
