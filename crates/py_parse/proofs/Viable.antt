-- Where reading stops, what was taken begins what was to be read.
use Rattle.std.proofs.Common.{◌≡◌, ℕ, zero, suc, List, [], ◌∷◌, ◌++◌, Bool, true, false, refl, ap, ◌⊎◌, inl, inr, append_assoc}
use Rattle.py_token.specs.declared.token.Token.{Token}
use Rattle.py_tree.specs.Tree as tree
use Rattle.py_tree.specs.Tree.{Tree}
use Rattle.py_token.specs.declared.keyword.Keyword.TheVariants as keyword'
use Rattle.py_token.specs.declared.mark.Mark.TheVariants as mark'
use Rattle.py_parse.specs.declared.terminal.Terminal.TheVariants as terminal'
use Rattle.py_parse.specs.Terminals.{Want, one, fits}
use Rattle.py_parse.specs.Grammar as g
use Rattle.py_parse.specs.Grammar.{Part, Body, productions, gives, takes, opens, reads, deeper, when, first_named}
use Rattle.py_parse.specs.Parses.{Among, here, there, Spells, given, taken, opened, read, nested}
use Rattle.py_parse.specs.Reading.{Outcome, ok, fault, Reads, r_given, r_taken, r_refused, r_opened, r_deep, r_unopened, r_read, r_part_fault, r_nested, r_nested_fault, pick}
use Rattle.py_parse.proofs.Sound.{Sound, sound, picks}
use Rattle.py_parse.proofs.Fill.{Filled, fill, sample, want_fits, token_for}

-- nothing in the body opens a level
abbrev Flat : Body → Type 0
Flat (gives t) = Unit {0}
Flat (takes w k) = (x : Token) → Flat (k x)
Flat (opens w k) = ⊥
Flat (reads p k) = (u : Tree) → Flat (k u)
Flat (deeper p k) = ⊥

-- nothing in the body opens a level but its first token
abbrev Shallow : Body → Type 0
Shallow (gives t) = Unit {0}
Shallow (takes w k) = (x : Token) → Flat (k x)
Shallow (opens w k) = Unit {0}
Shallow (reads p k) = (u : Tree) → Flat (k u)
Shallow (deeper p k) = ⊥

flat_shallow : (b : Body) → Flat b → Shallow b
flat_shallow (gives t) f = tt
flat_shallow (takes w k) f = f
flat_shallow (opens w k) f = tt
flat_shallow (reads p k) f = f
flat_shallow (deeper p k) f = f

abbrev AllShallow : List Body → Type 0
AllShallow [] = Unit {0}
AllShallow (b ∷ bs) = Shallow b × AllShallow bs

all_when : (v : Bool) (b : Body) (bs : List Body) → Shallow b → AllShallow bs → AllShallow (when v b bs)
all_when true b bs h hs = (h, hs)
all_when false b bs h hs = hs

all_named : (t : Tree) (bs : List Body) → AllShallow bs → AllShallow (first_named t bs)
all_named (tree.name l n) bs hs = ((λ a1 a2 a3. tt), hs)
all_named _ bs hs = hs

all_shallow : (p : Part) → AllShallow (productions p)
all_shallow g.script = ((λ a1 a2. tt), (tt, tt))
all_shallow (g.line a) = (tt, (tt, (tt, all_when a.outermost (opens (g.keyword keyword'.Def) (λ x. g.function_body x.line)) (reads (g.statements a) (λ t. gives (tree.simple t)) ∷ []) tt ((λ a1. tt), tt))))
all_shallow (g.branches a) = (tt, (tt, (tt, tt)))
all_shallow (g.block a) = ((λ a1 a2 a3 a4. tt), ((λ a1. tt), tt))
all_shallow (g.more_lines a) = ((λ a1. tt), ((λ a1 a2. tt), tt))
all_shallow (g.statements a) = ((λ a1 a2. tt), tt)
all_shallow (g.statements_rest a) = ((λ a1. tt), ((λ a1 a2. tt), tt))
all_shallow (g.statements_more a) = ((λ a1. tt), ((λ a1. tt), tt))
all_shallow (g.small a) = ((λ a1. tt), ((λ a1 a2 a3 a4 a5 a6. tt), (all_when a.in_for (takes (g.keyword keyword'.Break) (λ x. gives (tree.break x.line))) (when a.in_for (takes (g.keyword keyword'.Continue) (λ x. gives (tree.continue x.line))) (when a.in_def (takes (g.keyword keyword'.Return) (λ x. g.return_body x.line)) (g.assignment ∷ []))) (λ a1. tt) (all_when a.in_for (takes (g.keyword keyword'.Continue) (λ x. gives (tree.continue x.line))) (when a.in_def (takes (g.keyword keyword'.Return) (λ x. g.return_body x.line)) (g.assignment ∷ [])) (λ a1. tt) (all_when a.in_def (takes (g.keyword keyword'.Return) (λ x. g.return_body x.line)) (g.assignment ∷ []) (λ a1 a2. tt) ((λ a1 a2. tt), tt))))))
all_shallow g.returned = ((λ a1. tt), (tt, tt))
all_shallow (g.assigned a) = all_when (g.is_targets a) (takes (g.mark mark'.Assign) (λ x. reads g.exprs (λ e. gives (tree.assign x.line a e)))) (when (g.is_place a) (takes (one terminal'.Augment) (g.augment_body a)) (gives (tree.expression a) ∷ [])) (λ a1 a2. tt) (all_when (g.is_place a) (takes (one terminal'.Augment) (g.augment_body a)) (gives (tree.expression a) ∷ []) (λ a1 a2. tt) (tt, tt))
all_shallow g.parameters = ((λ a1 a2. tt), tt)
all_shallow (g.params a) = ((λ a1 a2. tt), (tt, tt))
all_shallow (g.param_rest a b c) = ((λ a1 a2 a3. tt), ((λ a1 a2. tt), (tt, tt)))
all_shallow (g.defaults a) = ((λ a1 a2 a3 a4. tt), (tt, tt))
all_shallow (g.defaults_rest a) = ((λ a1 a2. tt), (tt, tt))
all_shallow g.exprs = ((λ a1 a2. tt), tt)
all_shallow (g.exprs_rest a) = ((λ a1 a2. tt), (tt, tt))
all_shallow g.items = ((λ a1 a2. tt), (tt, tt))
all_shallow g.items_rest = ((λ a1 a2. tt), (tt, tt))
all_shallow g.expr = ((λ a1 a2. tt), tt)
all_shallow (g.choice_rest a) = (tt, (tt, tt))
all_shallow (g.choice_body a b) = ((λ a1 a2 a3. tt), tt)
all_shallow (g.chained a) = ((λ a1 a2. tt), tt)
all_shallow (g.operations a) = ((λ a1 a2 a3. tt), (tt, tt))
all_shallow g.negation = (tt, ((λ a1. tt), tt))
all_shallow g.comparison = ((λ a1 a2. tt), tt)
all_shallow (g.compared a) = ((λ a1 a2 a3. tt), ((λ a1 a2. tt), ((λ a1 a2. tt), (tt, tt))))
all_shallow (g.is_right a b) = ((λ a1 a2. tt), ((λ a1. tt), tt))
all_shallow g.constants = ((λ a1. tt), tt)
all_shallow g.unary = (tt, ((λ a1. tt), tt))
all_shallow g.posted = ((λ a1 a2. tt), tt)
all_shallow g.links = ((λ a1 a2. tt), (tt, tt))
all_shallow g.one_link = (tt, (tt, ((λ a1 a2. tt), tt)))
all_shallow (g.call_body a) = ((λ a1 a2. tt), tt)
all_shallow g.atom = (tt, ((λ a1 a2. tt), ((λ a1 a2. tt), ((λ a1. tt), tt))))
all_shallow (g.text_rest a b) = ((λ a1. tt), (tt, tt))
all_shallow g.some_pieces = ((λ a1 a2. tt), ((λ a1 a2. tt), tt))
all_shallow g.more_pieces = ((λ a1. tt), (tt, tt))
all_shallow g.parts = ((λ a1 a2. tt), (tt, ((λ a1 a2. tt), tt)))
all_shallow (g.field_body a) = ((λ a1 a2. tt), tt)
all_shallow (g.grouped a) = ((λ a1. tt), ((λ a1 a2. tt), tt))
all_shallow (g.listed a) = ((λ a1. tt), ((λ a1 a2. tt), tt))
all_shallow (g.listed_rest a b) = ((λ a1 a2 a3 a4 a5 a6. tt), ((λ a1 a2. tt), tt))
all_shallow g.names = ((λ a1 a2. tt), tt)
all_shallow g.names_rest = ((λ a1 a2. tt), (tt, tt))
all_shallow g.tests = ((λ a1 a2 a3. tt), (tt, tt))
all_shallow (g.dict_body a) = ((λ a1 a2. tt), tt)
all_shallow g.one_pair = ((λ a1 a2 a3. tt), tt)
all_shallow g.pairs = ((λ a1 a2. tt), (tt, tt))
all_shallow g.pairs_rest = ((λ a1 a2. tt), (tt, tt))
all_shallow (g.subscript a) = ((λ a1 a2 a3. tt), ((λ a1 a2. tt), tt))
all_shallow (g.subscript_rest a b) = ((λ a1 a2 a3. tt), ((λ a1. tt), tt))
all_shallow g.upper = ((λ a1. tt), (tt, tt))
all_shallow g.args = ((λ a1 a2. tt), (tt, tt))
all_shallow (g.args_rest a) =
    all_named a (takes (g.mark mark'.Comma) (λ _. reads g.args (λ u. gives (tree.cons a u))) ∷ gives (tree.cons a tree.nil) ∷ []) ((λ a1 a2. tt), (tt, tt))
all_shallow (g.named_args a) = ((λ a1 a2 a3 a4. tt), (tt, tt))
all_shallow (g.named_rest a) = ((λ a1 a2. tt), (tt, tt))

shallow_among : (b : Body) (bs : List Body) → Among b bs → AllShallow bs → Shallow b
shallow_among b [] a h = elim a [ ]
shallow_among b (b' ∷ bs) here h = h.0
shallow_among b (c ∷ bs) (there a) h = shallow_among b bs a h.1

-- what can be filled in, and what can be read, at so many levels
abbrev Can : ℕ → Body → Type 0
Can zero b = Flat b
Can (suc d) b = Unit {0}

abbrev OkAt : ℕ → Body → Type 0
OkAt zero b = Shallow b
OkAt (suc d) b = Unit {0}

can_ok : (d : ℕ) (b : Body) → Can d b → OkAt d b
can_ok zero b c = flat_shallow b c
can_ok (suc d) b c = tt

after_token : (d : ℕ) (w : Want) (k : Token → Body) (x : Token) → OkAt d (takes w k) → Can d (k x)
after_token zero w k x h = h x
after_token (suc d) w k x h = tt

after_part : (d : ℕ) (p : Part) (k : Tree → Body) (u : Tree) → OkAt d (reads p k) → Can d (k u)
after_part zero p k u h = h u
after_part (suc d) p k u h = tt

level_ok : (d : ℕ) (p : Part) (ts : List Token) → OkAt d (pick p ts)
level_ok zero p ts = shallow_among (pick p ts) (productions p) (picks p ts) (all_shallow p)
level_ok (suc d) p ts = tt

fill_flat : (d : ℕ) (b : Body) → Flat b → Filled d b
fill_flat d (gives t) f = record { tokens = []; tree = t; spelling = given }
fill_flat d (takes w k) f =
    let x = token_for w in
    let h = fill_flat d (k x) (f x) in
    record { tokens = x ∷ h.tokens; tree = h.tree; spelling = taken (want_fits w) h.spelling }
fill_flat d (opens w k) f = absurd f
fill_flat d (reads p k) f =
    let s = sample d p in
    let h = fill_flat d (k s.tree) (f s.tree) in
    record { tokens = s.tokens ++ h.tokens; tree = h.tree; spelling = read s.body s.tokens h.tokens s.among s.spelling h.spelling }
fill_flat d (deeper p k) f = absurd f

can_fill : (d : ℕ) (b : Body) → Can d b → Filled d b
can_fill zero b c = fill_flat zero b c
can_fill (suc d) b c = fill d b

-- some tokens behind these make them what stands in the body
pub record Begins (d : ℕ) (b : Body) (front : List Token) : Type 0 where
  pub more : List Token
  pub tree : Tree
  pub spelling : Spells d b (front ++ more) tree

pub record Viable (d : ℕ) (b : Body) (ts rest : List Token) : Type 0 where
  pub front : List Token
  pub parts : ts ≡ front ++ rest
  pub begins : (front ≡ []) ⊎ Begins d b front

abbrev pub ViableFor : ℕ → Body → List Token → Outcome → Type 0
ViableFor d b ts (ok t rest) = Unit {0}
ViableFor d b ts (fault w rest) = Viable d b ts rest

begins_of : (d : ℕ) (b : Body) (front : List Token) → Can d b → (front ≡ []) ⊎ Begins d b front → Begins d b front
begins_of d b front c (inl e) = let f = can_fill d b c in record { more = f.tokens; tree = f.tree; spelling = rw e f.spelling }
begins_of d b front c (inr h) = h

here_at : {d : ℕ} {b : Body} (ts : List Token) → Viable d b ts ts
here_at ts = record { front = []; parts = refl; begins = inl refl }

via_token : (d : ℕ) (w : Want) (k : Token → Body) (x : Token) (ts : List Token) (o : Outcome) → fits w x.kind ≡ true →
    Can d (k x) → ViableFor d (k x) ts o → ViableFor d (takes w k) (x ∷ ts) o
via_token d w k x ts (ok t rest) f c v = tt
via_token d w k x ts (fault y rest) f c v =
    let b = begins_of d (k x) v.front c v.begins in
    record { front = x ∷ v.front; parts = ap (λ l. x ∷ l) v.parts; begins = inr (record { more = b.more; tree = b.tree; spelling = taken f b.spelling }) }

via_opener : (d : ℕ) (w : Want) (k : Token → Body) (x : Token) (ts : List Token) (o : Outcome) → fits w x.kind ≡ true →
    ViableFor (suc d) (k x) ts o → ViableFor (suc d) (opens w k) (x ∷ ts) o
via_opener d w k x ts (ok t rest) f v = tt
via_opener d w k x ts (fault y rest) f v =
    let b = begins_of (suc d) (k x) v.front tt v.begins in
    record { front = x ∷ v.front; parts = ap (λ l. x ∷ l) v.parts; begins = inr (record { more = b.more; tree = b.tree; spelling = opened f b.spelling }) }

joined : (ts a rest b r : List Token) → ts ≡ a ++ rest → rest ≡ b ++ r → ts ≡ (a ++ b) ++ r
joined ts a rest b r p q = rw (append_assoc, ← q) p

via_part : (d : ℕ) (p : Part) (k : Tree → Body) (u : Tree) (ts rest : List Token) (o : Outcome) →
    Sound d (pick p ts) ts u rest → Can d (k u) → ViableFor d (k u) rest o → ViableFor d (reads p k) ts o
via_part d p k u ts rest (ok t r) h c v = tt
via_part d p k u ts rest (fault y r) h c v =
    let b = begins_of d (k u) v.front c v.begins in
    record {
      front = h.front ++ v.front;
      parts = joined ts h.front rest v.front r h.parts v.parts;
      begins = inr (record { more = b.more; tree = b.tree; spelling = rw append_assoc (read (pick p ts) h.front (v.front ++ b.more) (picks p ts) h.spelling b.spelling) });
    }

via_deeper : (d : ℕ) (p : Part) (k : Tree → Body) (u : Tree) (ts rest : List Token) (o : Outcome) →
    Sound d (pick p ts) ts u rest → ViableFor (suc d) (k u) rest o → ViableFor (suc d) (deeper p k) ts o
via_deeper d p k u ts rest (ok t r) h v = tt
via_deeper d p k u ts rest (fault y r) h v =
    let b = begins_of (suc d) (k u) v.front tt v.begins in
    record {
      front = h.front ++ v.front;
      parts = joined ts h.front rest v.front r h.parts v.parts;
      begins = inr (record { more = b.more; tree = b.tree; spelling = rw append_assoc (nested (pick p ts) h.front (v.front ++ b.more) (picks p ts) h.spelling b.spelling) });
    }

-- what begins the part, and then what stands behind it
whole_part : (d : ℕ) (p : Part) (k : Tree → Body) (ts front : List Token) → ((u : Tree) → Can d (k u)) →
    (front ≡ []) ⊎ Begins d (pick p ts) front → (front ≡ []) ⊎ Begins d (reads p k) front
whole_part d p k ts front c (inl e) = inl e
whole_part d p k ts front c (inr b) =
    let f = can_fill d (k b.tree) (c b.tree) in
    inr (record { more = b.more ++ f.tokens; tree = f.tree; spelling = rw (← append_assoc) (read (pick p ts) (front ++ b.more) f.tokens (picks p ts) b.spelling f.spelling) })

whole_deeper : (d : ℕ) (p : Part) (k : Tree → Body) (ts front : List Token) →
    (front ≡ []) ⊎ Begins d (pick p ts) front → (front ≡ []) ⊎ Begins (suc d) (deeper p k) front
whole_deeper d p k ts front (inl e) = inl e
whole_deeper d p k ts front (inr b) =
    let f = fill d (k b.tree) in
    inr (record { more = b.more ++ f.tokens; tree = f.tree; spelling = rw (← append_assoc) (nested (pick p ts) (front ++ b.more) f.tokens (picks p ts) b.spelling f.spelling) })

pub viable : {d : ℕ} {b : Body} {ts : List Token} {o : Outcome} → Reads d b ts o → OkAt d b → ViableFor d b ts o
viable r_given h = tt
viable (r_taken {d = d} {w = w} {k = k} {x = x} {ts = ts} {o = o} f r) h =
    let c = after_token d w k x h in via_token d w k x ts o f c (viable r (can_ok d (k x) c))
viable (r_refused {ts = ts} n) h = here_at ts
viable (r_opened {d = d} {w = w} {k = k} {x = x} {ts = ts} {o = o} f r) h = via_opener d w k x ts o f (viable r tt)
viable (r_deep {ts = ts} n) h = here_at ts
viable (r_unopened {ts = ts} n) h = here_at ts
viable (r_read {d = d} {p = p} {k = k} {ts = ts} {o = o} u rest r s) h =
    let c = after_part d p k u h in via_part d p k u ts rest o (sound r) c (viable s (can_ok d (k u) c))
viable (r_part_fault {d = d} {p = p} {k = k} {ts = ts} {rest = rest} r) h =
    let v = viable r (level_ok d p ts) in
    record { front = v.front; parts = v.parts; begins = whole_part d p k ts v.front (λ u. after_part d p k u h) v.begins }
viable (r_nested {d = d} {p = p} {k = k} {ts = ts} {o = o} u rest r s) h = via_deeper d p k u ts rest o (sound r) (viable s tt)
viable (r_nested_fault {d = d} {p = p} {k = k} {ts = ts} {rest = rest} r) h =
    let v = viable r (level_ok d p ts) in
    record { front = v.front; parts = v.parts; begins = whole_deeper d p k ts v.front v.begins }
