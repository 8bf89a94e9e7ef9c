-- What is read is in the grammar.
use Rattle.std.proofs.Common.{◌≡◌, ℕ, suc, List, [], ◌∷◌, ◌++◌, Bool, true, false, cond, refl, ap, append_assoc}
use Rattle.py_token.specs.declared.token.Token.{Token}
use Rattle.py_tree.specs.Tree as tree
use Rattle.py_tree.specs.Tree.{Tree}
use Rattle.py_parse.specs.Terminals.{Want, fits}
use Rattle.py_parse.specs.Grammar as g
use Rattle.py_parse.specs.Grammar.{Part, Body, productions, when, first_named}
use Rattle.py_parse.specs.Parses.{Among, here, there, Spells, given, taken, opened, read, nested}
use Rattle.py_parse.specs.Reading.{Outcome, ok, fault, Reads, r_given, r_taken, r_refused, r_opened, r_deep, r_unopened, r_read, r_part_fault, r_nested, r_nested_fault, pick, choose, leads}

pub chosen : (b : Body) (bs : List Body) (ts : List Token) → Among (choose (b ∷ bs) ts) (b ∷ bs)
unfolding choose
chosen b [] ts = here
chosen b (c ∷ cs) ts =
    let rest = chosen c cs ts in
    elim (leads b ts) as (λ v. Among (cond v b (choose (c ∷ cs) ts)) (b ∷ (c ∷ cs))) [ true ↦ here | false ↦ there rest ]

-- a list that begins under a condition
pub chosen_when : (v : Bool) (b c : Body) (cs : List Body) (ts : List Token) → Among (choose (when v b (c ∷ cs)) ts) (when v b (c ∷ cs))
chosen_when true b c cs ts = chosen b (c ∷ cs) ts
chosen_when false b c cs ts = chosen c cs ts

chosen_two : (v w : Bool) (a b c : Body) (ts : List Token) →
    Among (choose (when v a (when w b (c ∷ []))) ts) (when v a (when w b (c ∷ [])))
chosen_two true w a b c ts = chosen a (when w b (c ∷ [])) ts
chosen_two false true a b c ts = chosen b (c ∷ []) ts
chosen_two false false a b c ts = chosen c [] ts

chosen_named : (t : Tree) (c : Body) (cs : List Body) (ts : List Token) → Among (choose (first_named t (c ∷ cs)) ts) (first_named t (c ∷ cs))
chosen_named (tree.name l n) c cs ts = chosen _ (c ∷ cs) ts
chosen_named _ c cs ts = chosen c cs ts

-- what is read at a part is one of its productions
pub picks : (p : Part) (ts : List Token) → Among (pick p ts) (productions p)
unfolding pick
picks g.script ts = chosen _ _ ts
picks (g.line a) ts = chosen _ _ ts
picks (g.branches a) ts = chosen _ _ ts
picks (g.block a) ts = chosen _ _ ts
picks (g.more_lines a) ts = chosen _ _ ts
picks (g.statements a) ts = chosen _ _ ts
picks (g.statements_rest a) ts = chosen _ _ ts
picks (g.statements_more a) ts = chosen _ _ ts
picks (g.small a) ts = chosen _ _ ts
picks g.returned ts = chosen _ _ ts
picks (g.assigned a) ts = chosen_two (g.is_targets a) (g.is_place a) _ _ _ ts
picks g.parameters ts = chosen _ _ ts
picks (g.params a) ts = chosen _ _ ts
picks (g.param_rest a b c) ts = chosen _ _ ts
picks (g.defaults a) ts = chosen _ _ ts
picks (g.defaults_rest a) ts = chosen _ _ ts
picks g.exprs ts = chosen _ _ ts
picks (g.exprs_rest a) ts = chosen _ _ ts
picks g.items ts = chosen _ _ ts
picks g.items_rest ts = chosen _ _ ts
picks g.expr ts = chosen _ _ ts
picks (g.choice_rest a) ts = chosen _ _ ts
picks (g.choice_body a b) ts = chosen _ _ ts
picks (g.chained a) ts = chosen _ _ ts
picks (g.operations a) ts = chosen _ _ ts
picks g.negation ts = chosen _ _ ts
picks g.comparison ts = chosen _ _ ts
picks (g.compared a) ts = chosen _ _ ts
picks (g.is_right a b) ts = chosen _ _ ts
picks g.constants ts = chosen _ _ ts
picks g.unary ts = chosen _ _ ts
picks g.posted ts = chosen _ _ ts
picks g.links ts = chosen _ _ ts
picks g.one_link ts = chosen _ _ ts
picks (g.call_body a) ts = chosen _ _ ts
picks g.atom ts = chosen _ _ ts
picks (g.text_rest a b) ts = chosen _ _ ts
picks g.some_pieces ts = chosen _ _ ts
picks g.more_pieces ts = chosen _ _ ts
picks g.parts ts = chosen _ _ ts
picks (g.field_body a) ts = chosen _ _ ts
picks (g.grouped a) ts = chosen _ _ ts
picks (g.listed a) ts = chosen _ _ ts
picks (g.listed_rest a b) ts = chosen _ _ ts
picks g.names ts = chosen _ _ ts
picks g.names_rest ts = chosen _ _ ts
picks g.tests ts = chosen _ _ ts
picks (g.dict_body a) ts = chosen _ _ ts
picks g.one_pair ts = chosen _ _ ts
picks g.pairs ts = chosen _ _ ts
picks g.pairs_rest ts = chosen _ _ ts
picks (g.subscript a) ts = chosen _ _ ts
picks (g.subscript_rest a b) ts = chosen _ _ ts
picks g.upper ts = chosen _ _ ts
picks g.args ts = chosen _ _ ts
picks (g.args_rest a) ts = chosen_named a _ _ ts
picks (g.named_args a) ts = chosen _ _ ts
picks (g.named_rest a) ts = chosen _ _ ts

pub record Sound (d : ℕ) (b : Body) (ts : List Token) (t : Tree) (rest : List Token) : Type 0 where
  pub front : List Token
  pub parts : ts ≡ front ++ rest
  pub spelling : Spells d b front t

abbrev pub SoundFor : ℕ → Body → List Token → Outcome → Type 0
SoundFor d b ts (ok t rest) = Sound d b ts t rest
SoundFor d b ts (fault w rest) = Unit {0}

behind_token : (d : ℕ) (w : Want) (k : Token → Body) (x : Token) (ts : List Token) (o : Outcome) →
    fits w x.kind ≡ true → SoundFor d (k x) ts o → SoundFor d (g.takes w k) (x ∷ ts) o
behind_token d w k x ts (ok t rest) f h = record { front = x ∷ h.front; parts = ap (λ l. x ∷ l) h.parts; spelling = taken f h.spelling }
behind_token d w k x ts (fault y rest) f h = tt

behind_opener : (d : ℕ) (w : Want) (k : Token → Body) (x : Token) (ts : List Token) (o : Outcome) →
    fits w x.kind ≡ true → SoundFor (suc d) (k x) ts o → SoundFor (suc d) (g.opens w k) (x ∷ ts) o
behind_opener d w k x ts (ok t rest) f h = record { front = x ∷ h.front; parts = ap (λ l. x ∷ l) h.parts; spelling = opened f h.spelling }
behind_opener d w k x ts (fault y rest) f h = tt

joined : (ts a rest b r : List Token) → ts ≡ a ++ rest → rest ≡ b ++ r → ts ≡ (a ++ b) ++ r
joined ts a rest b r p q = rw (append_assoc, ← q) p

behind_part : (d : ℕ) (p : Part) (k : Tree → Body) (u : Tree) (ts rest : List Token) (o : Outcome) →
    Sound d (pick p ts) ts u rest → SoundFor d (k u) rest o → SoundFor d (g.reads p k) ts o
behind_part d p k u ts rest (ok t r) h i = record {
  front = h.front ++ i.front;
  parts = joined ts h.front rest i.front r h.parts i.parts;
  spelling = read (pick p ts) h.front i.front (picks p ts) h.spelling i.spelling;
}
behind_part d p k u ts rest (fault w r) h i = tt

behind_deeper : (d : ℕ) (p : Part) (k : Tree → Body) (u : Tree) (ts rest : List Token) (o : Outcome) →
    Sound d (pick p ts) ts u rest → SoundFor (suc d) (k u) rest o → SoundFor (suc d) (g.deeper p k) ts o
behind_deeper d p k u ts rest (ok t r) h i = record {
  front = h.front ++ i.front;
  parts = joined ts h.front rest i.front r h.parts i.parts;
  spelling = nested (pick p ts) h.front i.front (picks p ts) h.spelling i.spelling;
}
behind_deeper d p k u ts rest (fault w r) h i = tt

pub sound : {d : ℕ} {b : Body} {ts : List Token} {o : Outcome} → Reads d b ts o → SoundFor d b ts o
sound r_given = record { front = []; parts = refl; spelling = given }
sound (r_taken {d = d} {w = w} {k = k} {x = x} {ts = ts} {o = o} f r) = behind_token d w k x ts o f (sound r)
sound (r_refused h) = tt
sound (r_opened {d = d} {w = w} {k = k} {x = x} {ts = ts} {o = o} f r) = behind_opener d w k x ts o f (sound r)
sound (r_deep h) = tt
sound (r_unopened h) = tt
sound (r_read {d = d} {p = p} {k = k} {ts = ts} {o = o} u rest r s) = behind_part d p k u ts rest o (sound r) (sound s)
sound (r_part_fault r) = tt
sound (r_nested {d = d} {p = p} {k = k} {ts = ts} {o = o} u rest r s) = behind_deeper d p k u ts rest o (sound r) (sound s)
sound (r_nested_fault r) = tt
