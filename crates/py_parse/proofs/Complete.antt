-- What is in the grammar is read, where what may follow each part never begins more of it. The two tables that this
-- asks for are the arguments of the section.
use Rattle.std.proofs.Common.{◌≡◌, ℕ, suc, List, [], ◌∷◌, ◌++◌, Bool, true, false, ◌||◌, refl, append_assoc}
use Rattle.py_token.specs.declared.token.Token.{Token}
use Rattle.py_tree.specs.Tree.{Tree}
use Rattle.py_parse.specs.declared.level.Level.{Level}
use Rattle.py_parse.specs.declared.level.Level.TheVariants as level'
use Rattle.py_parse.specs.declared.terminal.Terminal.TheVariants as terminal'
use Rattle.py_parse.specs.Terminals.{Want, one, fits, heads}
use Rattle.py_parse.specs.Grammar as g
use Rattle.py_parse.specs.Grammar.{Part, Body, productions, gives, takes, opens, reads, deeper}
use Rattle.py_parse.specs.Parses.{Among, here, there, Spells, given, taken, opened, read, nested}
use Rattle.py_parse.specs.Reading.{ok, Reads, r_given, r_taken, r_opened, r_read, r_nested, pick, choose, leads, beginning}
use Rattle.py_parse.proofs.Follow.{blocked, s_free, s_pieces, s_atom, s_product, s_sum, s_cmp, s_and, s_plain, s_expr, s_items, s_args, s_names, s_tests, s_upper, s_small, s_line, s_script}

-- the tokens that would go on with a level of operators, and with a part
abbrev pub level_stops : Level → List Want
level_stops level'.Or = s_plain
level_stops level'.And = s_and
level_stops level'.Sum = s_sum
level_stops level'.Product = s_product

abbrev pub stops : Part → List Want
stops g.script = s_script
stops (g.line a) = s_line
stops (g.branches a) = s_line
stops (g.block a) = s_free
stops (g.more_lines a) = s_free
stops (g.statements a) = s_free
stops (g.statements_rest a) = s_free
stops (g.statements_more a) = s_free
stops (g.small a) = s_small
stops g.returned = s_items
stops (g.assigned a) = s_small
stops g.parameters = s_free
stops (g.params a) = s_args
stops (g.param_rest a b c) = s_args
stops (g.defaults a) = s_args
stops (g.defaults_rest a) = s_args
stops g.exprs = s_items
stops (g.exprs_rest a) = s_items
stops g.items = s_items
stops g.items_rest = s_items
stops g.expr = s_expr
stops (g.choice_rest a) = s_expr
stops (g.choice_body a b) = s_expr
stops (g.chained a) = level_stops a
stops (g.operations a) = level_stops a
stops g.negation = s_cmp
stops g.comparison = s_cmp
stops (g.compared a) = s_cmp
stops (g.is_right a b) = s_free
stops g.constants = s_free
stops g.unary = s_atom
stops g.posted = s_atom
stops g.links = s_atom
stops g.one_link = s_free
stops (g.call_body a) = s_free
stops g.atom = s_pieces
stops (g.text_rest a b) = s_pieces
stops g.some_pieces = s_pieces
stops g.more_pieces = s_pieces
stops g.parts = s_pieces
stops (g.field_body a) = s_free
stops (g.grouped a) = s_free
stops (g.listed a) = s_free
stops (g.listed_rest a b) = s_free
stops g.names = s_names
stops g.names_rest = s_names
stops g.tests = s_tests
stops (g.dict_body a) = s_free
stops g.one_pair = s_expr
stops g.pairs = s_items
stops g.pairs_rest = s_items
stops (g.subscript a) = s_free
stops (g.subscript_rest a b) = s_free
stops g.upper = s_upper
stops g.args = s_args
stops (g.args_rest a) = s_args
stops (g.named_args a) = s_args
stops (g.named_rest a) = s_args

-- whatever these tokens spell, with what may stand behind it, doesn't go on with what stands before it
abbrev pub Followed : List Want → Body → List Want → Type 0
Followed ss b before =
    (d : ℕ) (us rest : List Token) (t : Tree) → Spells d b us t → blocked ss rest ≡ false → blocked before (us ++ rest) ≡ false

-- each part in the body is followed so
abbrev pub Fine : List Want → Body → Type 0
Fine ss (gives t) = Unit {0}
Fine ss (takes w k) = (x : Token) → Fine ss (k x)
Fine ss (opens w k) = (x : Token) → Fine ss (k x)
Fine ss (reads p k) = (u : Tree) → Followed ss (k u) (stops p) × Fine ss (k u)
Fine ss (deeper p k) = (u : Tree) → Followed ss (k u) (stops p) × Fine ss (k u)

-- what a production in front of others asks of the next token
abbrev pub asks : Body → Want
asks (gives t) = one terminal'.Any
asks (takes w k) = w
asks (opens w k) = w
asks (reads p k) = one (beginning p)
asks (deeper p k) = one terminal'.Any

abbrev pub Chooses : Body → Type 0
Chooses (gives t) = ⊥
Chooses (takes w k) = Unit {0}
Chooses (opens w k) = Unit {0}
Chooses (reads p k) = Unit {0}
Chooses (deeper p k) = ⊥

abbrev pub Own : Body → Type 0
Own b = (d : ℕ) (us rest : List Token) (t : Tree) → Spells d b us t → heads (asks b) (us ++ rest) ≡ true

abbrev pub Later : List Want → Body → List Body → Type 0
Later ss b [] = Unit {0}
Later ss b (c ∷ cs) = Followed ss c (asks b ∷ []) × Later ss b cs

-- one token ahead tells the productions apart
abbrev pub Ordered : List Want → List Body → Type 0
Ordered ss [] = Unit {0}
Ordered ss (b ∷ []) = Unit {0}
Ordered ss (b ∷ (c ∷ cs)) = Chooses b × Own b × Later ss b (c ∷ cs) × Ordered ss (c ∷ cs)

not_either : (a : Bool) → (a || false) ≡ false → a ≡ false
not_either true h = h
not_either false h = h

not_heads : (w : Want) (ts : List Token) → blocked (w ∷ []) ts ≡ false → heads w ts ≡ false
not_heads w [] h = refl
not_heads w (x ∷ ts) h = not_either (fits w x.kind) h

leads_asks : (b : Body) (ts : List Token) (v : Bool) → Chooses b → heads (asks b) ts ≡ v → leads b ts ≡ v
unfolding leads
leads_asks (gives t) ts v c h = absurd c
leads_asks (takes w k) ts v c h = h
leads_asks (opens w k) ts v c h = h
leads_asks (reads p k) ts v c h = h
leads_asks (deeper p k) ts v c h = absurd c

later_at : (ss : List Want) (b c : Body) (cs : List Body) → Among c cs → Later ss b cs → Followed ss c (asks b ∷ [])
later_at ss b c [] a l = elim a [ ]
later_at ss b c (x ∷ cs) here l = l.0
later_at ss b c (x ∷ cs) (there a) l = later_at ss b c cs a l.1

pub choose_right : (ss : List Want) (bs : List Body) (b : Body) → Among b bs → Ordered ss bs →
    (d : ℕ) (us rest : List Token) (t : Tree) → Spells d b us t → blocked ss rest ≡ false → choose bs (us ++ rest) ≡ b
unfolding choose
choose_right ss [] b a o d us rest t s h = elim a [ ]
choose_right ss (x ∷ []) b here o d us rest t s h = refl
choose_right ss (x ∷ []) b (there a) o d us rest t s h = elim a [ ]
choose_right ss (x ∷ (c ∷ cs)) b here o d us rest t s h =
    rw (leads_asks x (us ++ rest) true o.0 (o.1 d us rest t s)) refl
choose_right ss (x ∷ (c ∷ cs)) b (there a) o d us rest t s h =
    let n = not_heads (asks x) (us ++ rest) (later_at ss x b (c ∷ cs) a o.2 d us rest t s h) in
    rw (leads_asks x (us ++ rest) false o.0 n) (choose_right ss (c ∷ cs) b a o.3 d us rest t s h)

read_whole : (d : ℕ) (p : Part) (k : Tree → Body) (b : Body) (u t : Tree) (ts us rest : List Token) → pick p (ts ++ (us ++ rest)) ≡ b →
    Reads d b (ts ++ (us ++ rest)) (ok u (us ++ rest)) → Reads d (k u) (us ++ rest) (ok t rest) → Reads d (reads p k) ((ts ++ us) ++ rest) (ok t rest)
read_whole d p k b u t ts us rest e r s =
    let r' : Reads d (pick p (ts ++ (us ++ rest))) (ts ++ (us ++ rest)) (ok u (us ++ rest)) = rw e r in
    let w : Reads d (reads p k) (ts ++ (us ++ rest)) (ok t rest) = r_read u (us ++ rest) r' s in
    rw append_assoc w

nested_whole : (d : ℕ) (p : Part) (k : Tree → Body) (b : Body) (u t : Tree) (ts us rest : List Token) → pick p (ts ++ (us ++ rest)) ≡ b →
    Reads d b (ts ++ (us ++ rest)) (ok u (us ++ rest)) → Reads (suc d) (k u) (us ++ rest) (ok t rest) → Reads (suc d) (deeper p k) ((ts ++ us) ++ rest) (ok t rest)
nested_whole d p k b u t ts us rest e r s =
    let r' : Reads d (pick p (ts ++ (us ++ rest))) (ts ++ (us ++ rest)) (ok u (us ++ rest)) = rw e r in
    let w : Reads (suc d) (deeper p k) (ts ++ (us ++ rest)) (ok t rest) = r_nested u (us ++ rest) r' s in
    rw append_assoc w

module _ (fine : (p : Part) (b : Body) → Among b (productions p) → Fine (stops p) b)
    (ordered : (p : Part) → Ordered (stops p) (productions p)) where
  pick_right : (p : Part) (b : Body) → Among b (productions p) → (d : ℕ) (us rest : List Token) (t : Tree) → Spells d b us t →
      blocked (stops p) rest ≡ false → pick p (us ++ rest) ≡ b
  unfolding pick
  pick_right p b a d us rest t s h = choose_right (stops p) (productions p) b a (ordered p) d us rest t s h

  -- what a body spells is read, whatever may stand behind it
  pub complete : {d : ℕ} {b : Body} {us : List Token} {t : Tree} → Spells d b us t → (ss : List Want) → Fine ss b →
      (rest : List Token) → blocked ss rest ≡ false → Reads d b (us ++ rest) (ok t rest)
  complete given ss f rest h = r_given
  complete (taken {x = x} e s) ss f rest h = r_taken e (complete s ss (f x) rest h)
  complete (opened {x = x} e s) ss f rest h = r_opened e (complete s ss (f x) rest h)
  complete (read {d = d} {p = p} {k = k} {u = u} {t = t} b ts us a s1 s2) ss f rest h =
      let n = (f u).0 d us rest t s2 h in
      let e = pick_right p b a d ts (us ++ rest) u s1 n in
      let r = complete s1 (stops p) (fine p b a) (us ++ rest) n in
      read_whole d p k b u t ts us rest e r (complete s2 ss (f u).1 rest h)
  complete (nested {d = d} {p = p} {k = k} {u = u} {t = t} b ts us a s1 s2) ss f rest h =
      let n = (f u).0 (suc d) us rest t s2 h in
      let e = pick_right p b a d ts (us ++ rest) u s1 n in
      let r = complete s1 (stops p) (fine p b a) (us ++ rest) n in
      nested_whole d p k b u t ts us rest e r (complete s2 ss (f u).1 rest h)
