-- Which tokens spell a tree, and the first token that no continuation allows. Both speak of the grammar alone.
use Rattle.std.specs.Prelude.{◌≡◌, ℕ, suc, List, [], ◌∷◌, ◌++◌, true, length}
use Rattle.scons_base.specs.declared.limits.TheConstants.{SYNTAX_DEPTH_LIMIT}
use Rattle.py_token.specs.declared.token.Token.{Token}
use Rattle.py_tree.specs.Tree.{Tree}
use Rattle.py_parse.specs.Terminals.{Want, fits}
use Rattle.py_parse.specs.Grammar.{Part, Body, gives, takes, opens, reads, deeper, script, productions}

-- one of the productions
pub data Among : Body → List Body → Type 0 where
  here : {b : Body} {bs : List Body} → Among b (b ∷ bs)
  there : {b c : Body} {bs : List Body} → Among b bs → Among b (c ∷ bs)

-- With so many levels of nesting left, the tokens spell what stands in a body, and this is its tree.
pub data Spells : ℕ → Body → List Token → Tree → Type 0 where
  given : {d : ℕ} {t : Tree} → Spells d (gives t) [] t
  taken : {d : ℕ} {w : Want} {k : Token → Body} {x : Token} {ts : List Token} {t : Tree} →
      fits w x.kind ≡ true → Spells d (k x) ts t → Spells d (takes w k) (x ∷ ts) t
  opened : {d : ℕ} {w : Want} {k : Token → Body} {x : Token} {ts : List Token} {t : Tree} →
      fits w x.kind ≡ true → Spells (suc d) (k x) ts t → Spells (suc d) (opens w k) (x ∷ ts) t
  read : {d : ℕ} {p : Part} {k : Tree → Body} {u t : Tree} (b : Body) (ts us : List Token) →
      Among b (productions p) → Spells d b ts u → Spells d (k u) us t → Spells d (reads p k) (ts ++ us) t
  nested : {d : ℕ} {p : Part} {k : Tree → Body} {u t : Tree} (b : Body) (ts us : List Token) →
      Among b (productions p) → Spells d b ts u → Spells (suc d) (k u) us t → Spells (suc d) (deeper p k) (ts ++ us) t

-- The tokens are a script whose tree is this, with at most so many levels of nesting.
abbrev pub ParsesWithin : ℕ → List Token → Tree → Type 0
ParsesWithin d tokens t = Spells d (reads script gives) tokens t

-- The limit is the project's own.
abbrev pub Parses : List Token → Tree → Type 0
Parses tokens t = ParsesWithin SYNTAX_DEPTH_LIMIT tokens t

-- These tokens are the front of a script.
abbrev pub BeginsScript : List Token → Type 0
BeginsScript front = (more : List Token) × (t : Tree) × Parses (front ++ more) t

-- With the next token they are the front of none; where no token is left they are none.
abbrev pub NoMore : List Token → List Token → Type 0
NoMore front [] = (t : Tree) → Parses front t → ⊥
NoMore front (x ∷ rest) = (more : List Token) (t : Tree) → Parses (front ++ x ∷ more) t → ⊥

-- The token at this place, counted from 0, is the first that no continuation allows.
pub record IsFirstFault (tokens : List Token) (place : ℕ) : Type 0 where
  pub front : List Token
  pub rest : List Token
  pub parts : tokens ≡ front ++ rest
  pub place_is : place ≡ length front
  pub begins : BeginsScript front
  pub ends : NoMore front rest
