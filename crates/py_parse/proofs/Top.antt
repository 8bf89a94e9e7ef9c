-- Reading a script and the grammar agree: what is in the grammar is read, what is read is in the grammar, tokens have at
-- most one tree, and where reading stops the tokens before begin a script.
use Rattle.std.proofs.Common.{◌≡◌, List, [], ◌∷◌, ◌++◌, ◌∙◌, refl, ap}
use Rattle.scons_base.specs.declared.limits.TheConstants.{SYNTAX_DEPTH_LIMIT}
use Rattle.py_token.specs.declared.token.Token.{Token}
use Rattle.py_tree.specs.Tree.{Tree}
use Rattle.py_parse.specs.Grammar.{reads, gives, script}
use Rattle.py_parse.specs.Parses.{Parses}
use Rattle.py_parse.specs.Reading.{ok, fault, Why, Reads}
use Rattle.py_parse.proofs.One.{Reads-one}
use Rattle.py_parse.proofs.Sound.{Sound, sound}
use Rattle.py_parse.proofs.Viable.{Viable, viable}
use Rattle.py_parse.proofs.Table.{complete_script}

pub with_nothing : (ts : List Token) → ts ++ [] ≡ ts
with_nothing [] = refl
with_nothing (x ∷ ts) = ap (λ l. x ∷ l) (with_nothing ts)

pub read_of : (ts : List Token) (t : Tree) → Parses ts t → Reads SYNTAX_DEPTH_LIMIT (reads script gives) ts (ok t [])
read_of ts t p = rw (with_nothing ts) at (complete_script SYNTAX_DEPTH_LIMIT ts t p)

pub tree_of : (ts : List Token) (t : Tree) → Reads SYNTAX_DEPTH_LIMIT (reads script gives) ts (ok t []) → Parses ts t
tree_of ts t r =
    let s : Sound SYNTAX_DEPTH_LIMIT (reads script gives) ts t [] = sound r in
    let e : ts ≡ s.front = s.parts ∙ with_nothing s.front in
    rw e s.spelling

-- the grammar is unambiguous
pub one_tree : (ts : List Token) (t u : Tree) → Parses ts t → Parses ts u → t ≡ u
one_tree ts t u p q = let e = Reads-one (read_of ts t p) (read_of ts u q) in cc

-- where reading stops there is no tree
pub no_tree : (ts rest : List Token) (t : Tree) (w : Why) → Reads SYNTAX_DEPTH_LIMIT (reads script gives) ts (fault w rest) → Parses ts t → ⊥
no_tree ts rest t w r p = let e = Reads-one r (read_of ts t p) in cc

-- where reading stops, the tokens before are the front of a script
pub begins_script : (ts rest : List Token) (w : Why) → Reads SYNTAX_DEPTH_LIMIT (reads script gives) ts (fault w rest) → Viable SYNTAX_DEPTH_LIMIT (reads script gives) ts rest
begins_script ts rest w r = viable r tt
