-- How tokens are read: at each part the first production that the next token may begin. This serves proofs alone; the
-- grammar is in `Grammar` and `Parses`.
use Rattle.std.specs.Prelude.{◌≡◌, ℕ, zero, suc, List, [], ◌∷◌, Bool, true, false, cond}
use Rattle.py_token.specs.declared.token.Token.{Token}
use Rattle.py_tree.specs.Tree.{Tree}
use Rattle.py_parse.specs.declared.terminal.Terminal.{Terminal}
use Rattle.py_parse.specs.declared.terminal.Terminal.TheVariants as terminal'
use Rattle.py_parse.specs.Terminals.{Want, one, fits, heads}
use Rattle.py_parse.specs.Grammar.{Part, Body, gives, takes, opens, reads, deeper, line, one_link, some_pieces, productions}

-- how a part begins that is one of several: a line by any token, what stands behind an atom, texts, else an expression
unfoldable pub beginning : Part → Terminal
beginning (line s) = terminal'.Any
beginning one_link = terminal'.Link
beginning some_pieces = terminal'.Piece
beginning _ = terminal'.Expression

-- the next token may begin the body
unfoldable pub leads : Body → List Token → Bool
leads (gives t) ts = true
leads (takes w k) ts = heads w ts
leads (opens w k) ts = heads w ts
leads (reads p k) ts = heads (one (beginning p)) ts
leads (deeper p k) ts = true

unfoldable pub choose : List Body → List Token → Body
choose (b ∷ (c ∷ cs)) ts = cond (leads b ts) b (choose (c ∷ cs) ts)
choose (b ∷ []) ts = b
choose [] ts = gives Tree.nil

-- the production that is read at these tokens
unfoldable pub pick : Part → List Token → Body
pick p ts = choose (productions p) ts

-- why a token doesn't fit: as such, or since it would open a level too many
pub data Why : Type 0 where
  unfit : Why
  deep : Why

pub data Outcome : Type 0 where
  ok : Tree → List Token → Outcome
  fault : Why → List Token → Outcome

-- Reading a body from the first of these tokens ends so: a tree and the tokens behind it, or the tokens from the first
-- that doesn't fit, or from the first that would open a level too many.
pub data Reads : ℕ → Body → List Token → Outcome → Type 0 where
  r_given : {d : ℕ} {t : Tree} {ts : List Token} → Reads d (gives t) ts (ok t ts)
  r_taken : {d : ℕ} {w : Want} {k : Token → Body} {x : Token} {ts : List Token} {o : Outcome} →
      fits w x.kind ≡ true → Reads d (k x) ts o → Reads d (takes w k) (x ∷ ts) o
  r_refused : {d : ℕ} {w : Want} {k : Token → Body} {ts : List Token} →
      heads w ts ≡ false → Reads d (takes w k) ts (fault unfit ts)
  r_opened : {d : ℕ} {w : Want} {k : Token → Body} {x : Token} {ts : List Token} {o : Outcome} →
      fits w x.kind ≡ true → Reads (suc d) (k x) ts o → Reads (suc d) (opens w k) (x ∷ ts) o
  r_deep : {w : Want} {k : Token → Body} {ts : List Token} →
      heads w ts ≡ true → Reads zero (opens w k) ts (fault deep ts)
  r_unopened : {d : ℕ} {w : Want} {k : Token → Body} {ts : List Token} →
      heads w ts ≡ false → Reads d (opens w k) ts (fault unfit ts)
  r_read : {d : ℕ} {p : Part} {k : Tree → Body} {ts : List Token} {o : Outcome} (u : Tree) (rest : List Token) →
      Reads d (pick p ts) ts (ok u rest) → Reads d (k u) rest o → Reads d (reads p k) ts o
  r_part_fault : {d : ℕ} {p : Part} {k : Tree → Body} {ts rest : List Token} {w : Why} →
      Reads d (pick p ts) ts (fault w rest) → Reads d (reads p k) ts (fault w rest)
  r_nested : {d : ℕ} {p : Part} {k : Tree → Body} {ts : List Token} {o : Outcome} (u : Tree) (rest : List Token) →
      Reads d (pick p ts) ts (ok u rest) → Reads (suc d) (k u) rest o → Reads (suc d) (deeper p k) ts o
  r_nested_fault : {d : ℕ} {p : Part} {k : Tree → Body} {ts rest : List Token} {w : Why} →
      Reads d (pick p ts) ts (fault w rest) → Reads (suc d) (deeper p k) ts (fault w rest)
