-- How what the reading functions answer stands to `Reads`.
use Rattle.std.specs.Prelude.{◌≡◌, ◌&&◌, ◌++◌, ℕ, Bool, true, false, List, [], ◌∷◌, Result, Ok, Err, Option, Some, None}
use Rattle.std.specs.Borrow.{Bor}
use Rattle.py_token.specs.declared.token.Token.{Token}
use Rattle.py_tree.specs.Tree.{Tree, nil, cons, absent, compare, name, parameter, branch, expr_tree}
use Rattle.py_tree.specs.declared.expr.Operator.{Operator}
use Rattle.py_tree.specs.declared.expr.Comparison.{Comparison}
use Rattle.py_tree.specs.declared.expr.Comparison.TheVariants as comparison'
use Rattle.py_tree.specs.declared.expr.Expr.{Expr}
use Rattle.py_token.specs.declared.mark.Mark.TheVariants as mark'
use Rattle.std.specs.declared.boxed.Box.{Box}
use Rattle.std.specs.declared.alloc.Global.{Global}
use Rattle.py_parse.specs.declared.site.Site.{Site}
use Rattle.py_parse.specs.declared.level.Level.{Level}
use Rattle.py_parse.specs.declared.level.Level.TheVariants as level'
use Rattle.py_parse.specs.declared.stop.Stop.{Stop}
use Rattle.py_parse.specs.declared.stop.Stop.TheVariants as stop'
use Rattle.py_parse.specs.Terminals.{Want, one, fresh, heads, fits, operator_in, name_in}
use Rattle.py_parse.specs.declared.terminal.Terminal.TheVariants as terminal'
use Rattle.py_parse.specs.Grammar.{Part, Body, takes, reads, deeper, gives, constants, chained, compared, expr, block}
use Rattle.py_parse.specs.Grammar.{below, mark, is_name, defaults_rest, params}
use Rattle.py_parse.specs.Reading.{Outcome, ok, fault, unfit, deep, Reads, pick}

-- the first of these tokens is what is wanted, and the others stand behind it
pub record Taken (w : Want) (ts : List Token) (x : Token) (rest : List Token) : Type 0 where
  pub parts : ts ≡ x ∷ rest
  pub fitting : fits w x.kind ≡ true

-- what is said of a stop; want of memory says nothing
abbrev pub AgreesOnStop : Stop → (Outcome → Type 0) → Type 0
AgreesOnStop (stop'.At rest) P = P (fault unfit rest.now)
AgreesOnStop (stop'.TooDeep rest) P = P (fault deep rest.now)
AgreesOnStop stop'.Memory P = Unit {0}

-- what is said of an answer and of a stop
abbrev pub Agrees : {X : Type 0} → (X → Outcome) → Result X Stop → (Outcome → Type 0) → Type 0
Agrees view (Ok x) P = P (view x)
Agrees view (Err s) P = AgreesOnStop s P

-- one more tree in front of a list
abbrev pub behind : Tree → Outcome → Outcome
behind t (ok u rest) = ok (cons t u) rest
behind t (fault w rest) = fault w rest

-- the trees in front of a list
abbrev pub onto : List Tree → Tree → Tree
onto [] u = u
onto (t ∷ ts) u = cons t (onto ts u)

abbrev pub all_behind : List Tree → Outcome → Outcome
all_behind ts (ok u rest) = ok (onto ts u) rest
all_behind ts (fault w rest) = fault w rest

-- the first token is what is wanted, on this line
pub record Found (w : Want) (ts : List Token) (line : ℕ) (rest : List Token) : Type 0 where
  pub token : Token
  pub taking : Taken w ts token rest
  pub on_line : line ≡ token.line

-- at every budget the part ends at once with this tree
abbrev pub EndsAt : Part → List Token → Tree → Type 0
EndsAt p ts t = (d : ℕ) → Reads d (pick p ts) ts (ok t ts)

-- an operator of the level stands here
pub record OperatorAt (l : Level) (ts : List Token) (line : ℕ) (o : Operator) (rest : List Token) : Type 0 where
  pub token : Token
  pub taking : Taken (one (terminal'.Operator l)) ts token rest
  pub on_line : line ≡ token.line
  pub which : o ≡ operator_in l token.kind

-- what stands on the right of a comparison
abbrev pub right_of : Comparison → Part
right_of comparison'.Is = constants
right_of comparison'.IsNot = constants
right_of _ = chained level'.Sum

-- an operator of a comparison stands here, whatever tree stands on its left
abbrev pub ComparisonAt : List Token → ℕ → Comparison → List Token → Type 0
ComparisonAt ts line c rest = (d : ℕ) (t : Tree) (out : Outcome) →
    Reads d (reads (right_of c) (λ u. gives (compare line c t u))) rest out → Reads d (pick (compared t) ts) ts out

-- what `next_comparison` answers
abbrev pub Compares : List Token → Result (Option (ℕ × Comparison × Bor (List Token))) Stop → Type 0
Compares ts (Ok None) = (t : Tree) → EndsAt (compared t) ts t
Compares ts (Ok (Some p)) = ComparisonAt ts p.0 p.1 p.2.now
Compares ts (Err s) = AgreesOnStop s (λ o. (d : ℕ) (t : Tree) → Reads d (pick (compared t) ts) ts o)

-- the end of a list says whether a comma stands behind its last item
abbrev pub list_end : Bool → Tree
list_end true = absent
list_end false = nil

-- a name stands here
pub record NameAt (ts : List Token) (line : ℕ) (name : List ℕ) (rest : List Token) : Type 0 where
  pub token : Token
  pub taking : Taken (one terminal'.Name) ts token rest
  pub on_line : line ≡ token.line
  pub called : name ≡ name_in token.kind

-- an expression that may be left out
abbrev pub optional_box : Option (Box Expr Global) → Tree
optional_box None = absent
optional_box (Some e) = expr_tree e.value

-- a name before `=`, or what else stands there
abbrev pub BeforeAssign : Tree → List Token → Result (ℕ × List ℕ) Expr → Type 0
BeforeAssign t ts (Ok p) = (t ≡ name p.0 p.1) × (heads (one (terminal'.Mark mark'.Assign)) ts ≡ true)
BeforeAssign t ts (Err e) = (expr_tree e ≡ t) × (is_name t && heads (one (terminal'.Mark mark'.Assign)) ts ≡ false)

-- the parameters with defaults from this one on, behind others and behind its `=`
abbrev pub defaults_from : List (List ℕ) → List Tree → ℕ → List ℕ → Body
defaults_from seen found l n =
    reads expr (λ v. reads (defaults_rest (seen ++ n ∷ [])) (λ u. gives (onto found (cons (parameter l n v) u))))

-- an `if` or `elif` behind its word, without those behind it
abbrev pub branch_body : ℕ → Site → Body
branch_body l s = reads expr (λ c. takes (mark mark'.Colon) (λ _. deeper (block (below s)) (λ b. gives (branch l c b))))

-- no parameter has a name yet
abbrev pub no_params : Part
no_params = params []

-- a name that is none of these stands here
pub record FreshAt (seen : List (List ℕ)) (ts : List Token) (line : ℕ) (name : List ℕ) (rest : List Token)
    : Type 0 where
  pub token : Token
  pub taking : Taken (fresh seen) ts token rest
  pub on_line : line ≡ token.line
  pub called : name ≡ name_in token.kind

-- a number for each level, for the proof that reading ends
abbrev pub level_rank : Level → ℕ
level_rank level'.Or = 17
level_rank level'.And = 14
level_rank level'.Sum = 8
level_rank level'.Product = 5
