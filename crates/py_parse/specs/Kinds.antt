-- Why the first token that no continuation allows is refused.
use Rattle.std.specs.Prelude.{◌≡◌, ℕ, List, [], ◌∷◌, ◌++◌, Option, Some, None}
use Rattle.py_token.specs.declared.keyword.Keyword.TheVariants as keyword'
use Rattle.py_token.specs.declared.token.Token.{Token}
use Rattle.py_token.specs.declared.token.TokenKind.TheVariants as kind'
use Rattle.py_tree.specs.Tree.{Tree}
use Rattle.py_parse.specs.declared.fault.ParseKind.{ParseKind}
use Rattle.py_parse.specs.declared.fault.ParseKind.TheVariants.{OutOfSubset, TooDeep, Unexpected}
use Rattle.py_parse.specs.declared.fault.Unsupported.{Unsupported}
use Rattle.py_parse.specs.Parses.{ParsesWithin, BeginsScript}
use Rattle.py_parse.specs.Outside.{unsupported_at, unsupported_behind}

-- With more levels of nesting, however many, the tokens up to this one would be the front of a script.
abbrev pub IsTooDeep : List Token → List Token → Type 0
IsTooDeep front [] = ⊥
IsTooDeep front (x ∷ rest) =
    (limit : ℕ) × (more : List Token) × (t : Tree) × ParsesWithin limit ((front ++ x ∷ []) ++ more) t

abbrev pub or_token : Token
or_token = record { line = 0; kind = kind'.Word keyword'.Or }

-- An expression ends here: the keyword `or` may stand next, as it may behind each expression and nowhere else.
abbrev pub EndsExpression : List Token → Type 0
EndsExpression front = BeginsScript (front ++ or_token ∷ [])

abbrev pub kind_of : Option Unsupported → ParseKind
kind_of None = Unexpected
kind_of (Some u) = OutOfSubset u

-- Why the first of the tokens `rest` is refused behind those of `front`.
pub data IsKind (front rest : List Token) : ParseKind → Type 0 where
  too_deep : IsTooDeep front rest → IsKind front rest TooDeep
  -- what is refused behind an expression alone, there and elsewhere
  behind_expression : (u : Unsupported) → (IsTooDeep front rest → ⊥) → unsupported_behind rest ≡ Some u →
      EndsExpression front → IsKind front rest (OutOfSubset u)
  behind_none : (u : Unsupported) → (IsTooDeep front rest → ⊥) → unsupported_behind rest ≡ Some u →
      (EndsExpression front → ⊥) → IsKind front rest Unexpected
  -- every other token
  another : (kind : ParseKind) → (IsTooDeep front rest → ⊥) → unsupported_behind rest ≡ None →
      kind ≡ kind_of (unsupported_at front rest) → IsKind front rest kind
