-- Tokens and their tree, or their fault.
use Rattle.std.specs.Prelude.{◌≡◌, ◌-◌, ℕ, min, List, [], ◌∷◌, length, slice_get, Option, Some, None, Result, Ok, Err}
use Rattle.py_token.specs.declared.token.Token.{Token}
use Rattle.py_tree.specs.Tree.{Tree, script_tree}
use Rattle.py_tree.specs.declared.line.Script.{Script}
use Rattle.py_parse.specs.declared.fault.ParseFault.{ParseFault}
use Rattle.py_parse.specs.declared.fault.ParseFault.TheVariants.{At, Memory}
use Rattle.py_parse.specs.declared.fault.ParseKind.{ParseKind}
use Rattle.py_parse.specs.Parses.{Parses, IsFirstFault}
use Rattle.py_parse.specs.Kinds.{IsKind}

abbrev pub line_in : Option Token → ℕ
line_in (Some x) = x.line
line_in None = 1

-- The line of a fault: that of the token, at the end that of the last one, and 1 where there is none.
abbrev pub line_of : List Token → List Token → ℕ
line_of front [] = line_in (slice_get front (length front - 1))
line_of front (x ∷ rest) = x.line

-- The number of the token that stands behind these. No number is larger than the largest of its type.
abbrev pub number_of : List Token → ℕ
number_of front = min (length front) 4294967295

-- The token with this number, on this line, is the first that no continuation allows, and this is why.
pub record FaultAt (tokens : List Token) (line token : ℕ) (kind : ParseKind) : Type 0 where
  pub place : ℕ
  pub first : IsFirstFault tokens place
  pub on_line : line ≡ line_of first.front first.rest
  pub number : token ≡ number_of first.front
  pub why : IsKind first.front first.rest kind

abbrev pub FaultsAt : List Token → ParseFault → Type 0
FaultsAt tokens (At line token kind) = FaultAt tokens line token kind
FaultsAt tokens Memory = Unit {0}

-- the script's tree is one that the tokens spell
abbrev pub IsTree : List Token → Script → Type 0
IsTree tokens script = Parses tokens (script_tree script)

abbrev IsMemory : ParseFault → Type 0
IsMemory (At line token kind) = ⊥
IsMemory Memory = Unit {0}

-- this tree is given, unless memory ran out
abbrev pub Gives : Result Script ParseFault → Tree → Type 0
Gives (Ok script) t = script_tree script ≡ t
Gives (Err fault) t = IsMemory fault

abbrev IsFault : ParseFault → ℕ → ℕ → ParseKind → Type 0
IsFault (At l n k) line token kind = (l ≡ line) × (n ≡ token) × (k ≡ kind)
IsFault Memory line token kind = Unit {0}

-- this line, this number and this kind are told, unless memory ran out
abbrev pub Tells : Result Script ParseFault → ℕ → ℕ → ParseKind → Type 0
Tells (Ok script) line token kind = ⊥
Tells (Err fault) line token kind = IsFault fault line token kind
