-- Scripts and their tokens, or their first fault.
use Rattle.std.specs.Prelude.{◌≡◌, ℕ, Bool, true, false, nat_eq, nat_lt, List, [], ◌∷◌, ◌++◌, length, take, drop, Result, Ok, Err, if◌then◌else◌}
use Rattle.std.specs.List.{starts_with}
use Rattle.std.specs.Str.{is_utf8}
use Rattle.std.specs.Str.Lossy.{utf8_valid_len}
use Rattle.scons_base.specs.declared.limits.TheConstants.{SCRIPT_LIMIT}
use Rattle.py_token.specs.declared.token.Token.{Token}
use Rattle.py_token.specs.declared.token.Tokens.{Tokens}
use Rattle.py_lex.specs.declared.bytes.TheConstants.{NO_TEXT}
use Rattle.py_lex.specs.declared.fault.LexFault.{LexFault}
use Rattle.py_lex.specs.declared.fault.LexFault.TheVariants.{At, Memory}
use Rattle.py_lex.specs.declared.fault.LexKind.{LexKind}
use Rattle.py_lex.specs.declared.fault.LexKind.TheVariants as kinds
use Rattle.py_lex.specs.Steps.{State, goes, ends, stops, Steps, start}

-- the tokens of a script, or the line and the kind of its first fault
pub data Outcome : Type 0 where
  lexed : List Token → Outcome
  faulty : ℕ → LexKind → Outcome

-- step after step to the end or to the first place where no rule fits
pub data Reads : State → Outcome → Type 0 where
  goes_on : {s : State} {o : Outcome} (t : State) → Steps s (goes t) → Reads t o → Reads s o
  ends_with : {s : State} (tokens : List Token) → Steps s (ends tokens) → Reads s (lexed tokens)
  stops_at : {s : State} (line : ℕ) (kind : LexKind) → Steps s (stops line kind) → Reads s (faulty line kind)

-- a script in UTF-8; or what is UTF-8 in front of its first byte that isn't, and there a byte that stands in no UTF-8, so
-- that this fault has its place among the others
abbrev pub marked : List ℕ → List ℕ
marked bytes = if is_utf8 bytes then bytes else take (utf8_valid_len bytes) bytes ++ NO_TEXT ∷ []

-- a byte order mark in front is no part of the script
abbrev pub without_order_mark : List ℕ → List ℕ
without_order_mark bytes = if starts_with nat_eq bytes (239 ∷ 187 ∷ 191 ∷ []) then drop 3 bytes else bytes

abbrev pub ReadIf : Bool → List ℕ → Outcome → Type 0
ReadIf true bytes o = o ≡ faulty 1 kinds.TooLong
ReadIf false bytes o = Reads (start (marked (without_order_mark bytes))) o

-- what comes of a script
abbrev pub IsRead : List ℕ → Outcome → Type 0
IsRead bytes o = ReadIf (nat_lt SCRIPT_LIMIT (length bytes)) bytes o

-- the script has these tokens
abbrev pub Lexes : List ℕ → List Token → Type 0
Lexes bytes tokens = IsRead bytes (lexed tokens)

-- the first place of the script where no rule fits is on this line, and this is why
abbrev pub FaultAt : List ℕ → ℕ → LexKind → Type 0
FaultAt bytes line kind = IsRead bytes (faulty line kind)

abbrev pub FaultsAt : List ℕ → LexFault → Type 0
FaultsAt bytes (At line kind) = FaultAt bytes line kind
FaultsAt bytes Memory = Unit {0}

abbrev IsMemory : LexFault → Type 0
IsMemory (At line kind) = ⊥
IsMemory Memory = Unit {0}

-- these tokens are given, unless memory ran out
abbrev pub Gives : Result Tokens LexFault → List Token → Type 0
Gives (Ok given) tokens = given ≡ tokens
Gives (Err fault) tokens = IsMemory fault

abbrev IsFault : LexFault → ℕ → LexKind → Type 0
IsFault (At at why) line kind = (at ≡ line) × (why ≡ kind)
IsFault Memory line kind = Unit {0}

-- this line and this kind are told, unless memory ran out
abbrev pub Tells : Result Tokens LexFault → ℕ → LexKind → Type 0
Tells (Ok given) line kind = ⊥
Tells (Err fault) line kind = IsFault fault line kind

abbrev AgreesOn : LexFault → (Outcome → Type 0) → Type 0
AgreesOn (At line kind) P = P (faulty line kind)
AgreesOn Memory P = Unit {0}

-- the answer as an outcome
abbrev pub Agrees : Result Tokens LexFault → (Outcome → Type 0) → Type 0
Agrees (Ok tokens) P = P (lexed tokens)
Agrees (Err fault) P = AgreesOn fault P
