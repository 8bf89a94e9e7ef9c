-- A token that may stand only under a condition.
use Rattle.std.specs.Prelude.{◌≡◌, Bool, true, List}
use Rattle.py_token.specs.declared.token.Token.{Token}
use Rattle.py_parse.specs.Terminals.{Want}
use Rattle.py_parse.specs.Agrees.{Taken}

-- such a token may stand here, and does
pub record Permitted (allowed : Bool) (w : Want) (ts : List Token) (x : Token) (rest : List Token) : Type 0 where
  pub may : allowed ≡ true
  pub taking : Taken w ts x rest
