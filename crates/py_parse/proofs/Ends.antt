-- Whether tokens are what is wanted, one after another.
use Rattle.std.proofs.Common.{◌≡◌, ℕ, ◌<◌, List, [], false, length, drop, ap, drop-cons}
use Rattle.py_token.specs.declared.token.Token.{Token}
use Rattle.py_parse.specs.declared.terminal.Terminal.{Terminal}
use Rattle.py_parse.specs.declared.terminal.Terminal.TheVariants as terminal'
use Rattle.py_parse.specs.Outside.{are}

-- no tokens are left where more are wanted
pub are_fewer : (ts : List Terminal) (i : ℕ) (xs : List Token) → i < length ts → xs ≡ [] → are (drop i ts) xs ≡ false
are_fewer ts i xs h e = rw e (ap (λ l. are l []) (drop-cons ts i terminal'.Any h))
