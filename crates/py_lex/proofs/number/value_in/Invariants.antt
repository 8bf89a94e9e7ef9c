use Rattle.py_lex.proofs.Digits.{IsRead}
use Rattle.py_lex.proofs.number.value_in.Given as goal

abbrev pub invariant-loop-byte : goal.invariant-loop-byte
invariant-loop-byte l = IsRead l.base l.digits l.byte-index l.value
