use Rattle.std.proofs.Common.{◌≡◌, ◌++◌}
use Rattle.py_lex.specs.Steps.{dedents}
use Rattle.py_lex.proofs.reader.push_dedents.Given as goal

abbrev pub invariant-loop-i : goal.invariant-loop-i
invariant-loop-i l = l.tokens.items ≡ l.fn.tokens.items ++ dedents l.line l.i
