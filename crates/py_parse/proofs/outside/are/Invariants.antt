use Rattle.std.proofs.Common.{◌≡◌, drop}
use Rattle.py_parse.specs.Outside as outside
use Rattle.py_parse.proofs.outside.are.Given as goal

abbrev pub invariant-loop-terminal : goal.invariant-loop-terminal
invariant-loop-terminal l = outside.are l.wanted l.tokens ≡ outside.are (drop l.terminal-index l.wanted) l.rest
