use Rattle.std.proofs.Common.{length, map}
use Rattle.scons_base.specs.declared.limits.TheConstants.{SYNTAX_DEPTH_LIMIT}
use Rattle.py_tree.specs.Tree.{line_tree}
use Rattle.py_parse.specs.Grammar as grammar
use Rattle.py_parse.proofs.Loops.{Continues}
use Rattle.py_parse.proofs.script.read_script.Given as goal

abbrev pub invariant-lines : goal.invariant-lines
invariant-lines l = Continues SYNTAX_DEPTH_LIMIT grammar.script l.tokens l.rest (map line_tree l.lines.items)

abbrev pub decreases-lines : goal.decreases-lines
decreases-lines l = length l.rest
