use Rattle.std.proofs.Common.{◌+◌, ◌*◌, length}
use Rattle.py_lex.specs.Steps.{start}
use Rattle.py_lex.specs.Sizes.{rank_of}
use Rattle.py_lex.specs.Views.{state_of}
use Rattle.py_lex.proofs.Reading.{LeadsTo}
use Rattle.py_lex.proofs.lexer.lex_script.Given as goal

abbrev pub invariant-script : goal.invariant-script
invariant-script l = LeadsTo (start l.script) (state_of l.reader)

abbrev pub decreases-script : goal.decreases-script
decreases-script l = 2 * length l.reader.rest.now + rank_of l.reader.place
