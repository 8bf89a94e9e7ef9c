use Rattle.std.proofs.Common.{length}
use Rattle.py_lex.proofs.Spelling.{Leads}
use Rattle.py_lex.proofs.text.spell.Given as goal

abbrev pub invariant-text : goal.invariant-text
invariant-text l = Leads l.style l.bytes l.value.items l.lines l.rest

abbrev pub decreases-text : goal.decreases-text
decreases-text l = length l.rest
