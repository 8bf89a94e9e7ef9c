use Rattle.std.proofs.Common.{length}
use Rattle.py_lex.proofs.PartSpelling.{LeadsPart}
use Rattle.py_lex.proofs.part.next_part.Given as goal

abbrev pub invariant-part : goal.invariant-part
invariant-part l = LeadsPart l.style l.bytes l.value.items l.lines l.rest

abbrev pub decreases-part : goal.decreases-part
decreases-part l = length l.rest
