use Rattle.std.proofs.Common.{length, map}
use Rattle.py_tree.specs.Tree.{parameter_tree}
use Rattle.py_parse.specs.Reading.{Outcome, Reads}
use Rattle.py_parse.specs.Agrees.{defaults_from}
use Rattle.py_parse.proofs.parameters.parse_defaults.Given as goal

abbrev pub invariant-defaults : goal.invariant-defaults
invariant-defaults l =
    (o : Outcome) → Reads l.depth (defaults_from l.seen (map parameter_tree l.found.items) l.line l.name) l.rest o →
    Reads l.depth (defaults_from l.initial.seen (map parameter_tree l.initial.found.items) l.initial.line l.initial.name) l.tokens o

abbrev pub decreases-defaults : goal.decreases-defaults
decreases-defaults l = length l.rest
