use Rattle.std.proofs.Common.{◌≡◌, ◌++◌, drop}
use Rattle.scons_decls.specs.Patterns.{items_of, begun}
use Rattle.scons_decls.proofs.pattern.parts_of.Given as goal

abbrev pub invariant-loop-place : goal.invariant-loop-place
invariant-loop-place l = l.parts ++ items_of begun l.passed (drop l.place l.chars) ≡ items_of begun 0 l.chars
