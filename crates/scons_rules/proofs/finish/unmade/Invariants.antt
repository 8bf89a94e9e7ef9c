use Rattle.std.proofs.Common.{◌≡◌, drop}
use Rattle.scons_decls.specs.State.{declared_of}
use Rattle.scons_rules.specs.Finishing.{unmade}
use Rattle.scons_rules.proofs.finish.unmade.Given as goal

abbrev pub invariant-loop-target : goal.invariant-loop-target
invariant-loop-target l = unmade (declared_of l.state) l.targets ≡ unmade (declared_of l.state) (drop l.target-index l.targets)
