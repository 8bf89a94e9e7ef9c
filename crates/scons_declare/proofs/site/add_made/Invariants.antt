use Rattle.std.proofs.Common.{◌≡◌, drop}
use Rattle.scons_decls.specs.State.{declared_of}
use Rattle.scons_declare.specs.Sites.{with_made}
use Rattle.scons_declare.proofs.site.add_made.Given as goal

abbrev pub invariant-loop-target : goal.invariant-loop-target
invariant-loop-target l = with_made (drop l.target-index l.targets) (declared_of l.state) ≡ with_made l.targets (declared_of l.initial.state)
