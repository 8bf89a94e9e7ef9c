use Rattle.std.proofs.Common.{◌≡◌, drop}
use Rattle.scons_decls.specs.State.{declared_of}
use Rattle.scons_declare.specs.Copies.{with_copies}
use Rattle.scons_declare.proofs.install.copy_each.Given as goal

abbrev pub invariant-loop-place : goal.invariant-loop-place
invariant-loop-place l = with_copies l.site (drop l.place l.targets) (drop l.place l.sources) (declared_of l.state) ≡ with_copies l.site l.targets l.sources (declared_of l.initial.state)
