use Rattle.std.proofs.Common.{◌≡◌, drop}
use Rattle.scons_decls.specs.State.{declared_of}
use Rattle.scons_decls.specs.Steps.{in_turn}
use Rattle.scons_declare.specs.Copies.{installed_in}
use Rattle.scons_declare.proofs.install.install_each.Given as goal

abbrev pub invariant-loop-dir : goal.invariant-loop-dir
invariant-loop-dir l = in_turn (installed_in l.site l.sources) (drop l.dir-index l.dirs) (l.targets, declared_of l.state) ≡ in_turn (installed_in l.site l.sources) l.dirs (l.initial.targets, declared_of l.initial.state)
