use Rattle.std.proofs.Common.{◌≡◌, drop}
use Rattle.scons_decls.specs.State.{declared_of}
use Rattle.scons_decls.specs.Steps.{in_turn}
use Rattle.scons_declare.specs.Copies.{installed_one}
use Rattle.scons_declare.proofs.install.install_all.Given as goal

abbrev pub invariant-loop-source : goal.invariant-loop-source
invariant-loop-source l = in_turn (installed_one l.site l.dir) (drop l.source-index l.sources) (l.targets, declared_of l.state) ≡ in_turn (installed_one l.site l.dir) l.sources (l.initial.targets, declared_of l.initial.state)
