use Rattle.std.proofs.Common.{◌≡◌, drop}
use Rattle.scons_decls.specs.Steps.{each}
use Rattle.scons_decls.proofs.Stepping.{behind}
use Rattle.scons_decls.specs.Environs.{var_given}
use Rattle.scons_decls.proofs.environments.Environments.given_all.Given as goal

abbrev pub invariant-loop-name : goal.invariant-loop-name
invariant-loop-name l = behind l.names.items (each (var_given l.self l.env.0) (drop l.name-index l.values)) ≡ each (var_given l.self l.env.0) l.values
