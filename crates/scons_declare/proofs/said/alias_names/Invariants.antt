use Rattle.std.proofs.Common.{◌≡◌, drop}
use Rattle.scons_decls.specs.Steps.{each}
use Rattle.scons_decls.specs.State.{declared_of}
use Rattle.scons_decls.proofs.Stepping.{behind}
use Rattle.scons_declare.specs.Sayings.{alias_name}
use Rattle.scons_declare.proofs.said.alias_names.Given as goal

abbrev pub invariant-loop-one : goal.invariant-loop-one
invariant-loop-one l = behind l.names (each (alias_name (declared_of l.state) l.env.0) (drop l.one-index l.given)) ≡ each (alias_name (declared_of l.state) l.env.0) l.given
