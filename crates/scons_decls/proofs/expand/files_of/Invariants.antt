use Rattle.std.proofs.Common.{◌≡◌, drop}
use Rattle.scons_decls.specs.Steps.{each}
use Rattle.scons_decls.proofs.Stepping.{behind}
use Rattle.scons_decls.specs.State.{declared_of}
use Rattle.scons_decls.specs.Paths.{file_of}
use Rattle.scons_decls.proofs.expand.files_of.Given as goal

abbrev pub invariant-loop-one : goal.invariant-loop-one
invariant-loop-one l = behind l.paths (each (file_of (declared_of l.state) l.env.0 l.name) (drop l.one-index l.given)) ≡ each (file_of (declared_of l.state) l.env.0 l.name) l.given
