use Rattle.std.proofs.Common.{◌≡◌, drop}
use Rattle.scons_decls.specs.Steps.{each}
use Rattle.scons_decls.specs.State.{declared_of}
use Rattle.scons_decls.proofs.Stepping.{behind}
use Rattle.scons_declare.specs.Sayings.{member_of}
use Rattle.scons_declare.proofs.said.members_of.Given as goal

abbrev pub invariant-loop-one : goal.invariant-loop-one
invariant-loop-one l = behind l.members (each (member_of (declared_of l.state) l.env.0 l.name l.dirs) (drop l.one-index l.given)) ≡ each (member_of (declared_of l.state) l.env.0 l.name l.dirs) l.given
