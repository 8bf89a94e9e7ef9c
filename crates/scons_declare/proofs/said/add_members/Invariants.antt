use Rattle.std.proofs.Common.{◌≡◌, drop}
use Rattle.scons_decls.specs.State.{declared_of}
use Rattle.scons_declare.specs.Sayings.{with_members}
use Rattle.scons_declare.proofs.said.add_members.Given as goal

abbrev pub invariant-loop-name : goal.invariant-loop-name
invariant-loop-name l = with_members l.members (drop l.name-index l.names) (declared_of l.state) ≡ with_members l.members l.names (declared_of l.initial.state)
