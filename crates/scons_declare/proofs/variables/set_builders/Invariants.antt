use Rattle.std.proofs.Common.{◌≡◌, drop}
use Rattle.scons_decls.specs.State.{declared_of}
use Rattle.scons_decls.specs.Steps.{in_turn}
use Rattle.scons_declare.specs.Changes.{builder_set}
use Rattle.scons_declare.proofs.variables.set_builders.Given as goal

abbrev pub invariant-loop-name : goal.invariant-loop-name
invariant-loop-name l = in_turn (builder_set l.env.0) (drop l.name-index l.builders) (declared_of l.state) ≡ in_turn (builder_set l.env.0) l.builders (declared_of l.initial.state)
