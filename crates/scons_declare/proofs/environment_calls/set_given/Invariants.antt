use Rattle.std.proofs.Common.{◌≡◌, drop}
use Rattle.scons_decls.specs.State.{declared_of}
use Rattle.scons_decls.specs.Steps.{in_turn}
use Rattle.scons_declare.specs.Changes.{one_given}
use Rattle.scons_declare.proofs.environment_calls.set_given.Given as goal

abbrev pub invariant-loop-name : goal.invariant-loop-name
invariant-loop-name l = in_turn (one_given l.env.0 l.clone.0) (drop l.name-index l.values) (declared_of l.state) ≡ in_turn (one_given l.env.0 l.clone.0) l.values (declared_of l.initial.state)
