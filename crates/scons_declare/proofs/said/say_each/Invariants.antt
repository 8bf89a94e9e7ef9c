use Rattle.std.proofs.Common.{◌≡◌, drop}
use Rattle.scons_decls.specs.State.{declared_of}
use Rattle.scons_decls.specs.Steps.{in_turn}
use Rattle.scons_declare.specs.Sayings.{says_of, saids}
use Rattle.scons_declare.proofs.said.say_each.Given as goal

abbrev pub invariant-loop-target : goal.invariant-loop-target
invariant-loop-target l = in_turn (says_of l.env.0 l.saying l.nodes) (drop l.target-index l.targets) (saids l.answer l.files (declared_of l.state))
    ≡ in_turn (says_of l.env.0 l.saying l.nodes) l.targets (saids l.initial.answer l.initial.files (declared_of l.initial.state))
