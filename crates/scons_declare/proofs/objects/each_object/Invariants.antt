use Rattle.std.proofs.Common.{◌≡◌, drop}
use Rattle.scons_decls.specs.State.{declared_of}
use Rattle.scons_declare.proofs.Finding.{found_behind}
use Rattle.scons_declare.specs.Linking.{found_in_turn, given_object}
use Rattle.scons_declare.proofs.objects.each_object.Given as goal

abbrev pub invariant-loop-source : goal.invariant-loop-source
invariant-loop-source l = found_behind l.targets (found_in_turn (given_object l.site l.object) (drop l.source-index l.sources) (declared_of l.state)) ≡ found_in_turn (given_object l.site l.object) l.sources (declared_of l.initial.state)
