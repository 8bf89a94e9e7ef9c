use Rattle.std.proofs.Common.{◌≡◌, drop}
use Rattle.scons_decls.specs.State.{declared_of}
use Rattle.scons_declare.proofs.Finding.{found_behind}
use Rattle.scons_declare.specs.Linking.{found_in_turn, linked_source}
use Rattle.scons_declare.proofs.objects.linked_sources.Given as goal

abbrev pub invariant-loop-source : goal.invariant-loop-source
invariant-loop-source l = found_behind l.paths (found_in_turn (linked_source l.site l.linking l.name) (drop l.source-index l.sources) (declared_of l.state)) ≡ found_in_turn (linked_source l.site l.linking l.name) l.sources (declared_of l.initial.state)
