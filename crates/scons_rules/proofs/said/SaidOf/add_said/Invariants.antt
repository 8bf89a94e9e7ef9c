use Rattle.std.proofs.Common.{◌≡◌, fold, take}
use Rattle.std.specs.Prelude.{slice_get}
use Rattle.std.specs.List.{filter_map}
use Rattle.scons_rules.specs.Sayings.{with_sentence}
use Rattle.scons_rules.proofs.said.SaidOf.add_said.Given as goal

abbrev pub invariant-loop-number : goal.invariant-loop-number
invariant-loop-number l = l.of_rule ≡ fold with_sentence l.initial.of_rule (filter_map (slice_get l.self.sentences.items) (take l.number-index l.number-items))
