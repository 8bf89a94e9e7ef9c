use Rattle.std.proofs.Common.{flat_map, take}
use Rattle.trial_text.specs.Telling.{Tells}
use Rattle.trial_text.proofs.told.Told.put_all.Given as goal

abbrev pub invariant-loop-text : goal.invariant-loop-text
invariant-loop-text l = Tells l.initial.self l.self (flat_map (λ text. text.now) (take l.text-index l.texts))
