use Rattle.std.proofs.Common.{◌≡◌, take}
use Rattle.scons_rules.specs.Sayings.{Spoken, Tells, said_of}
use Rattle.scons_rules.proofs.said.SaidOf.of_rule.Given as goal

abbrev pub invariant-loop-target : goal.invariant-loop-target
invariant-loop-target l = (spoken : Spoken) → Tells spoken l.self → l.of_rule ≡ said_of spoken (take l.target-index l.targets)
