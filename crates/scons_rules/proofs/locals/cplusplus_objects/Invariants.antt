use Rattle.std.proofs.Common.{◌≡◌, map, take}
use Rattle.scons_decls.specs.State.{rule_of}
use Rattle.scons_rules.specs.Knowing.{cplusplus_objects}
use Rattle.scons_rules.proofs.locals.cplusplus_objects.Given as goal

abbrev pub invariant-loop-rule : goal.invariant-loop-rule
invariant-loop-rule l = l.objects.keys ≡ cplusplus_objects (map rule_of (take l.rule-index l.rules))
