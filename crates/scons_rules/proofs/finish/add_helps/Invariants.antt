use Rattle.std.proofs.Common.{◌≡◌, ◌++◌, take}
use Rattle.scons_rules.proofs.finish.add_helps.Given as goal

abbrev pub invariant-loop-help : goal.invariant-loop-help
invariant-loop-help l = l.graph ≡ record l.initial.graph { helps = l.initial.graph.helps ++ take l.help-index l.helps }
