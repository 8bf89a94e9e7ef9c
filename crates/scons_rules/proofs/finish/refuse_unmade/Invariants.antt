use Rattle.std.proofs.Common.{◌≡◌, drop}
use Rattle.scons_decls.specs.State.{declared_of}
use Rattle.scons_rules.specs.Finishing.{has_rules, have_rules}
use Rattle.scons_rules.specs.Steps.{all_of}
use Rattle.scons_rules.proofs.finish.refuse_unmade.Given as goal

abbrev pub invariant-loop-said : goal.invariant-loop-said
invariant-loop-said l = have_rules (declared_of l.state) ≡ all_of (has_rules (declared_of l.state)) (drop l.said-index l.state.said.items)
