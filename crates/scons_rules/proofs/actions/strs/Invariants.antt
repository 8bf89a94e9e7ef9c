use Rattle.std.proofs.Common.{◌≡◌, take}
use Rattle.scons_rules.specs.ActionsLeft.{texts_in}
use Rattle.scons_rules.proofs.actions.strs.Given as goal

abbrev pub invariant-loop-text : goal.invariant-loop-text
invariant-loop-text l = texts_in l.strs.items ≡ take l.text-index l.texts
