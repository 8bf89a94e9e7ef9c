use Rattle.std.proofs.Common.{◌≡◌, drop}
use Rattle.scons_rules.specs.Actions.{item_text}
use Rattle.scons_rules.specs.ActionsLeft.{texts_in}
use Rattle.scons_rules.specs.Steps.{each}
use Rattle.scons_rules.proofs.Stepping.{behind}
use Rattle.scons_rules.proofs.actions.item_texts.Given as goal

abbrev pub invariant-loop-item : goal.invariant-loop-item
invariant-loop-item l = behind (texts_in l.texts.items) (each (item_text l.name) (drop l.item-index l.items)) ≡ each (item_text l.name) l.items
