use Rattle.std.proofs.Common.{◌≡◌}
use Rattle.scons_rules.specs.Actions.{actions_by}
use Rattle.scons_rules.specs.ActionsLeft.{texts_in, left_of, comes}
use Rattle.scons_rules.specs.Expanding.{expanding}
use Rattle.scons_rules.proofs.actions.actions_of.Given as goal

abbrev pub invariant-actions : goal.invariant-actions
invariant-actions l = comes (expanding l.rule) l.actions (left_of l.actions) ≡ actions_by (expanding l.rule) (texts_in l.fn.texts.items)
