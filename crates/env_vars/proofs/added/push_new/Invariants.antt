use Rattle.std.proofs.Common.{◌≡◌, take}
use Rattle.std.specs.Prelude.{fold}
use Rattle.env_vars.specs.Added.{add_new}
use Rattle.env_vars.proofs.added.push_new.Given as goal

abbrev pub invariant-loop-item : goal.invariant-loop-item
invariant-loop-item l = l.items.items ≡ fold add_new l.initial.items.items (take l.item-index l.added)
