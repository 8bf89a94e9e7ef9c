use Rattle.std.proofs.Common.{◌≡◌, ◌++◌, take}
use Rattle.std.specs.Prelude.{fold}
use Rattle.env_vars.specs.Added.{as_items, add_new}
use Rattle.env_vars.proofs.grown.new_items.Given as goal

abbrev pub invariant-loop-item : goal.invariant-loop-item
invariant-loop-item l = l.old ++ l.new.items ≡ fold add_new l.old (take l.item-index l.added)
