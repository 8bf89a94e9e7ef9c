use Rattle.std.proofs.Common.{◌≡◌, ◌++◌}
use Rattle.sign_store.specs.Compacts.{entries_up_to}
use Rattle.sign_store.specs.Orders.{IsOrdered}
use Rattle.sign_store.proofs.compact.push_all.Given as goal

abbrev pub invariant-loop-number : goal.invariant-loop-number
invariant-loop-number l = IsOrdered l.map → l.form.items ≡ l.initial.form.items ++ entries_up_to l.map l.number
