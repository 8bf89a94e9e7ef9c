use Rattle.std.proofs.Common.{◌≡◌, ◌++◌, take}
use Rattle.std.specs.Prelude.{filter, not}
use Rattle.sign_store.specs.Orders.{is_held}
use Rattle.sign_store.proofs.compact.push_lost.Given as goal

abbrev pub invariant-loop-path : goal.invariant-loop-path
invariant-loop-path l = l.lost.items ≡ l.initial.lost.items ++ filter (λ path. not (is_held l.map l.number path)) (take l.path-index l.paths)
