use Rattle.std.proofs.Common.{◌≡◌, ◌-◌, ◌^◌, min, length}
use Rattle.sign_store.specs.Compacts.{entries_up_to}
use Rattle.sign_store.proofs.compact_len.all_len.Given as goal

abbrev pub invariant-loop-number : goal.invariant-loop-number
invariant-loop-number l = l.len ≡ min (length (entries_up_to l.map l.number)) (2 ^ 64 - 1)
