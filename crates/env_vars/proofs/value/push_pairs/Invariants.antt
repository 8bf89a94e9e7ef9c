use Rattle.std.proofs.Common.{◌≡◌, ◌++◌, take}
use Rattle.env_vars.proofs.value.push_pairs.Given as goal

abbrev pub invariant-loop-name : goal.invariant-loop-name
invariant-loop-name l = l.pairs.items ≡ l.initial.pairs.items ++ take l.name-index l.more
