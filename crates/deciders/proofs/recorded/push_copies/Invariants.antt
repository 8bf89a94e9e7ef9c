use Rattle.std.proofs.Common.{◌≡◌, ◌++◌, take}
use Rattle.deciders.proofs.recorded.push_copies.Given as goal

abbrev pub invariant-loop-dep : goal.invariant-loop-dep
invariant-loop-dep l = l.copies.items ≡ l.initial.copies.items ++ take l.dep-index l.deps
