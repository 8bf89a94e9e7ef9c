use Rattle.std.proofs.Common.{◌≡◌, ◌++◌, take}
use Rattle.env_subst.proofs.library.push_all.Given as goal

abbrev pub invariant-loop-path : goal.invariant-loop-path
invariant-loop-path l = l.found ≡ l.initial.found ++ take l.path-index l.more
