use Rattle.std.proofs.Common.{◌≡◌, take}
use Rattle.py_host.specs.Names.{with_names}
use Rattle.py_host.proofs.scope.Scope.set_all.Given as goal

abbrev pub invariant-places : goal.invariant-places
invariant-places l = l.self ≡ with_names l.initial.self (take l.place l.more)
