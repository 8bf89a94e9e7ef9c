use Rattle.std.proofs.Common.{◌≡◌, take}
use Rattle.scons_decls.proofs.numbers.Numbers.put_all.Given as goal

abbrev pub invariant-places : goal.invariant-places
invariant-places l = l.self ≡ take l.place l.other
