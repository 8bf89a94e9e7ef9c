use Rattle.std.proofs.Common.{◌-◌, [], length, drop}
use Rattle.scons_decls.proofs.Matching.{Ends}
use Rattle.scons_decls.proofs.pattern.push_first.Given as goal

abbrev pub invariant-places : goal.invariant-places
invariant-places l = Ends (drop (length l.parts - l.place) l.parts) [] l.reached.items l.behind
