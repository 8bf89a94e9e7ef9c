use Rattle.std.proofs.Common.{◌≡◌, ◌≤◌, length, drop}
use Rattle.scons_decls.specs.Patterns.{ends_split}
use Rattle.scons_decls.proofs.pattern.are_split.Given as goal

-- what stands behind the place, split among the last parts
abbrev pub invariant-places : goal.invariant-places
invariant-places l = record { within : l.place ≤ length l.name; split : l.reached.items ≡ ends_split l.parts (drop l.place l.name) }

abbrev pub decreases-places : goal.decreases-places
decreases-places l = l.place
