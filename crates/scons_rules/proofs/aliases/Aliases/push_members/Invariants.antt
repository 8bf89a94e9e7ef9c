use Rattle.std.proofs.Common.{◌≡◌, ◌++◌, take, map}
use Rattle.std.specs.List.{flat_map}
use Rattle.scons_rules.specs.Aliased.{path_in}
use Rattle.scons_rules.proofs.aliases.Aliases.push_members.Given as goal

abbrev pub invariant-loop-member : goal.invariant-loop-member
invariant-loop-member l = l.paths ≡ l.initial.paths ++ flat_map path_in (map (λ m. m.now) (take l.member-index l.member-items))
