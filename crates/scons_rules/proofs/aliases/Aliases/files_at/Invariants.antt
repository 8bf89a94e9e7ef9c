use Rattle.std.proofs.Common.{◌≡◌, map, take}
use Rattle.std.specs.List.{flat_map}
use Rattle.scons_decls.specs.State.{declared_of}
use Rattle.scons_rules.specs.Aliased.{file_in}
use Rattle.scons_rules.proofs.aliases.Aliases.files_at.Given as goal

abbrev pub invariant-loop-member : goal.invariant-loop-member
invariant-loop-member l = l.files ≡ flat_map (file_in (declared_of l.state)) (map (λ m. m.now) (take l.member-index l.member-items))
