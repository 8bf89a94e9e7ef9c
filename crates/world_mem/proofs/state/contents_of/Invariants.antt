use Rattle.std.proofs.Common.{◌≡◌, take, Some, map}
use Rattle.world_mem.proofs.state.contents_of.Given as goal

abbrev pub invariant-loop-path : goal.invariant-loop-path
invariant-loop-path l = l.group ≡ map (λ file. (file.0, Some file.1)) (take l.path-index l.files)
