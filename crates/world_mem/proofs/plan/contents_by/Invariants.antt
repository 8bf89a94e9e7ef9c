use Rattle.std.proofs.Common.{◌≡◌, take, map}
use Rattle.world_mem.specs.Planned.{gives}
use Rattle.world_mem.proofs.plan.contents_by.Given as goal

abbrev pub invariant-loop-target : goal.invariant-loop-target
invariant-loop-target l = l.made ≡ map (λ target. (target, gives l.recipe target)) (take l.target-index l.target-items)
