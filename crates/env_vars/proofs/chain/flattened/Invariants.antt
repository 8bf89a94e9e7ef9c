use Rattle.std.proofs.Common.{◌≡◌, ◌≤◌, map, drop, length}
use Rattle.env_vars.specs.Envs.{flattened}
use Rattle.env_vars.proofs.chain.flattened.Given as goal

abbrev pub invariant-loop-left : goal.invariant-loop-left
invariant-loop-left l = (l.left ≤ length l.ids) × (l.vars ≡ flattened l.envs (drop l.left (map (λ id. id.0) l.ids)))

abbrev pub decreases-loop-left : goal.decreases-loop-left
decreases-loop-left l = l.left
