use Rattle.std.proofs.Common.{◌≡◌, map, drop}
use Rattle.env_vars.specs.Envs.{first_value}
use Rattle.env_vars.proofs.chain.first_value.Given as goal

-- none of the environments passed has a value
abbrev pub invariant-loop-id : goal.invariant-loop-id
invariant-loop-id l = first_value l.envs (drop l.id-index (map (λ id. id.0) l.ids)) l.name ≡ first_value l.envs (map (λ id. id.0) l.ids) l.name
