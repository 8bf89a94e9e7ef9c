use Rattle.std.proofs.Common.{◌≡◌, [], map, take}
use Rattle.env_vars.specs.declared.value.EnvValue.TheVariants as value
use Rattle.env_vars.specs.Vars.{put_all}
use Rattle.env_vars.proofs.initial.put_lists.Given as goal

abbrev pub invariant-loop-name : goal.invariant-loop-name
invariant-loop-name l = l.vars ≡ put_all l.initial.vars (take l.name-index (map (λ name. (name.now, value.List [])) l.names))
