use Rattle.std.proofs.Common.{◌≡◌, take, []}
use Rattle.env_vars.specs.Envs.{set_all}
use Rattle.env_vars.proofs.chain.set_all.Given as goal

abbrev pub invariant-loop-name : goal.invariant-loop-name
invariant-loop-name l = l.vars ≡ set_all [] (take l.name-index l.names)
