use Rattle.std.proofs.Common.{◌≡◌, take}
use Rattle.env_vars.specs.Vars.{put_all}
use Rattle.env_vars.proofs.vars.Vars.put_all.Given as goal

abbrev pub invariant-loop-place : goal.invariant-loop-place
invariant-loop-place l = l.self ≡ put_all l.initial.self (take l.place l.other)
