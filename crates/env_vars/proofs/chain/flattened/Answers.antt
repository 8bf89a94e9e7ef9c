use Rattle.std.proofs.Common.{arith}
use Rattle.scons_base.specs.declared.ids.EnvId.{EnvId}
use Rattle.env_vars.proofs.ChainLemmas.{flattened_more}
use Rattle.env_vars.proofs.chain.flattened.Goals as goal

pub loop-left-preserved : goal.loop-left-preserved
loop-left-preserved c =
    let d : EnvId = record { 0 = 0 } in (
      omega arith,
      flattened_more c.args.envs.now c.args.ids.now c.loop-left.left d c.loop-left.vars c.put_own.new.vars c.loop-left-test.true c.loop-left.invariant.0 c.loop-left.invariant.1 (c.in_ok-put_own.ensures {u = tt}),
    )
