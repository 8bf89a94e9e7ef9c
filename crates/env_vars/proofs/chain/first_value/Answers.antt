use Rattle.std.proofs.Common.{sym}
use Rattle.scons_base.specs.declared.ids.EnvId.{EnvId}
use Rattle.env_vars.proofs.ChainLemmas.{first_found, first_passed}
use Rattle.env_vars.proofs.chain.first_value.Goals as goal

pub returns-in-Some : goal.returns-in-Some
returns-in-Some c =
    let d : EnvId = record { 0 = 0 } in
    let own = rw c.in-Some.is at c.own_value.ensures in
    first_found c.args.envs.now c.args.ids.now c.loop-id.id-index d c.args.name.now c.in-Some.value.now c.loop-id-test.true (sym own) c.loop-id.invariant

pub loop-id-preserved : goal.loop-id-preserved
loop-id-preserved c =
    let d : EnvId = record { 0 = 0 } in
    let own = rw c.in_default.is at c.own_value.ensures in
    first_passed c.args.envs.now c.args.ids.now c.loop-id.id-index d c.args.name.now c.loop-id-test.true (sym own) c.loop-id.invariant
