use Rattle.std.proofs.Common.{[]}
use Rattle.scons_rules.specs.AliasTable.{names_in}
use Rattle.scons_rules.proofs.Leaving.{steps_both}
use Rattle.scons_rules.proofs.aliases.steps_of.Goals as goal

pub returns : goal.returns
returns c =
    steps_both (names_in c.args.state.now.aliases) c.args.parts.now c.as_slice-2.result.now c.as_slice-3.result.now c.as_slice.result.now _ _ _ c.empty-steps.ensures
    (c.in_ok-push_steps.ensures {u = tt} [] c.new-none.ensures) (c.in_ok-push_steps-2.ensures {u = tt} c.as_slice.result.now (c.in_ok-ignored.ensures {u = tt}))
    c.as_slice-2.ensures c.as_slice-3.ensures c.as_slice.ensures
