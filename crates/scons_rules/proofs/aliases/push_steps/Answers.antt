use Rattle.std.proofs.Common.{arith, ◌∙◌, sym}
use Rattle.scons_rules.specs.AliasTable.{names_in}
use Rattle.scons_rules.specs.Aliased.{step_of}
use Rattle.scons_rules.proofs.Leaving.{step_pushed, step_passed}
use Rattle.scons_rules.proofs.aliases.push_steps.Goals as goal
use Rattle.scons_rules.proofs.aliases.push_steps.Goals.{in-Some+in_ok-push, in_default}

pub loop-node-preserved : goal.loop-node-preserved
loop-node-preserved c =
    elim c.match-branch-2.branch [
      | in-Some+in_ok-push w ↦ rw w.steps-is (λ left leaves.
          step_pushed (step_of (names_in c.args.state.now.aliases) left) c.args.nodes.now c.loop-node.node-index c.node-item.result w.in-Some.step c.args.steps.now c.loop-node.steps w.push.new.self
          (omega arith) c.node-item.is (c.loop-node.invariant left leaves) (sym (c.in_ok-step.ensures {u = tt} left leaves) ∙ w.in-Some.is) (w.in_ok-push.ensures {u = tt}).ok)
      | in_default w ↦ rw w.steps-is (λ left leaves.
          step_passed (step_of (names_in c.args.state.now.aliases) left) c.args.nodes.now c.loop-node.node-index c.node-item.result c.args.steps.now c.loop-node.steps
          (omega arith) c.node-item.is (c.loop-node.invariant left leaves) (sym (c.in_ok-step.ensures {u = tt} left leaves) ∙ w.in_default.is))
    ]
