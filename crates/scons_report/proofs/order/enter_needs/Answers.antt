use Rattle.scons_report.proofs.CleanEnters.{entered_two}
use Rattle.scons_report.proofs.order.enter_needs.Goals as goal

pub returns : goal.returns
returns c =
    entered_two c.args.graph.now _ _ _ _ c.args.steps.now.items c.enter_all.new.steps.items c.enter_all-2.new.steps.items c.enter_all-2.result
    c.required.ensures c.deps.ensures (c.in_ok-enter_all.ensures {u = tt}) c.enter_all-2.ensures
