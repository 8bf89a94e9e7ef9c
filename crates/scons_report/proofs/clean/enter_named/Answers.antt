use Rattle.scons_report.proofs.CleanEnters.{entered_last}
use Rattle.scons_report.proofs.clean.enter_named.Goals as goal

pub returns : goal.returns
returns c =
    entered_last c.args.graph.now c.args.rule.now _ _ _ _ c.args.steps.now.items c.enter_all.new.steps.items c.enter_all-2.new.steps.items c.enter_all-3.new.steps.items
    c.enter_all-4.new.steps.items c.enter_all-4.result c.as_slice.ensures c.as_slice-2.ensures c.as_slice-3.ensures c.as_slice-4.ensures
    (c.in_ok-enter_all.ensures {u = tt}) (c.in_ok-enter_all-2.ensures {u = tt}) (c.in_ok-enter_all-3.ensures {u = tt}) c.enter_all-4.ensures
