use Rattle.std.proofs.Common.{◌∙◌}
use Rattle.scons_report.proofs.CleanEnters.{entered_none, entered_one}
use Rattle.scons_report.proofs.clean.enter_one.Goals as goal

pub returns-in_ok-push : goal.returns-in_ok-push
returns-in_ok-push c = (c.in_ok-push.ensures {u = tt}).items ∙ entered_one c.args.graph.now c.args.node c.in-Some.rule c.args.steps.now.items c.in-Some.ensures.of

pub returns-in_default : goal.returns-in_default
returns-in_default c = entered_none c.args.graph.now c.args.node c.args.steps.now.items c.in_default.ensures.of
