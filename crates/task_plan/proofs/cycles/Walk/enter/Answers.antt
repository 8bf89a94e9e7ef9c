use Rattle.std.proofs.Common.{sym}
use Rattle.std.specs.Prelude.{map}
use Rattle.task_plan.specs.Settled.{kept_of}
use Rattle.task_plan.proofs.CycleLemmas.{walk_opens, walk_met, comes_back}
use Rattle.task_plan.proofs.cycles.Walk.enter.Goals as goal

pub returns-in_ok-enter_needs-in-New : goal.returns-in_ok-enter_needs-in-New
returns-in_ok-enter_needs-in-New c =
    let opens = c.in_ok-open-in-New.ensures {u = tt} in
    let needs = c.in_ok-enter_needs-in-New.ensures {u = tt} in
    walk_opens c.args.states.now (map kept_of c.args.tasks.now) c.args.files.now.origins.items c.args.self.now c.open.new.self c.enter_needs.new.self c.args.rule c.requires (sym c.in-New.ensures)
    opens.chain opens.steps opens.colours c.enter_needs.ensures.rest needs.enters needs.all

pub returns-in-Open : goal.returns-in-Open
returns-in-Open c =
    comes_back c.args.states.now (map kept_of c.args.tasks.now) c.args.files.now.origins.items c.args.self.now c.args.rule c.requires (sym c.in-Open.ensures)

pub returns-in-Closed : goal.returns-in-Closed
returns-in-Closed c =
    walk_met c.args.states.now (map kept_of c.args.tasks.now) c.args.files.now.origins.items c.args.self.now c.args.rule c.requires (sym c.in-Closed.ensures)
