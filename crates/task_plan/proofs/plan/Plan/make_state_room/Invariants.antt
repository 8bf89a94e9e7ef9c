use Rattle.std.proofs.Common.{◌≡◌, ◌-◌, length}
use Rattle.task_plan.specs.Plans.{Meets}
use Rattle.task_plan.specs.Admits.{Widens}
use Rattle.task_plan.specs.Watching.{WidensWatch}
use Rattle.task_plan.proofs.plan.Plan.make_state_room.Given as goal

abbrev pub invariant-loop-self : goal.invariant-loop-self
invariant-loop-self l = record { meets : Meets l.initial.self l.self; widens : Widens l.initial.self l.self; watch : WidensWatch l.initial.self l.self; roots : l.self.notes.roots ≡ l.initial.self.notes.roots; rules : l.self.rules ≡ l.initial.self.rules }

abbrev pub decreases-loop-self : goal.decreases-loop-self
decreases-loop-self l = length l.self.rules - length l.self.states
