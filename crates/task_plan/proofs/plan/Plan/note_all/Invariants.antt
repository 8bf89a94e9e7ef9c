use Rattle.task_plan.specs.Plans.{Stays}
use Rattle.task_plan.proofs.LookLemmas.{Offering}
use Rattle.task_plan.proofs.plan.Plan.note_all.Given as goal

abbrev pub invariant-loop-place : goal.invariant-loop-place
invariant-loop-place l = record { stays : Stays l.initial.self l.self; offering : Offering l.initial.self l.self l.place }
