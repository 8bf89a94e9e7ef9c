use Rattle.task_plan.specs.declared.want.PlanEvent.TheVariants as told
use Rattle.scons_report.proofs.Going.{settles_on, step_on}
use Rattle.scons_report.proofs.over.settle.Goals as goal

pub returns : goal.returns
returns c = record {
  over = λ next b requested t inputs around is.
      let e = c.step.ensures in
      let g = c.args.graph.now in
      let rule = c.args.rule in
      settles_on b requested t g inputs c.args.plan.now around is rule next c.step.new.self c.step.result
      (step_on g c.args.plan.now (told.Fresh rule) c.step.new.self c.step.result e.states e.knows e.fits e.follow e.origins e.needs e.only e.sought e.roots
      e.complete e.order)
      e.halted;
}
