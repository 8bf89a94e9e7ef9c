use Rattle.std.specs.Arc.{arc_value}
use Rattle.job_runner.specs.Lists.{lists_of}
use Rattle.job_runner.proofs.Own.{own_by_take}
use Rattle.job_runner.proofs.desk.Desk.take.Goals as goal

pub invariant_of-self : goal.invariant_of-self
invariant_of-self g c = record {
  own = own_by_take g.R.Runner.answer g.R.Runner.gave (λ taken. taken.0) (λ taken. arc_value taken.1) c.take.result (lists_of c.args.self.now.board) (lists_of c.take.new.self) c.take.ensures.none c.take.ensures.some c.args.self.now.own;
}
