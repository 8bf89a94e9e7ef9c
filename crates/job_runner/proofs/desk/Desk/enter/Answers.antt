use Rattle.std.specs.Arc.{arc_value}
use Rattle.job_runner.specs.Lists.{lists_of}
use Rattle.job_runner.proofs.Own.{own_by_hand_in}
use Rattle.job_runner.proofs.desk.Desk.enter.Goals as goal

pub invariant_of-self : goal.invariant_of-self
invariant_of-self g c = record {
  own = own_by_hand_in g.R.Runner.answer g.R.Runner.gave (arc_value c.args.slip) c.hand_in.result (lists_of c.args.self.now.board) (lists_of c.hand_in.new.self) c.hand_in.ensures.ok c.hand_in.ensures.err c.args.self.now.own;
}
