use Rattle.job_runner.specs.Lists.{lists_of}
use Rattle.job_runner.proofs.Own.{own_by_put}
use Rattle.job_runner.proofs.desk.Desk.put_end.Goals as goal

pub invariant_of-self : goal.invariant_of-self
invariant_of-self g c = record {
  own = own_by_put g.R.Runner.answer g.R.Runner.gave _ c.args.ending c.put_end.result (lists_of c.args.self.now.board) (lists_of c.put_end.new.self) c.put_end.ensures.ok c.put_end.ensures.err c.requires.gives c.args.self.now.own;
}
