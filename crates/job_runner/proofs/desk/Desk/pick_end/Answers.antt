use Rattle.std.proofs.Common.{Some}
use Rattle.job_runner.specs.Lists.{lists_of}
use Rattle.job_runner.proofs.Found.{picked_out}
use Rattle.job_runner.proofs.Own.{own_by_pick, picked_own}
use Rattle.job_runner.proofs.desk.Desk.pick_end.Goals as goal

pub invariant_of-self : goal.invariant_of-self
invariant_of-self g c = record {
  own = own_by_pick g.R.Runner.answer g.R.Runner.gave c.pick_end.result (lists_of c.args.self.now.board) (lists_of c.pick_end.new.self) c.pick_end.ensures.none c.pick_end.ensures.some c.args.self.now.own;
}

pub returns-clause-some : goal.returns-clause-some
returns-clause-some g c = picked_out _ _ _ _ _ c.args.out.now.slips.items c.remove.new.self.slips.items c.in_ok-place.ensures.own c.in_ok-ending.ensures.some c.remove.ensures

pub returns-clause-own : goal.returns-clause-own
returns-clause-own g c = picked_own g.R.Runner.answer g.R.Runner.gave (Some _) (lists_of c.args.self.now.board) (lists_of c.pick_end.new.self) c.in_ok-ending.ensures.some c.args.self.now.own
