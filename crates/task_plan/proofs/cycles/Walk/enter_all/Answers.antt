use Rattle.std.proofs.Common.{arith, ◌≡◌}
use Rattle.task_plan.proofs.CycleLemmas.{to_enter_none, to_enter_more}
use Rattle.task_plan.proofs.cycles.Walk.enter_all.Goals as goal

pub loop-number-init : goal.loop-number-init
loop-number-init c = to_enter_none c.args.rules c.args.self.now c.requires

pub loop-number-preserved : goal.loop-number-preserved
loop-number-preserved c =
    to_enter_more c.args.rules c.loop-number.self c.put.new.self c.in-Some.rule c.put.ensures.rest c.in_ok-put.ensures.steps c.loop-number.number c.in-Some.ensures.is c.loop-number.invariant

pub returns : goal.returns
returns c =
    let all : c.loop-number.number ≡ c.args.rules = omega arith in
    rw all at c.loop-number.invariant
