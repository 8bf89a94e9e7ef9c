use Rattle.std.proofs.Common.{arith, ◌≤◌, length}
use Rattle.task_plan.specs.Noted.{waiters_of}
use Rattle.task_plan.proofs.PlanLemmas.{stays_trans}
use Rattle.task_plan.proofs.LeaveLemmas.{leaves_trans}
use Rattle.task_plan.proofs.SettleLemmas.{releasing_next, releasing_past, releasing_end}
use Rattle.task_plan.proofs.plan.Plan.release.Goals as goal
use Rattle.task_plan.proofs.plan.Plan.release.Goals.{in-Some, in_default}

pub loop-place-preserved : goal.loop-place-preserved
loop-place-preserved c =
    let a = c.args.self.now in
    let b = c.loop-place.self in
    let i = c.loop-place.invariant in
    elim c.match-waiter.branch [
      | in-Some w ↦ rw w.self-is (record {
        stays = stays_trans a b w.has_need_less.new.self i.stays w.has_need_less.ensures.stays;
        leaves = leaves_trans a b w.has_need_less.new.self i.leaves w.has_need_less.ensures.leaves;
        releasing = releasing_next a b w.has_need_less.new.self c.args.node c.loop-place.place w.in-Some.rule w.in-Some.ensures i.releasing w.has_need_less.ensures.tells;
      })
      | in_default w ↦ rw w.self-is (record { stays = i.stays; leaves = i.leaves; releasing = releasing_past a b c.args.node c.loop-place.place w.in_default.ensures i.releasing })
    ]

pub returns-clause-releases : goal.returns-clause-releases
returns-clause-releases c =
    let le : length (waiters_of c.args.self.now.notes.waiters c.args.node.0) ≤ c.loop-place.place = omega arith in
    releasing_end c.args.self.now c.loop-place.self c.args.node c.loop-place.place le c.loop-place.invariant.releasing
