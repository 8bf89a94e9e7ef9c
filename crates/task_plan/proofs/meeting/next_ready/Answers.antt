use Rattle.task_plan.proofs.StandLemmas.{unready_more, past_end}
use Rattle.task_plan.proofs.meeting.next_ready.Goals as goal

pub loop-place-preserved : goal.loop-place-preserved
loop-place-preserved c =
    unready_more c.args.states.now c.args.files.now.origins.items c.args.reach.now c.args.start c.loop-place.place c.loop-place.invariant (c.can_scan.ensures.not c.if-can_scan.false)

pub returns-clause-ready : goal.returns-clause-ready
returns-clause-ready c = λ n e. absurd (past_end c.args.reach.now.files.keys c.len.result n c.len.ensures.len e)
