use Rattle.std.proofs.Common.{arith, ◌∙◌, true, ap, length, length-set}
use Rattle.task_plan.proofs.HeldLemmas.{none_seen, blank_next, blank}
use Rattle.task_plan.proofs.held.Held.new.Goals as goal

pub loop-fault-init : goal.loop-fault-init
loop-fault-init c =
    let none = none_seen c.in_ok-seen.seen.items c.args.rules ((c.in_ok-seen.ensures {u = tt}).items_if_clones_equal (λ y h. cc)) in
    record { size = none.0; same = none.1 }

pub loop-fault-preserved : goal.loop-fault-preserved
loop-fault-preserved c =
    let i = c.loop-fault.invariant in
    record {
      size = ap length c.mark.ensures.seen ∙ length-set _ _ true ∙ i.size;
      same = blank_next c.args.faulty.now c.loop-fault.fault-index _ c.loop-fault.seen.items c.mark.new.seen.items c.args.rules (omega arith) i.same c.mark.ensures.seen;
    }

pub returns : goal.returns
returns c = blank c.args.rules c.args.faulty.now c.loop-fault.fault-index _ c.loop-fault.invariant.size c.loop-fault.invariant.same (omega arith) c.new.ensures.items
