use Rattle.std.proofs.Common.{◌-◌, arith}
use Rattle.std.proofs.lemmas.Grind.{common_steps}
use Rattle.model_trials.specs.Plain.{included}
use Rattle.model_trials.proofs.Walks.{goes_on, none_waits, no_room, ends}
use Rattle.model_trials.proofs.reach.breadth_first.Goals as goal
use Rattle.model_trials.proofs.reach.breadth_first.Goals.{else-loop-taken-test, then-loop-taken-test+then-is_empty}

pub loop-taken-preserved : goal.loop-taken-preserved
loop-taken-preserved c =
    goes_on (included c.args.scans.now) c.args.room c.loop-taken._taken c.loop-taken.seen.items c.loop-taken.waiting.items
    c.loop-taken.found.items c.take_first.new.seen.items c.take_first.new.waiting.items c.take_first.new.found.items _
    c.loop-taken-test.true c.in_ok-take_first.ensures c.loop-taken.invariant

pub returns : goal.returns
returns c =
    let room = c.args.room - c.loop-taken._taken in
    elim c.loop-taken-test.branch [
      | else-loop-taken-test w ↦ ends
          (no_room (included c.args.scans.now) room c.loop-taken.seen.items c.loop-taken.waiting.items (omega arith))
          c.loop-taken.invariant
      | then-loop-taken-test+then-is_empty w ↦ ends
          (none_waits (included c.args.scans.now) room c.loop-taken.seen.items c.loop-taken.waiting.items (grind (arith, common_steps)))
          c.loop-taken.invariant
    ]
