use Rattle.std.proofs.Common.{◌≡◌, ◌∙◌, ap, sym, subst, List}
use Rattle.world_api.specs.Act.{Given}
use Rattle.world_api.specs.Around.{Around, IsRunningTarget}
use Rattle.world_mem.specs.AsAround.{around_of}
use Rattle.world_mem.specs.CallCounts.{next}
use Rattle.world_mem.specs.Left.{Leaves, left_over, makings}
use Rattle.world_mem.specs.Past.{Machine}
use Rattle.act_table.specs.declared.table.ActRow.{ActRow}
use Rattle.world_mem.proofs.world.MemWorld.stop.Goals as goal

pub returns-in-Ok-clause-left : goal.returns-in-Ok-clause-left
returns-in-Ok-clause-left c =
    let mid = c.left_by.new.self.state in
    let new = around_of c.go_on.new.self.state in
    let same : around_of mid ≡ around_of c.args.self.state = ap (λ (m : Machine). m.course.around) c.left_by.ensures.stays.machine in
    subst (λ (old : Around). Leaves (left_over c.args.pick (makings c.args.self.state.table old.running)) old new) same
    (subst (λ (rows : List ActRow). Leaves (left_over c.args.pick (makings rows (around_of mid).running)) (around_of mid) new) c.left_by.ensures.table
    (subst (λ (left : Given). Leaves left (around_of mid) new) c.in-Ok.ensures.targets c.go_on.ensures.left))

pub returns-in-Ok-clause-stamps : goal.returns-in-Ok-clause-stamps
returns-in-Ok-clause-stamps c =
    let mid = c.left_by.new.self.state in
    let new = c.go_on.new.self.state in
    let same : around_of mid ≡ around_of c.args.self.state = ap (λ (m : Machine). m.course.around) c.left_by.ensures.stays.machine in
    record {
      counted = c.go_on.ensures.stamps.counted ∙ ap next c.left_by.ensures.stays.stamp;
      stamped = λ path target. c.go_on.ensures.stamps.stamped path (subst (λ (around : Around). IsRunningTarget around.running path) (sym same) target);
    }

pub returns-in-Ok-clause-idle : goal.returns-in-Ok-clause-idle
returns-in-Ok-clause-idle c = c.go_on.ensures.left.running
