use Rattle.std.proofs.Common.{◌∙◌, sym, ap}
use Rattle.world_mem.proofs.Written.{settled-push}
use Rattle.world_mem.specs.InSlots.{slot_at, settled}
use Rattle.world_mem.proofs.slots.Slots.settle.Goals as goal

pub loop-path-preserved : goal.loop-path-preserved
loop-path-preserved c = λ path.
    ap (settled c.args.stamp c.pop.new.self.items path) (c.settle_one.ensures path)
    ∙ sym (settled-push c.args.stamp c.pop.new.self.items (c.in-Some.path, c.in-Some.content) path (slot_at c.loop-path.self path))
    ∙ ap (λ made. settled c.args.stamp made path (slot_at c.loop-path.self path)) (sym c.in-Some.ensures.items)
    ∙ c.loop-path.invariant path
