use Rattle.std.proofs.Common.{◌∙◌, ap, subst, List, ℕ, IsSome, ◌||◌}
use Rattle.world_mem.specs.InSlots.{slot_at, holds_live}
use Rattle.world_mem.specs.Standing.{is_always}
use Rattle.world_mem.proofs.Raised.{raised_dirs}
use Rattle.world_mem.proofs.dirs.Dirs.raise.Goals as goal

pub returns : goal.returns
returns c = λ dir.
    ap (λ slot. is_always dir || holds_live slot) (c.mark.ensures dir)
    ∙ raised_dirs c.args.fresh.now dir (slot_at c.args.self.now.slots dir) (λ k lt at. subst (λ (p : List ℕ). IsSome (slot_at c.args.self.now.slots p)) at (c.requires k dir lt))
