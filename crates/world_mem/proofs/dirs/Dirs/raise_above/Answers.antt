use Rattle.std.proofs.Common.{◌∙◌, ◌||◌, ap}
use Rattle.world_mem.specs.Blocked.{LiesBelow}
use Rattle.world_mem.specs.Standing.{is_dir, is_in}
use Rattle.world_mem.proofs.Fresh.{from_nothing}
use Rattle.world_mem.proofs.Raised.{raised_by}
use Rattle.world_mem.proofs.dirs.Dirs.raise_above.Goals as goal

pub returns : goal.returns
returns c =
    let old = c.args.self.now in
    let fresh = c.missing_above.new.fresh in
    raised_by (LiesBelow c.args.path.now) fresh (is_dir old) (is_dir c.raise.new.self)
    (λ dir. c.raise.ensures dir ∙ ap (λ b. is_in fresh dir || b) (c.make_places.ensures.same dir))
    (λ dir. from_nothing c.new-fresh.result fresh dir _ (c.new-fresh.ensures ∙ c.new.ensures.items) (c.in_ok-missing_above.ensures dir))
