use Rattle.std.proofs.Common.{ap, ◌||◌}
use Rattle.world_mem.specs.Standing.{is_always}
use Rattle.world_mem.proofs.dirs.Dirs.make_places.Goals as goal

pub returns-clause-same : goal.returns-clause-same
returns-clause-same c = λ dir. ap (λ b. is_always dir || b) (c.make_places.ensures.live dir)
