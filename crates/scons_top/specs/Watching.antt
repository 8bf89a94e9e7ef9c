-- What the steps of a run leave that only look.
use Rattle.world_api.specs.Causes.{Later}
use Rattle.world_api.specs.Looks.{Looks}
use Rattle.world_api.specs.Meaning.{Meaning}

-- the world was looked at, its banks among all else, and no count fell
pub record Watches {W : Type 0} (m : Meaning W) (old new : W) : Type 0 where
  pub looks : Looks m old new
  pub later : Later (m.counts old) (m.counts new)
