-- What calls may write.
use Rattle.std.specs.Prelude.{◌≡◌, ◌⊎◌, List, Contains}
use Rattle.world_api.specs.Around.{Around, IsRunningTarget}
use Rattle.build_model.specs.Rules.{Path}

-- Only targets of running jobs, and these paths, change, and whatever runs more runs for these.
pub record Writes (paths : List Path) (old new : Around) : Type 0 where
  pub files : (path : Path) → (IsRunningTarget old.running path → ⊥) → (Contains paths path → ⊥) →
      new.tree path ≡ old.tree path
  pub stamps : (path : Path) → (IsRunningTarget old.running path → ⊥) → (Contains paths path → ⊥) →
      new.stamps path ≡ old.stamps path
  pub running : (path : Path) → IsRunningTarget new.running path → IsRunningTarget old.running path ⊎ Contains paths path
