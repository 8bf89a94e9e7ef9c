-- What calls between the steps of a build may change.
use Rattle.std.specs.Prelude.{◌≡◌, List, Contains}
use Rattle.world_api.specs.Around.{Around, IsRunningTarget}
use Rattle.world_api.specs.Calls.{Asks, MakesDir, Removes}
use Rattle.build_model.specs.Rules.{Path}

-- Of files only targets of running jobs and these paths change.
pub record Clears (paths : List Path) (old new : Around) : Type 0 where
  pub files : (path : Path) → (IsRunningTarget old.running path → ⊥) → (Contains paths path → ⊥) →
      new.tree path ≡ old.tree path
  pub stamps : (path : Path) → (IsRunningTarget old.running path → ⊥) → (Contains paths path → ⊥) →
      new.stamps path ≡ old.stamps path
  pub running : new.running ≡ old.running
  pub log : new.log ≡ old.log
  pub met : new.met ≡ old.met
  pub law : new.law ≡ old.law

-- A call that looks, makes a directory, or removes one of these paths changes no more than that, and neither do two.
pub record AreClears (paths : List Path) : Type 0 where
  pub looks : (old new : Around) → Asks old new → Clears paths old new
  pub makes_dir : (dir : Path) (old new : Around) → MakesDir dir old new → Clears paths old new
  pub removes : (path : Path) (old new : Around) → Contains paths path → Removes path old new → Clears paths old new
  pub joined : (old mid new : Around) → Clears paths old mid → Clears paths mid new → Clears paths old new

abbrev pub CallsAreClears : Type 0
CallsAreClears = (paths : List Path) → AreClears paths
