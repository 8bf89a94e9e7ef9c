-- What a caller changes by hand, while nothing is asked of the world: an edit of a file, and its removal.
use Rattle.std.specs.Prelude.{◌≡◌, ◌≢◌, ◌++◌, ◌∷◌, [], ◌⊎◌, ◌↔◌, ℕ, List, Some, None, IsTrue}
use Rattle.world_api.specs.Around.{Around}
use Rattle.world_mem.specs.Blocked.{LiesBelow}

-- each other file is as it was
abbrev pub FilesStay : List ℕ → Around → Around → Type 0
FilesStay path old new = (other : List ℕ) → other ≢ path → new.tree other ≡ old.tree other

-- and so is its stamp
abbrev pub StampsStay : List ℕ → Around → Around → Type 0
StampsStay path old new = (other : List ℕ) → other ≢ path → new.stamps other ≡ old.stamps other

-- a file holds these bytes, which have been met from then on, and the directories above it stand
pub record Edits (path bytes : List ℕ) (old new : Around) : Type 0 where
  pub file : new.tree path ≡ Some bytes
  pub files : (other : List ℕ) → other ≢ path → new.tree other ≡ old.tree other
  pub stamps : (other : List ℕ) → other ≢ path → new.stamps other ≡ old.stamps other
  pub dirs : (dir : List ℕ) → IsTrue (new.dirs dir) ↔ (IsTrue (old.dirs dir) ⊎ LiesBelow path dir)
  pub met : new.met ≡ old.met ++ bytes ∷ []
  pub running : new.running ≡ old.running
  pub log : new.log ≡ old.log
  pub law : new.law ≡ old.law
  pub top : new.top ≡ old.top

-- no file is there any more, and all else is as it was
pub record Loses (path : List ℕ) (old new : Around) : Type 0 where
  pub gone : new.tree path ≡ None
  pub files : (other : List ℕ) → other ≢ path → new.tree other ≡ old.tree other
  pub stamps : (other : List ℕ) → other ≢ path → new.stamps other ≡ old.stamps other
  pub dirs : (dir : List ℕ) → new.dirs dir ≡ old.dirs dir
  pub met : new.met ≡ old.met
  pub running : new.running ≡ old.running
  pub log : new.log ≡ old.log
  pub law : new.law ≡ old.law
  pub top : new.top ≡ old.top
