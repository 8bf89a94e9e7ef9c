-- Paths in the way of one another: a path with others below it is a directory, and a directory can't be a file.
use Rattle.std.specs.Prelude.{◌≡◌, ◌++◌, ◌⊎◌, ℕ, List, ◌∷◌, IsSome, IsTrue, Contains, ◌<◌, length, take}
use Rattle.std.specs.List.{slice_index_or}
use Rattle.world_api.specs.Around.{Around, IsRunningTarget}
use Rattle.world_mem.specs.declared.refusal.NewRefusal.{NewRefusal}
use Rattle.world_mem.specs.declared.refusal.NewRefusal.TheVariants.{Place}

-- a path goes on behind another's text with a slash
abbrev pub LiesBelow : List ℕ → List ℕ → Type 0
LiesBelow path dir = (rest : List ℕ) × (path ≡ dir ++ 47 ∷ rest)

-- one of these paths lies above a path
abbrev pub HasAbove : (List ℕ → Type 0) → List ℕ → Type 0
HasAbove taken path = (other : List ℕ) × taken other × LiesBelow path other

-- one of these paths lies below a path, which is a directory
abbrev pub HasBelow : (List ℕ → Type 0) → List ℕ → Type 0
HasBelow taken path = (other : List ℕ) × taken other × LiesBelow other path

-- a path can't be a file where these are
abbrev pub IsBlocked : (List ℕ → Type 0) → List ℕ → Type 0
IsBlocked taken path = HasAbove taken path ⊎ HasBelow taken path

-- a file is at a path, or a target of a running job is to be
abbrev pub IsTaken : Around → List ℕ → Type 0
IsTaken around path = IsSome (around.tree path) ⊎ IsRunningTarget around.running path

-- a path can't be a file: a directory stands there, or a file or the target of a running job above it
abbrev pub IsBarred : Around → List ℕ → Type 0
IsBarred around path = IsTrue (around.dirs path) ⊎ HasAbove (IsTaken around) path

-- no caller may set the bytes of a path: a running job makes it, or it can't be a file
abbrev pub IsKept : Around → List ℕ → Type 0
IsKept around path = IsRunningTarget around.running path ⊎ IsBarred around path

-- a path can't be a directory: a file or the target of a running job stands there or above it
abbrev pub IsInTheWay : Around → List ℕ → Type 0
IsInTheWay around path = IsTaken around path ⊎ HasAbove (IsTaken around) path

-- a target of a job can't be a file, or lies below or above another target of the job
abbrev pub AreBlocked : Around → List (List ℕ) → Type 0
AreBlocked around targets = (target : List ℕ) × Contains targets target
    × (IsBarred around target ⊎ IsBlocked (Contains targets) target)

-- a list of files has one at a path
abbrev pub HasFile : List (List ℕ × List ℕ) → List ℕ → Type 0
HasFile files path = (bytes : List ℕ) × Contains files (path, bytes)

-- the file at a place of a list has the path of one listed before, or can't be a file where those are
abbrev pub IsRefused : List (List ℕ × List ℕ) → ℕ → Type 0
IsRefused files place = (file : List ℕ × List ℕ) × (place < length files) × (slice_index_or files place file ≡ file)
    × (HasFile (take place files) file.0 ⊎ IsBlocked (HasFile (take place files)) file.0)

-- the first of these
abbrev pub IsFirstRefused : List (List ℕ × List ℕ) → ℕ → Type 0
IsFirstRefused files place = IsRefused files place × ((earlier : ℕ) → earlier < place → IsRefused files earlier → ⊥)

-- a refusal that names a place names the first
abbrev pub NamesFirst : List (List ℕ × List ℕ) → NewRefusal → Type 0
NamesFirst files refusal = (place : ℕ) → refusal ≡ Place place → IsFirstRefused files place
