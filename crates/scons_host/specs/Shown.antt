-- What a look at the files tells of them. It tells it where the world tells, and while nothing runs.
use Rattle.std.specs.Prelude.{◌≡◌, ◌↔◌, ℕ, nat_lt, List, [], Option, Some, None, IsSome, Result, Ok, Err, Contains, length, if◌then◌else◌}
use Rattle.world_api.specs.declared.refusal.ReadRefusal.{ReadRefusal}
use Rattle.world_api.specs.declared.refusal.ReadRefusal.TheVariants as read'
use Rattle.world_api.specs.declared.world.Kind.{Kind}
use Rattle.world_api.specs.declared.world.Kind.TheVariants as kind
use Rattle.world_api.specs.Meaning.{Meaning}
use Rattle.scons_host.specs.declared.stop.Stop.{Stop}
use Rattle.scons_host.specs.declared.stop.Stop.TheVariants as stop
use Rattle.scons_host.specs.Files.{Files, Shows}

-- the world tells, nothing runs, and these are the files that stand around
pub record Stands {W : Type 0} (m : Meaning W) (old new : W) (f : Files) : Type 0 where
  pub tells : m.tells new
  pub quiet : (m.around old).running ≡ []
  pub shows : Shows (m.around old) f

-- what is so of all files that may stand around
abbrev pub Shown : {W : Type 0} → Meaning W → W → W → (Files → Type 0) → Type 0
Shown m old new P = (f : Files) → Stands m old new f → P f

-- the same paths, in whatever order
abbrev pub SamePaths : List (List ℕ) → List (List ℕ) → Type 0
SamePaths some others = (path : List ℕ) → Contains some path ↔ Contains others path

-- what is found at a path whose file holds this
abbrev pub IsKindOf : Option (List ℕ) → Kind → Type 0
IsKindOf content kind.File = IsSome content
IsKindOf content kind.Dir = content ≡ None
IsKindOf content kind.Absent = content ≡ None

-- what a read of a file gives: one of more than so many bytes isn't read
abbrev pub read_within : ℕ → Option (List ℕ) → Result (Option (List ℕ)) ReadRefusal
read_within limit None = Ok None
read_within limit (Some bytes) = if nat_lt limit (length bytes) then Err (read'.TooLarge (length bytes)) else Ok (Some bytes)

-- what is read, or that the file is too large; of the outside and of want of memory nothing is said
abbrev pub IsRead : ℕ → Option (List ℕ) → Result (Option (List ℕ)) ReadRefusal → Type 0
IsRead limit content (Ok read) = read_within limit content ≡ Ok read
IsRead limit content (Err (read'.TooLarge size)) = read_within limit content ≡ Err (read'.TooLarge size)
IsRead limit content (Err read'.Fault) = Unit {0}
IsRead limit content (Err read'.Memory) = Unit {0}

-- a stop of a script: none of the file tree or the sink, and no want of memory
abbrev pub IsTold : Stop → Type 0
IsTold (stop.Here kind) = Unit {0}
IsTold (stop.There path line kind) = Unit {0}
IsTold (stop.TooLarge path size) = Unit {0}
IsTold (stop.TooMany what count) = Unit {0}
IsTold (stop.Tree path) = ⊥
IsTold stop.Out = ⊥
IsTold stop.Memory = ⊥
