-- Which files paths stand for, and where those of variant directories come from (SCons User Guide, Separating Source and Build
-- Trees: Variant Directories).
use Rattle.std.specs.Prelude.{ℕ, Bool, false, not, ◌&&◌, ◌||◌, List, Option, Some, None, unwrap_or, if◌then◌else◌}
use Rattle.variant_dirs.specs.declared.variants.Variant.{Variant}
use Rattle.variant_dirs.specs.Variants.{variant_of, source_of}
use Rattle.env_subst.specs.declared.locals.Named.{Named}
use Rattle.scons_decls.specs.State.{Declared}
use Rattle.scons_decls.specs.Targets as targets

-- a variant directory into which sources are copied, and one in which they are read where they are
abbrev pub is_copied : Option Variant → Bool
is_copied (Some v) = v.duplicate
is_copied None = false

abbrev pub is_uncopied : Option Variant → Bool
is_uncopied (Some v) = not v.duplicate
is_uncopied None = false

-- a path that is a target, or a directory that has targets below it
abbrev pub is_made : Declared → List ℕ → Bool
is_made d path = targets.is_made d.made path || targets.has_below d.made path

-- the source of a path in a variant directory; elsewhere the path itself
abbrev pub source_or_path : Declared → List ℕ → List ℕ
source_or_path d path = unwrap_or (source_of d.locals.variants d.locals.top path) path

-- the file that a path stands for: in a variant directory without copies its source, unless the path is made there
abbrev pub settled : Declared → List ℕ → List ℕ
settled d path =
    if is_uncopied (variant_of d.locals.variants path) && not (is_made d path) then source_or_path d path else path

-- a node of a line, with its source
abbrev pub named : Declared → List ℕ → Named
named d path = record { path = path; src = source_or_path d path }
