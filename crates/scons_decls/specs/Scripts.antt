-- Scripts that read scripts, and variant directories.
use Rattle.std.specs.Prelude.{ℕ, ◌-◌, ◌==◌, nat_lt, length, take, slice_index_or, Bool, true, false, List, [], ◌∷◌, ◌++◌, Option, Some, None, Result, Ok, Err, codes, unwrap_or, if◌then◌else◌}
use Rattle.scons_base.specs.declared.limits.TheConstants.{SCRIPT_DEPTH_LIMIT}
use Rattle.scons_base.specs.Parts as parts
use Rattle.variant_dirs.specs.declared.variants.Variant.{Variant}
use Rattle.variant_dirs.specs.declared.fault.VariantFault.{VariantFault}
use Rattle.variant_dirs.specs.Variants.{variant_of, source_of, added, add_fault}
use Rattle.scons_decls.specs.declared.fault.NameFault.{NameFault}
use Rattle.scons_decls.specs.declared.fault.NameFault.TheVariants.{ScriptDepth}
use Rattle.scons_decls.specs.declared.given.Given.{Given}
use Rattle.scons_decls.specs.declared.scripts.ScriptPlace.{ScriptPlace}
use Rattle.scons_decls.specs.Faults.{of_variant, path_read}
use Rattle.scons_decls.specs.Steps.{and_then}
use Rattle.scons_decls.specs.State.{Declared, in_dir, with_variants}
use Rattle.scons_decls.specs.Paths.{file_of, dir_of}

abbrev pub copies : Option Variant → Bool
copies (Some v) = v.duplicate
copies None = false

-- whether a path lies in a variant directory with copies
abbrev pub is_copied : Declared → List ℕ → Bool
is_copied d path = copies (variant_of d.locals.variants path)

-- the files that may be the script of a path, the first that is there is read: in a variant directory with copies the source
-- before the copy, and else the path before its source
abbrev pub candidates : List ℕ → Option (List ℕ) → Bool → List (List ℕ)
candidates path None copied = path ∷ []
candidates path (Some source) copied = if copied then source ∷ path ∷ [] else path ∷ source ∷ []

-- where the script of a path stands
abbrev pub script_at : Declared → List ℕ → Result ScriptPlace NameFault
script_at d path =
    and_then (path_read (parts.dir_of path)) (λ dir.
    Ok (record { dir = dir; candidates = candidates path (source_of d.locals.variants d.locals.top path) (is_copied d path) }))

abbrev pub or_variant : Declared → Option VariantFault → Result Declared NameFault
or_variant d None = Ok d
or_variant d (Some fault) = Err (of_variant fault)

-- a directory becomes the variant directory of another one
abbrev pub variant_added : Declared → List ℕ → List ℕ → Bool → Result Declared NameFault
variant_added d dir source duplicate =
    or_variant (record d { locals = with_variants (added d.locals.variants dir source duplicate) d.locals })
    (add_fault d.locals.variants dir source duplicate)

-- the path of a script on the variant side, if a variant directory is given: the script's own directory becomes its source
abbrev pub entered : Declared → ℕ → List ℕ → Option Given → Bool → Result (List ℕ × Declared) NameFault
entered d env path None duplicate = Ok (path, d)
entered d env path (Some variant) duplicate =
    and_then (dir_of d env (codes "SConscript") variant) (λ dir.
    and_then (path_read (parts.dir_of path)) (λ source.
    and_then (variant_added d dir source duplicate) (λ e.
    Ok (unwrap_or (parts.moved_path path source dir) path, e))))

-- `SConscript(file, variant_dir, duplicate)`: where the script stands, and what is declared then
abbrev pub found_script : Declared → ℕ → Given → Option Given → Bool → Result (ScriptPlace × Declared) NameFault
found_script d env file variant duplicate =
    and_then (file_of d env (codes "SConscript") file) (λ path.
    and_then (entered d env path variant duplicate) (λ at.
    and_then (script_at at.1 at.0) (λ place. Ok (place, at.1))))

-- a script begins whose texts are read from a directory
abbrev pub begun : Declared → List ℕ → Result Declared NameFault
begun d dir =
    if nat_lt SCRIPT_DEPTH_LIMIT (length d.outer) then Err ScriptDepth
    else Ok (record d { locals = in_dir dir d.locals; outer = d.outer ++ d.locals.dir ∷ [] })

-- the script that runs has ended: the one around it goes on in its own directory
abbrev pub ended : Declared → Declared
ended d =
    if length d.outer == 0 then d
    else record d {
      locals = in_dir (slice_index_or d.outer (length d.outer - 1) []) d.locals;
      outer = take (length d.outer - 1) d.outer;
    }
