-- Files that are written: `Textfile` and `Substfile`.
use Rattle.std.specs.Prelude.{ℕ, List, [], ◌∷◌, Option, Some, None, Result, Ok, Err, codes, if◌then◌else◌}
use Rattle.std.specs.Str.{bytes_eq}
use Rattle.scons_base.specs.Parts.{suffix_of}
use Rattle.scons_decls.specs.declared.fault.NameFault.{NameFault}
use Rattle.scons_decls.specs.declared.fault.NameFault.TheVariants.{BadArgument, BadSuffix}
use Rattle.scons_decls.specs.declared.given.Given.{Given}
use Rattle.scons_decls.specs.declared.rule.Recipe.TheVariants as recipe
use Rattle.scons_decls.specs.Faults.{path_read}
use Rattle.scons_decls.specs.Steps.{and_then}
use Rattle.scons_decls.specs.State.{Declared}
use Rattle.scons_decls.specs.Paths.{file_of, files_of}
use Rattle.scons_declare.specs.Calls.{Outcome}
use Rattle.scons_declare.specs.declared.site.Site.{Site}
use Rattle.scons_declare.specs.Sites.{declares}
use Rattle.scons_declare.specs.Affixes.{affixes, named, without}

abbrev pub Pairs : Type 0
Pairs = List (List ℕ × List ℕ)

-- the target of a Textfile gets `.txt` where it has no suffix
unfoldable pub text_target : Declared → Site → Given → Result (List ℕ) NameFault
text_target d site target = and_then (affixes d site.env.0 [] (codes ".txt")) (λ a. named d site.env.0 (codes "Textfile") a target)

-- `Textfile(target, source, SUBST_DICT)`: a file of these texts. It has one target
abbrev pub textfile : Declared → Site → List Given → List (List ℕ) → Pairs → Outcome
textfile d site (target ∷ []) texts pairs =
    and_then (text_target d site target) (λ made. declares d site (recipe.Textfile texts pairs) (made ∷ []) [])
textfile d site targets texts pairs = Err (BadArgument (codes "Textfile"))

-- the path of a source without its `.in`
unfoldable pub bare : List ℕ → Result (List ℕ) NameFault
bare source = path_read (without (codes ".in") source)

-- the target by a source, which has to end in `.in`
unfoldable pub by_source : List ℕ → Result (List (List ℕ)) NameFault
by_source source =
    if bytes_eq (suffix_of source) (codes ".in") then and_then (bare source) (λ target. Ok (target ∷ [])) else Err (BadSuffix source)

-- the one target of a Substfile: where none is named, its one source without `.in`
abbrev pub substituted : Declared → Site → Option (List Given) → List (List ℕ) → Result (List (List ℕ)) NameFault
substituted d site (Some (target ∷ [])) sources =
    and_then (file_of d site.env.0 (codes "Substfile") target) (λ made. Ok (made ∷ []))
substituted d site None (source ∷ []) = by_source source
substituted d site targets sources = Err (BadArgument (codes "Substfile"))

-- `Substfile(target, source, SUBST_DICT)`: a file of what its sources hold
abbrev pub substfile : Declared → Site → Option (List Given) → List Given → Pairs → Outcome
substfile d site targets sources pairs =
    and_then (files_of d site.env.0 (codes "Substfile") sources) (λ files.
    and_then (substituted d site targets files) (λ made.
    declares d site (recipe.Substfile pairs) made files))
