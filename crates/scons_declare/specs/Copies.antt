-- Copies: `Install` and `InstallAs`.
use Rattle.std.specs.Prelude.{ℕ, ◌==◌, ◌||◌, not, length, List, [], ◌∷◌, ◌++◌, Result, Ok, Err, codes, if◌then◌else◌}
use Rattle.scons_base.specs.Parts.{name_of}
use Rattle.scons_decls.specs.declared.fault.NameFault.{NameFault}
use Rattle.scons_decls.specs.declared.fault.NameFault.TheVariants.{BadArgument}
use Rattle.scons_decls.specs.declared.given.Given.{Given}
use Rattle.scons_decls.specs.declared.rule.Recipe.{Recipe}
use Rattle.scons_decls.specs.declared.rule.Recipe.TheVariants as recipe
use Rattle.scons_decls.specs.Steps.{and_then, in_turn}
use Rattle.scons_decls.specs.State.{Declared}
use Rattle.scons_decls.specs.Paths.{dir_of, files_of}
use Rattle.scons_declare.specs.Affixes.{path_in}
use Rattle.scons_declare.specs.Calls.{Outcome}
use Rattle.scons_declare.specs.declared.site.Site.{Site}
use Rattle.scons_declare.specs.Sites.{with_rule, answer_of}

-- targets so far, and what is declared
abbrev pub Made : Type 0
Made = List (List ℕ) × Declared

abbrev pub with_copy : Site → Recipe → List ℕ → List ℕ → Declared → Declared
with_copy site how target source d = with_rule d site how (target ∷ []) (source ∷ [])

-- a source is copied into a directory under its own name
abbrev pub installed_one : Site → List ℕ → List ℕ → Made → Result Made NameFault
installed_one site dir source made =
    and_then (path_in dir (name_of source)) (λ target.
    Ok (made.0 ++ target ∷ [], with_copy site recipe.Install target source made.1))

abbrev pub installed_in : Site → List (List ℕ) → Given → Made → Result Made NameFault
installed_in site sources dir made =
    and_then (dir_of made.1 site.env.0 (codes "Install") dir) (λ at. in_turn (installed_one site at) sources made)

abbrev pub installed : Declared → Site → List Given → List (List ℕ) → Outcome
installed d site dirs sources = and_then (in_turn (installed_in site sources) dirs ([], d)) (λ made. Ok (answer_of made.0, made.1))

-- `Install(dir, source)`: a copy of each source in each directory; nothing where there is no source
abbrev pub install : Declared → Site → List Given → List Given → Outcome
install d site dirs sources =
    if length dirs == 0 then Err (BadArgument (codes "Install"))
    else and_then (files_of d site.env.0 (codes "Install") sources) (installed d site dirs)

-- each source is copied to the target at its place
abbrev pub with_copies : Site → List (List ℕ) → List (List ℕ) → Declared → Declared
with_copies site [] sources d = d
with_copies site (target ∷ targets) [] d = d
with_copies site (target ∷ targets) (source ∷ sources) d =
    with_copies site targets sources (with_copy site recipe.InstallAs target source d)

-- `InstallAs(target, source)`: a copy of each source under the name at its place
abbrev pub install_as : Declared → Site → List Given → List Given → Outcome
install_as d site targets sources =
    if length targets == 0 || not (length targets == length sources) then Err (BadArgument (codes "InstallAs"))
    else and_then (files_of d site.env.0 (codes "InstallAs") targets) (λ made.
    and_then (files_of d site.env.0 (codes "InstallAs") sources) (λ files.
    Ok (answer_of made, with_copies site made files d)))
