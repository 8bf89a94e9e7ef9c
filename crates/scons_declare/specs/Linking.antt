-- Objects, programs and libraries.
use Rattle.std.specs.Prelude.{ℕ, ◌==◌, ◌&&◌, ◌||◌, not, length, nat_eq, List, [], ◌∷◌, Bool, Option, Some, None, Result, Ok, Err, codes, if◌then◌else◌}
use Rattle.std.specs.List.{ends_with}
use Rattle.std.specs.Str.{bytes_eq}
use Rattle.scons_base.specs.Parts.{name_of, suffix_of}
use Rattle.env_pieces.specs.declared.form.Mode.TheVariants as mode
use Rattle.scons_decls.specs.declared.fault.NameFault.{NameFault}
use Rattle.scons_decls.specs.declared.fault.NameFault.TheVariants.{BadArgument, BadSuffix, NoSource}
use Rattle.scons_decls.specs.declared.given.Given.{Given}
use Rattle.scons_decls.specs.declared.rule.Recipe.{Recipe}
use Rattle.scons_decls.specs.declared.rule.Recipe.TheVariants as recipe
use Rattle.scons_decls.specs.Languages.{is_compiled}
use Rattle.scons_decls.specs.Steps.{and_then}
use Rattle.scons_decls.specs.Environs.{expanded}
use Rattle.scons_decls.specs.State.{Declared}
use Rattle.scons_declare.specs.Calls.{Outcome}
use Rattle.scons_declare.specs.declared.objects.Linking.{Linking}
use Rattle.scons_declare.specs.declared.site.Site.{Site}
use Rattle.scons_declare.specs.Sites.{with_rule, declares, answer_of}
use Rattle.scons_declare.specs.Affixes.{Affixed, affixes, named, target_of, targets_of}

-- what stands behind the names of objects
unfoldable pub object_affixes : Declared → Site → Result Affixed NameFault
object_affixes d site = affixes d site.env.0 [] (codes "$OBJSUFFIX")

-- paths that were found, and what is declared then
abbrev pub Found : Type 0
Found = Result (List (List ℕ) × Declared) NameFault

abbrev pub compiled : List ℕ → Result (List ℕ) NameFault
compiled path = if is_compiled path then Ok path else Err (BadSuffix path)

-- a source that compilers take: a text without a suffix names a C source
abbrev pub compiled_source : Declared → Site → Given → Result (List ℕ) NameFault
compiled_source d site source =
    and_then (affixes d site.env.0 [] (codes ".c")) (λ c.
    and_then (named d site.env.0 (codes "Object") c source) compiled)

abbrev pub with_object : Site → List ℕ → List ℕ → Declared → Declared
with_object site target source d = with_rule d site recipe.Object (target ∷ []) (source ∷ [])

-- the object of a source: its target is the source's base with prefix and suffix
abbrev pub object_of : Declared → Site → Affixed → List ℕ → Result (List ℕ × Declared) NameFault
object_of d site object source =
    and_then (target_of [] object source) (λ target.
    Ok (target, with_object site target source d))

-- items one after another, each of which gives a path and what is declared then
abbrev pub found_in_turn : (Given → Declared → Result (List ℕ × Declared) NameFault) → List Given → Declared → Found
found_in_turn step [] d = Ok ([], d)
found_in_turn step (x ∷ xs) d =
    and_then (step x d) (λ one. and_then (found_in_turn step xs one.1) (λ more. Ok (one.0 ∷ more.0, more.1)))

-- the object of a source as it is given
unfoldable pub given_object : Site → Affixed → Given → Declared → Result (List ℕ × Declared) NameFault
given_object site object source d = and_then (compiled_source d site source) (object_of d site object)

-- the object of a source, with a target that is named
unfoldable pub one_object : Declared → Site → Affixed → Given → Given → Outcome
one_object d site object target source =
    and_then (compiled_source d site source) (λ path.
    and_then (named d site.env.0 (codes "Object") object target) (λ made.
    declares d site recipe.Object (made ∷ []) (path ∷ [])))

abbrev pub answers_found : Found → Outcome
answers_found found = and_then found (λ f. Ok (answer_of f.0, f.1))

abbrev pub objects_by : Declared → Site → Affixed → Option (List Given) → List Given → Outcome
objects_by d site object None sources = answers_found (found_in_turn (given_object site object) sources d)
objects_by d site object (Some (target ∷ [])) (source ∷ []) = one_object d site object target source
objects_by d site object (Some targets) sources = Err (BadArgument (codes "Object"))

-- `Object(source)`: one object for each source; `Object(target, source)` has one source
abbrev pub objects : Declared → Site → Option (List Given) → List Given → Outcome
objects d site targets sources = and_then (object_affixes d site) (λ object. objects_by d site object targets sources)

-- what stands round the names of targets, and how objects and libraries are named
abbrev pub linking_of : Declared → Site → List ℕ → List ℕ → Result Linking NameFault
linking_of d site prefix suffix =
    and_then (affixes d site.env.0 prefix suffix) (λ target.
    and_then (object_affixes d site) (λ object.
    and_then (expanded d.envs d.locals site.env.0 mode.Text (codes "$LIBSUFFIX")) (λ lib_suffix.
    Ok (record { target = target; object = object; lib_suffix = lib_suffix }))))

abbrev pub default_target : Declared → Site → Linking → List ℕ → List Given → Result (List (List ℕ)) NameFault
default_target d site l call [] = Err NoSource
default_target d site l call (first ∷ rest) =
    and_then (named d site.env.0 call l.object first) (λ source.
    and_then (target_of [] l.target source) (λ target. Ok (target ∷ [])))

-- the targets of what is linked: where none is named, one by the first source
abbrev pub linked_targets : Declared → Site → Linking → List ℕ → Option (List Given) → List Given → Result (List (List ℕ)) NameFault
linked_targets d site l call None sources = default_target d site l call sources
linked_targets d site l call (Some targets) sources = targets_of d site.env.0 call l.target targets

abbrev pub has_suffix : List ℕ → List ℕ → Bool
has_suffix suffix name = not (length suffix == 0) && ends_with nat_eq name suffix

-- an object or a library
abbrev pub is_linkable : Linking → List ℕ → Bool
is_linkable l path =
    bytes_eq (suffix_of path) (codes ".o") || (bytes_eq (suffix_of path) (codes ".a")
    || (has_suffix l.object.suffix (name_of path) || has_suffix l.lib_suffix (name_of path)))

-- a source as it is linked: the object of a C or C++ source, an object or a library as it is
abbrev pub linked_path : Site → Linking → List ℕ → Declared → Result (List ℕ × Declared) NameFault
linked_path site l path d =
    if is_compiled path then object_of d site l.object path
    else (if is_linkable l path then Ok (path, d) else Err (BadSuffix path))

unfoldable pub linked_source : Site → Linking → List ℕ → Given → Declared → Result (List ℕ × Declared) NameFault
linked_source site l call source d = and_then (named d site.env.0 call l.object source) (λ path. linked_path site l path d)

-- C and C++ sources become objects, and all are linked
abbrev pub linked : Declared → Site → Recipe → List ℕ → List ℕ → List ℕ → Option (List Given) → List Given → Outcome
linked d site how call prefix suffix targets sources =
    and_then (linking_of d site prefix suffix) (λ l.
    and_then (linked_targets d site l call targets sources) (λ made.
    and_then (found_in_turn (linked_source site l call) sources d) (λ found.
    declares found.1 site how made found.0)))
