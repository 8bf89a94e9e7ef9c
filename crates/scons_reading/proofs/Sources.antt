-- What is declared makes the same graph over the sources as over all files: a library that a rule makes is known by that rule.
use Rattle.std.proofs.Common.{◌≡◌, ◌∙◌, ◌||◌, ◌&&◌, not, cond, refl, sym, ap, subst, ℕ, Bool, true, false, List, Option, Some, None, Result, Ok}
use Rattle.std.specs.Prelude.{slice_get, is_some, codes}
use Rattle.std.specs.List.{find, filter_map}
use Rattle.env_subst.specs.declared.library.LibItem.{LibItem}
use Rattle.env_subst.specs.declared.library.LibItem.TheVariants.{Name, Node}
use Rattle.env_subst.specs.declared.locals.Locals.{Locals}
use Rattle.scons_decls.specs.State.{Declared, Rule}
use Rattle.scons_decls.specs.declared.rule.Recipe.{Recipe}
use Rattle.scons_decls.specs.declared.rule.Recipe.TheVariants.{Object, Program, StaticLibrary, Command, Own, Textfile, Substfile, Install, InstallAs}
use Rattle.scons_decls.specs.Targets.{is_made}
use Rattle.variant_dirs.specs.Variants.{variant_of, source_of}
use Rattle.scons_rules.specs.declared.fault.RuleReadFault.{RuleReadFault}
use Rattle.scons_rules.specs.Expanding.{Expanding, lib_items_of, dirs_of}
use Rattle.scons_rules.specs.Libraries as libraries
use Rattle.scons_rules.specs.Libraries.{copied_from, is_source, is_source_of, is_known, place_in, found_among, library, each_library, file_name}
use Rattle.scons_rules.specs.PathGraphs.{PathGraph}
use Rattle.scons_rules.specs.Ruling.{libraries_of, program_libraries, added}
use Rattle.scons_rules.specs.Settled.{is_copied}
use Rattle.scons_rules.specs.Shell.{all_in_line}
use Rattle.scons_rules.specs.Steps.{and_then, each}
use Rattle.scons_host.specs.Files.{Files}
use Rattle.scons_reading.specs.Firsts.{is_file}
use Rattle.scons_reading.specs.Graphs.{standing_in, found, put_in, Adds, unknown, known, Puts, none, more, Graphs, made}
use Rattle.scons_reading.specs.Sources.{has_rule, sources}

-- What is known among the sources is what is known among all files: the library of a rule is known by that rule.
source_bool : (made copied copy : Bool) (content : Option (List ℕ)) → (copied ≡ false → copy ≡ false)
    → (made || (not copied && is_some (cond (made || copy) None content))) ≡ (made || (not copied && is_some content))
source_bool true copied copy content free = refl
source_bool false true copy content free = refl
source_bool false false copy content free = ap (λ c. is_some (cond (false || c) None content)) (free refl)

or_true : (b : Bool) → (b || true) ≡ true
or_true true = refl
or_true false = refl

known_bool : (made copy : Bool) (content : Option (List ℕ)) → (made || (is_some (cond (made || copy) None content) || copy)) ≡ (made || (is_some content || copy))
known_bool true copy content = refl
known_bool false true content = sym (or_true (is_some content))
known_bool false false content = refl

module _ (f : Files) (d : Declared) where
  abbrev S : Files
  S = sources f d

  copied_at : List ℕ → Bool
  copied_at path = is_copied (variant_of d.locals.variants path)

  no_copy : (path : List ℕ) → is_copied (variant_of d.locals.variants path) ≡ false → is_source_of (standing_in f) d (copied_from d path) ≡ false
  no_copy path e = ap (λ b. is_source_of (standing_in f) d (cond b (source_of d.locals.variants d.locals.top path) None)) e

  source_same : (path : List ℕ) → is_source (standing_in S) d path ≡ is_source (standing_in f) d path
  source_same path =
      source_bool (is_made d.made path) (is_copied (variant_of d.locals.variants path)) (is_source_of (standing_in f) d (copied_from d path)) (f.tree path) (no_copy path)

  copy_same : (o : Option (List ℕ)) → is_source_of (standing_in S) d o ≡ is_source_of (standing_in f) d o
  copy_same None = refl
  copy_same (Some path) = source_same path

  known_same : (path : List ℕ) → is_known (standing_in S) d path ≡ is_known (standing_in f) d path
  known_same path =
      ap (λ c. is_made d.made path || (is_file S path || c)) (copy_same (copied_from d path))
      ∙ known_bool (is_made d.made path) (is_source_of (standing_in f) d (copied_from d path)) (f.tree path)

  among_same : (file : List ℕ) (dirs : List (List ℕ)) → found_among (standing_in S) d file dirs ≡ found_among (standing_in f) d file dirs
  among_same file dirs = λ i. find (λ path. known_same path i) (filter_map (place_in d file) dirs)

  module _ (x : Expanding) (of : x.declared ≡ d) where
    among_of : (file : List ℕ) (dirs : List (List ℕ)) → found_among (standing_in S) x.declared file dirs ≡ found_among (standing_in f) x.declared file dirs
    among_of file dirs = subst (λ e. found_among (standing_in S) e file dirs ≡ found_among (standing_in f) e file dirs) (sym of) (among_same file dirs)

    library_same : (dirs : List (List ℕ)) (item : LibItem) → library (standing_in S) x dirs item ≡ library (standing_in f) x dirs item
    library_same dirs (Node path) = refl
    library_same dirs (Name name) = λ i. and_then (file_name x name) (λ file. let made : Result (Option (List ℕ)) RuleReadFault = Ok (among_of file dirs i) in made)

    each_same : (dirs : List (List ℕ)) (items : List LibItem) → each_library (standing_in S) x dirs items ≡ each_library (standing_in f) x dirs items
    each_same dirs items = λ i. each (λ item. library_same dirs item i) items

    libraries_same : libraries.libraries (standing_in S) x ≡ libraries.libraries (standing_in f) x
    libraries_same = λ i. and_then (lib_items_of x) (λ items. and_then (dirs_of x (codes "LIBPATH")) (λ dirs. and_then (all_in_line dirs) (λ u. each_same dirs items i)))

  program_same : (r : Rule) (l : Locals) (recipe : Recipe) → r.recipe ≡ recipe
      → program_libraries (standing_in S) (record { declared = d; rule = r; locals = l }) ≡ program_libraries (standing_in f) (record { declared = d; rule = r; locals = l })
  program_same r l Program is = rw is (libraries_same (record { declared = d; rule = record r { recipe = Program }; locals = l }) refl)
  program_same r l Object is = rw is refl
  program_same r l StaticLibrary is = rw is refl
  program_same r l (Command lines) is = rw is refl
  program_same r l (Own number) is = rw is refl
  program_same r l (Textfile texts pairs) is = rw is refl
  program_same r l (Substfile pairs) is = rw is refl
  program_same r l Install is = rw is refl
  program_same r l InstallAs is = rw is refl

  names_same : (n : ℕ) (l : Locals) (o : Option Rule) → slice_get d.rules n ≡ o → libraries_of (standing_in S) d n l ≡ libraries_of (standing_in f) d n l
  names_same n l None at = rw at refl
  names_same n l (Some r) at = rw at (program_same r l r.recipe refl)

  put_same : (n : ℕ) (l : Locals) (g : PathGraph) → put_in S d n l g ≡ put_in f d n l g
  put_same n l g = ap (λ (names : Result (List (Option (List ℕ))) RuleReadFault). and_then names (λ wanted. added d n l (found wanted) g)) (names_same n l (slice_get d.rules n) refl)

  adds_same : {n : ℕ} {g : PathGraph} {r : Result PathGraph RuleReadFault} → Adds f d n g r → Adds S d n g r
  adds_same (unknown e) = unknown e
  adds_same {n = n} {g = g} (known l knows put) = known l knows (put_same n l g ∙ put)

  puts_same : {n : ℕ} {g : PathGraph} → Puts f d n g → Puts S d n g
  puts_same none = none
  puts_same (more puts one) = more (puts_same puts) (adds_same one)

  -- the rules of what was declared make the same graph
  pub graph_same : {scripts : List (List ℕ)} {g : PathGraph} → Graphs f d scripts (Ok g) → Graphs S d scripts (Ok g)
  graph_same (made puts closed) = made (puts_same puts) closed

  -- a file that has no rule is a source, and what is no file is none
  pub source_kept : (path : List ℕ) → has_rule f d path ≡ false → S.tree path ≡ f.tree path
  source_kept path free = ap (λ b. cond b None (f.tree path)) free

  absent_by : (b : Bool) (content : Option (List ℕ)) → content ≡ None → cond b None content ≡ None
  absent_by true content away = refl
  absent_by false content away = away

  pub source_absent : (path : List ℕ) → f.tree path ≡ None → S.tree path ≡ None
  source_absent path away = absent_by (has_rule f d path) (f.tree path) away
