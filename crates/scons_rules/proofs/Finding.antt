-- Libraries that are looked for: what is found by asking for one place behind another.
use Rattle.std.proofs.Common.{arith, ◌≡◌, ◌<◌, ◌≤◌, ◌+◌, ◌∙◌, ℕ, zero, suc, List, [], ◌∷◌, ◌++◌, ◌||◌, Bool, true, false, not, ◌&&◌, cond, ap, sym, refl, length, drop, get_or, Some, None, Option}
use Rattle.std.specs.Prelude.{Result, Ok, Err, IfOk, IfErr, is_some, codes}
use Rattle.std.specs.List.{find, filter_map}
use Rattle.std.specs.Option.{option_or}
use Rattle.std.proofs.lemmas.List.Folds.{find-append}
use Rattle.scons_rules.specs.declared.libraries.AskedFile.{AskedFile}
use Rattle.scons_rules.specs.declared.libraries.Wanted.{Wanted}
use Rattle.env_subst.specs.declared.library.LibItem.{LibItem}
use Rattle.scons_decls.specs.State.{Declared}
use Rattle.scons_rules.specs.Expanding.{Expanding, lib_items_of, dirs_of}
use Rattle.scons_rules.specs.Shell.{all_in_line}
use Rattle.scons_rules.specs.Steps.{and_then}
use Rattle.scons_rules.specs.Libraries.{Files, libraries, each_library, found_in, found_among, place_in, is_known, is_source, is_source_of, or_known, or_at, or_place}
use Rattle.scons_rules.proofs.Stepping.{drop_next}

abbrev pub Found : Type 0
Found = Option (List ℕ)

at_both : (o : Found) (a b : Bool) (path : List ℕ) → or_at (or_at o a path) b path ≡ or_at o (a || b) path
at_both (Some x) a b path = refl
at_both None true b path = refl
at_both None false b path = refl

-- places in their order
module _ (p : List ℕ → Bool) (g : List ℕ → Found) where
  at_first : (o : Found) (there : Bool) (path : List ℕ) (rest : Found) → option_or (or_at o there path) rest ≡ option_or o (cond there (Some path) rest)
  at_first (Some x) there path rest = refl
  at_first None true path rest = refl
  at_first None false path rest = refl

  pub one_asked : (dirs : List (List ℕ)) (i : ℕ) (dir path : List ℕ) (old new all : Found) → i < length dirs → dir ≡ get_or dirs i dir → g dir ≡ Some path
      → all ≡ option_or old (find p (filter_map g (drop i dirs))) → new ≡ or_at old (p path) path → all ≡ option_or new (find p (filter_map g (drop (i + 1) dirs)))
  one_asked dirs i dir path old new all l at there was is =
      let rest = find p (filter_map g (drop (i + 1) dirs)) in
      let next : drop i dirs ≡ dir ∷ drop (i + 1) dirs = drop_next dirs i dir l ∙ ap (λ y. y ∷ drop (i + 1) dirs) (sym at) in
      let seen : find p (filter_map g (drop i dirs)) ≡ cond (p path) (Some path) (find p (filter_map g (drop (i + 1) dirs))) = rw (next, there) refl in
      was ∙ ap (option_or old) seen ∙ sym (at_first old (p path) path rest) ∙ ap (λ o. option_or o rest) (sym is)

  pub no_place : (dirs : List (List ℕ)) (i : ℕ) (dir : List ℕ) (old all : Found) → i < length dirs → dir ≡ get_or dirs i dir → g dir ≡ None
      → all ≡ option_or old (find p (filter_map g (drop i dirs))) → all ≡ option_or old (find p (filter_map g (drop (i + 1) dirs)))
  no_place dirs i dir old all l at none was =
      let next : drop i dirs ≡ dir ∷ drop (i + 1) dirs = drop_next dirs i dir l ∙ ap (λ y. y ∷ drop (i + 1) dirs) (sym at) in
      let seen : find p (filter_map g (drop i dirs)) ≡ find p (filter_map g (drop (i + 1) dirs)) = rw (next, none) refl in
      was ∙ ap (option_or old) seen

  pub all_asked : (dirs : List (List ℕ)) (i : ℕ) (old all : Found) → length dirs ≤ i → all ≡ option_or old (find p (filter_map g (drop i dirs))) → old ≡ all
  all_asked dirs i old all l was = sym (was ∙ ap (λ ds. option_or old (find p (filter_map g ds))) (nothing dirs i l) ∙ none old)
    where
      nothing : (xs : List (List ℕ)) (k : ℕ) → length xs ≤ k → drop k xs ≡ []
      nothing [] zero l = refl
      nothing [] (suc k) l = refl
      nothing (x ∷ xs) zero l = absurd (omega arith)
      nothing (x ∷ xs) (suc k) l = nothing xs k (omega arith)

      none : (o : Found) → option_or o None ≡ o
      none None = refl
      none (Some x) = refl

-- what is found with certainty
pub surely_known : (f : Files) (w : Wanted) (all rest : Found) → is_some w.known ≡ true → all ≡ option_or (found_in f w) rest → found_in f w ≡ all
surely_known f w all rest some is = sym (is ∙ by w.known (find (λ a. f.stands a.file) w.asked) some)
  where
    by : (k : Found) (o : Option AskedFile) → is_some k ≡ true → option_or (or_known k o) rest ≡ or_known k o
    by None o e = absurd (cc)
    by (Some p) (Some a) e = refl
    by (Some p) None e = refl

pub none_by : (o : Found) → is_some o ≡ false → o ≡ None
none_by None e = refl
none_by (Some x) e = absurd (cc)

-- one file more is asked for, or a path is known
module _ (f : Files) (old new : Wanted) (unknown : old.known ≡ None) where
  pub set_known : (path : List ℕ) → new.asked ≡ old.asked → new.known ≡ Some path → found_in f new ≡ or_at (found_in f old) true path
  set_known path asked known =
      ap (λ l. or_known new.known (find (λ a. f.stands a.file) l)) asked ∙ ap (λ o. or_known o (find (λ a. f.stands a.file) old.asked)) known
      ∙ by (find (λ a. f.stands a.file) old.asked) ∙ ap (λ o. or_at (or_known o (find (λ a. f.stands a.file) old.asked)) true path) (sym unknown)
    where
      by : (o : Option AskedFile) → or_known (Some path) o ≡ or_at (or_known None o) true path
      by (Some a) = refl
      by None = refl

  pub one_pushed : (a : AskedFile) → new.known ≡ old.known → new.asked ≡ old.asked ++ a ∷ [] → found_in f new ≡ or_at (found_in f old) (f.stands a.file) a.library
  one_pushed a known asked =
      ap (λ l. or_known new.known (find (λ b. f.stands b.file) l)) asked ∙ ap (λ o. or_known o (find (λ b. f.stands b.file) (old.asked ++ a ∷ []))) (known ∙ unknown)
      ∙ ap (or_known None) (find-append (λ b. f.stands b.file) old.asked (a ∷ [])) ∙ by (find (λ b. f.stands b.file) old.asked) (f.stands a.file)
      ∙ ap (λ o. or_at (or_known o (find (λ b. f.stands b.file) old.asked)) (f.stands a.file) a.library) (sym unknown)
    where
      by : (o : Option AskedFile) (there : Bool) → or_known None (option_or o (cond there (Some a) None)) ≡ or_at (or_known None o) there a.library
      by (Some b) there = refl
      by None true = refl
      by None false = refl

-- a path, and the source that would be copied there
pub both_asked : (old mid new : Found) (a b : Bool) (path : List ℕ) → mid ≡ or_at old a path → new ≡ or_at mid b path → new ≡ or_at old (a || b) path
both_asked old mid new a b path first second = second ∙ ap (λ o. or_at o b path) first ∙ at_both old a b path

-- a source that no rule makes and that is no copy
pub source_by : (a b c : Bool) → a ≡ false → b ≡ false → (a || (not b && c)) ≡ c
source_by false false c d e = refl
source_by true b c d e = absurd (cc)
source_by false true c d e = absurd (cc)

-- a path that no rule makes
pub known_by : (f : Files) (d : Declared) (a b : Bool) (o : Found) (source : List ℕ) → a ≡ false → o ≡ Some source → (a || (b || is_source_of f d o)) ≡ (b || is_source f d source)
known_by f d a b o source none is = ap (λ c. c || (b || is_source_of f d o)) none ∙ ap (λ p. b || is_source_of f d p) is

pub unknown_by : (f : Files) (d : Declared) (a b : Bool) (o : Found) → a ≡ false → o ≡ None → (a || (b || is_source_of f d o)) ≡ b
unknown_by f d a b o none is = ap (λ c. c || (b || is_source_of f d o)) none ∙ ap (λ p. b || is_source_of f d p) is ∙ last b
  where
    last : (b : Bool) → (b || false) ≡ b
    last true = refl
    last false = refl

-- one directory more
pub next_asked : (f : Files) (d : Declared) (file : List ℕ) (dirs : List (List ℕ)) (i : ℕ) (dir : List ℕ) (old new all : Found) → i < length dirs → dir ≡ get_or dirs i dir
    → all ≡ option_or old (found_among f d file (drop i dirs)) → new ≡ or_place f d old (place_in d file dir) → all ≡ option_or new (found_among f d file (drop (i + 1) dirs))
next_asked f d file dirs i dir old new all l at was is = by (place_in d file dir) refl is
  where
    by : (o : Found) → place_in d file dir ≡ o → new ≡ or_place f d old o → all ≡ option_or new (found_among f d file (drop (i + 1) dirs))
    by None none is =
        no_place (is_known f d) (place_in d file) dirs i dir old all l at none was ∙ ap (λ o. option_or o (found_among f d file (drop (i + 1) dirs))) (sym is)
    by (Some path) there is = one_asked (is_known f d) (place_in d file) dirs i dir path old new all l at there was is

-- what follows of a result
pub on_err : {X E : Type 0} {P Q : E → Type 0} (r : Result X E) → IfErr r P → ((e : E) → P e → Q e) → IfErr r Q
on_err (Ok x) p f = tt
on_err (Err e) p f = f e p

pub if_ok : {X E : Type 0} {P Q : X → Type 0} (r : Result X E) → IfOk r P → ((x : X) → P x → Q x) → IfOk r Q
if_ok (Ok x) p f = f x p
if_ok (Err e) p f = tt

-- the libraries of a program, where all that comes before them is well
pub libraries_by : (f : Files) (x : Expanding) (names : List LibItem) (dirs : List (List ℕ)) → lib_items_of x ≡ Ok names → dirs_of x (codes "LIBPATH") ≡ Ok dirs → all_in_line dirs ≡ Ok tt
    → libraries f x ≡ each_library f x dirs names
libraries_by f x names dirs a b c =
    ap (λ r. and_then r (λ items. and_then (dirs_of x (codes "LIBPATH")) (λ ds. and_then (all_in_line ds) (λ u. each_library f x ds items)))) a
    ∙ ap (λ r. and_then r (λ ds. and_then (all_in_line ds) (λ u. each_library f x ds names))) b
    ∙ ap (λ r. and_then r (λ u. each_library f x dirs names)) c
