-- What a Glob takes: a file that is away is of no account where the Glob takes it as a target too.
use Rattle.std.proofs.Common.{◌≡◌, ◌∙◌, ◌++◌, ◌∷◌, [], arith, ◌||◌, refl, sym, ap, ℕ, Bool, true, false, List, Option, Some, None, Contains}
use Rattle.std.specs.Prelude.{IsSome, filter, if◌then◌else◌}
use Rattle.std.specs.List.{list_any, filter_map, cons_option}
use Rattle.std.specs.Str.{bytes_eq}
use Rattle.std.proofs.lemmas.List.Elements.{Contains-append_left, Contains-append_right}
use Rattle.std.proofs.lemmas.List.Folds.{list_any-append}
use Rattle.std.proofs.lemmas.Slice.Eq.{bytes_eq-Decides}
use Rattle.scons_base.specs.Parts.{dir_of, moved_path}
use Rattle.scons_decls.specs.Globs.{named_beside, named_in, targets_beside}
use Rattle.scons_decls.specs.State.{Declared}
use Rattle.scons_decls.specs.Targets.{targets_in, is_made}

here : {X : Type 0} (x : X) (xs : List X) → Contains (x ∷ xs) x
here x xs = Contains-append_left (x ∷ []) xs x (0, omega arith, refl)

behind : {X : Type 0} (x y : X) (xs : List X) → Contains xs y → Contains (x ∷ xs) y
behind x y xs c = Contains-append_right (x ∷ []) xs y c

-- a test of what is given, if something is
abbrev if_given : (List ℕ → Bool) → Option (List ℕ) → Bool
if_given test None = false
if_given test (Some path) = test path

any_given : (test : List ℕ → Bool) (one : Option (List ℕ)) (xs : List (List ℕ)) → list_any test (cons_option one xs) ≡ (if_given test one || list_any test xs)
any_given test None xs = refl
any_given test (Some path) xs = refl

any_mapped : (test : List ℕ → Bool) (give : List ℕ → Option (List ℕ)) (xs : List (List ℕ)) → list_any test (filter_map give xs) ≡ list_any (λ x. if_given test (give x)) xs
any_mapped test give [] = refl
any_mapped test give (x ∷ xs) = any_given test (give x) (filter_map give xs) ∙ ap (λ b. if_given test (give x) || b) (any_mapped test give xs)

given_some : (test : List ℕ → Bool) (o : Option (List ℕ)) → if_given test o ≡ true → IsSome o
given_some test None e = absurd cc
given_some test (Some path) e = refl

or_true : (b : Bool) → (b || true) ≡ true
or_true true = refl
or_true false = refl

-- of a list without some members a test is the same that is false of these, or that is true of others anyway
module _ (test p : List ℕ → Bool) where
  one_kept : (x : List ℕ) (xs : List (List ℕ)) (kept passes : Bool) → p x ≡ kept → test x ≡ passes → (p x ≡ false → test x ≡ true → false ≡ true) → list_any test (filter p xs) ≡ list_any test xs
      → list_any test (filter p (x ∷ xs)) ≡ list_any test (x ∷ xs)
  one_kept x xs true passes k t away rest = rw k (ap (λ b. test x || b) rest)
  one_kept x xs false true k t away rest = let bad : false ≡ true = away k t in absurd cc
  one_kept x xs false false k t away rest = rw (k, t) rest

  unless_any : (xs : List (List ℕ)) → ((x : List ℕ) → Contains xs x → p x ≡ false → test x ≡ true → false ≡ true) → list_any test (filter p xs) ≡ list_any test xs
  unless_any [] away = refl
  unless_any (x ∷ xs) away = one_kept x xs (p x) (test x) refl refl (away x (here x xs)) (unless_any xs (λ y c. away y (behind x y xs c)))

  any_kept : (already : Bool) (xs : List (List ℕ)) → ((x : List ℕ) → Contains xs x → p x ≡ false → test x ≡ true → already ≡ true) → (already || list_any test (filter p xs)) ≡ (already || list_any test xs)
  any_kept true xs away = refl
  any_kept false xs away = unless_any xs away

or_behind : (a b x y : Bool) → ((a || b) || x) ≡ ((a || b) || y) → (a || (b || x)) ≡ (a || (b || y))
or_behind true b x y e = refl
or_behind false b x y e = e

any_behind : (test : List ℕ → Bool) (front beside xs ys : List (List ℕ)) → ((list_any test front || list_any test beside) || list_any test xs) ≡ ((list_any test front || list_any test beside) || list_any test ys)
    → list_any test (front ++ (beside ++ xs)) ≡ list_any test (front ++ (beside ++ ys))
any_behind test front beside xs ys e =
    list_any-append test front (beside ++ xs) ∙ ap (λ b. list_any test front || b) (list_any-append test beside xs)
    ∙ or_behind (list_any test front) (list_any test beside) (list_any test xs) (list_any test ys) e
    ∙ sym (list_any-append test front (beside ++ ys) ∙ ap (λ b. list_any test front || b) (list_any-append test beside ys))

-- a path among others passes their test
one_at : (test : List ℕ → Bool) (x y : List ℕ) (ys : List (List ℕ)) (same : Bool) → bytes_eq x y ≡ same → test x ≡ true → (list_any (bytes_eq x) ys ≡ true → list_any test ys ≡ true)
    → (same || list_any (bytes_eq x) ys) ≡ true → (test y || list_any test ys) ≡ true
one_at test x y ys true s t rest e = ap (λ b. b || list_any test ys) (sym (ap test ((bytes_eq-Decides x y).0 s)) ∙ t)
one_at test x y ys false s t rest e = ap (λ b. test y || b) (rest e) ∙ or_true (test y)

any_at : (test : List ℕ → Bool) (x : List ℕ) (ys : List (List ℕ)) → test x ≡ true → list_any (bytes_eq x) ys ≡ true → list_any test ys ≡ true
any_at test x [] t e = absurd cc
any_at test x (y ∷ ys) t e = one_at test x y ys (bytes_eq x y) refl t (any_at test x ys t) e

-- of a path that fits, what is named; of others nothing
pub named_if : (fit : Bool) (o : Option (List ℕ)) → IsSome (if fit then o else None) → IsSome o
named_if true o w = w
named_if false o w = absurd cc

-- what is taken where a directory and its source are looked in
module _ (now : Declared) (dir : List ℕ) (source : Option (List ℕ)) (take : List ℕ → Option (List ℕ)) (names : (path : List ℕ) → IsSome (take path) → IsSome (named_in dir source path))
    (p : List ℕ → Bool) (q : List ℕ) where
  abbrev takes : List ℕ → Bool
  takes path = if_given (bytes_eq q) (take path)

  -- a target that is taken as a file is taken as a target
  in_dir : (path : List ℕ) → takes path ≡ true → is_made now.made path ≡ true → dir_of path ≡ dir → list_any takes (targets_in now.made dir) ≡ true
  in_dir path t m at = any_at takes path (targets_in now.made dir) t (ap (λ d. list_any (bytes_eq path) (targets_in now.made d)) (sym at) ∙ m)

  in_source : (path : List ℕ) (o : Option (List ℕ)) → takes path ≡ true → is_made now.made path ≡ true → IsSome (named_beside dir o path) → list_any takes (targets_beside now o) ≡ true
  in_source path None t m there = absurd cc
  in_source path (Some s) t m there = by (bytes_eq (dir_of path) s) refl there
    where
      by : (same : Bool) → bytes_eq (dir_of path) s ≡ same → IsSome (if same then moved_path path s dir else None) → list_any takes (targets_in now.made s) ≡ true
      by true e w = any_at takes path (targets_in now.made s) t (ap (λ d. list_any (bytes_eq path) (targets_in now.made d)) (sym ((bytes_eq-Decides (dir_of path) s).0 e)) ∙ m)
      by false e w = absurd cc

  as_target : (path : List ℕ) → takes path ≡ true → is_made now.made path ≡ true → (list_any takes (targets_in now.made dir) || list_any takes (targets_beside now source)) ≡ true
  as_target path t m = by (bytes_eq (dir_of path) dir) refl (names path (given_some (bytes_eq q) (take path) t))
    where
      by : (same : Bool) → bytes_eq (dir_of path) dir ≡ same → IsSome (if same then Some path else named_beside dir source path)
          → (list_any takes (targets_in now.made dir) || list_any takes (targets_beside now source)) ≡ true
      by true e w = ap (λ b. b || list_any takes (targets_beside now source)) (in_dir path t m ((bytes_eq-Decides (dir_of path) dir).0 e))
      by false e w = ap (λ b. list_any takes (targets_in now.made dir) || b) (in_source path source t m w) ∙ or_true (list_any takes (targets_in now.made dir))

  pub taken_same : (files : List (List ℕ)) → ((path : List ℕ) → Contains files path → IsSome (take path) → p path ≡ false → is_made now.made path ≡ true)
      → list_any (bytes_eq q) (filter_map take (targets_in now.made dir ++ (targets_beside now source ++ filter p files)))
      ≡ list_any (bytes_eq q) (filter_map take (targets_in now.made dir ++ (targets_beside now source ++ files)))
  taken_same files all =
      any_mapped (bytes_eq q) take (targets_in now.made dir ++ (targets_beside now source ++ filter p files))
      ∙ any_behind takes (targets_in now.made dir) (targets_beside now source) (filter p files) files
      (any_kept takes p (list_any takes (targets_in now.made dir) || list_any takes (targets_beside now source)) files
      (λ path c away t. as_target path t (all path c (given_some (bytes_eq q) (take path) t) away)))
      ∙ sym (any_mapped (bytes_eq q) take (targets_in now.made dir ++ (targets_beside now source ++ files)))
