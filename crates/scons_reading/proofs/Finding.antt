-- The files that are found: which of some is the first, and those of all that are wanted.
use Rattle.std.proofs.Common.{Bor, ◌≡◌, ◌<◌, ◌≤◌, ◌+◌, ◌∙◌, ◌++◌, ◌∷◌, [], arith, refl, sym, ap, subst, ℕ, Bool, true, false, List, Option, Some, None, length, map, drop, get_or, append-nil, append_assoc}
use Rattle.std.specs.Prelude.{slice_get, unwrap_or, if◌then◌else◌}
use Rattle.std.specs.List.{find, filter_map}
use Rattle.std.specs.Option.{is_some}
use Rattle.std.proofs.lemmas.List.{drop_all, get_or-map, length-map}
use Rattle.scons_rules.proofs.Stepping.{drop_next}
use Rattle.std.specs.Prelude.{IsSome}
use Rattle.world_api.specs.declared.world.Kind.{Kind}
use Rattle.world_api.specs.declared.world.Kind.TheVariants as kind
use Rattle.scons_host.specs.Shown.{IsKindOf}
use Rattle.scons_host.specs.Files.{Files}
use Rattle.scons_rules.specs.declared.libraries.AskedFile.{AskedFile}
use Rattle.scons_rules.specs.declared.libraries.Wanted.{Wanted}
use Rattle.scons_rules.specs.Libraries.{found_in, or_known}
use Rattle.scons_reading.specs.Firsts.{is_file}
use Rattle.scons_reading.specs.Graphs.{found, standing_in}

-- what is found at a path tells whether a file stands there
pub is_there : (content : Option (List ℕ)) (k : Kind) → k ≡ kind.File → IsKindOf content k → true ≡ is_some content
is_there content k is found = sym (subst (IsKindOf content) is found)

pub is_away : (content : Option (List ℕ)) → content ≡ None → false ≡ is_some content
is_away content none = ap is_some (sym none)

-- libraries, of which one more is found or not
pub found_more : (one : Option (List ℕ)) (rest : List (Option (List ℕ))) → found (one ∷ rest) ≡ found (one ∷ []) ++ found rest
found_more (Some library) rest = refl
found_more None rest = refl

pub found_next : {X : Type 0} (g : X → Option (List ℕ)) (xs : List X) (x : X) (rest : List X) (before : List (List ℕ)) (now : List (List ℕ)) (all : List (List ℕ))
    → xs ≡ x ∷ rest → all ≡ before ++ found (map g xs) → now ≡ before ++ found (g x ∷ []) → all ≡ now ++ found (map g rest)
found_next g xs x rest before now all is left one =
    left ∙ ap (λ (l : List _). before ++ found (map g l)) is ∙ ap (λ (l : List (List ℕ)). before ++ l) (found_more (g x) (map g rest))
    ∙ sym (append_assoc before (found (g x ∷ [])) (found (map g rest))) ∙ ap (λ (l : List (List ℕ)). l ++ found (map g rest)) (sym one)

pub found_all : {X : Type 0} (g : X → Option (List ℕ)) (xs : List X) (now all : List (List ℕ)) → xs ≡ [] → all ≡ now ++ found (map g xs) → now ≡ all
found_all g xs now all is left = sym (left ∙ ap (λ (l : List _). now ++ found (map g l)) is ∙ append-nil now)

-- one is put behind others, or none
pub one_found : (before now : List (List ℕ)) (library : List ℕ) (o : Option (List ℕ)) → o ≡ Some library → now ≡ before ++ library ∷ [] → now ≡ before ++ found (o ∷ [])
one_found before now library o is pushed = pushed ∙ ap (λ (x : Option (List ℕ)). before ++ found (x ∷ [])) (sym is)

pub none_found : (before : List (List ℕ)) (o : Option (List ℕ)) → o ≡ None → before ≡ before ++ found (o ∷ [])
none_found before o is = sym (append-nil before) ∙ ap (λ (x : Option (List ℕ)). before ++ found (x ∷ [])) (sym is)

-- the first that passes a test, by the test of the one in front
pub found_first : {X : Type 0} (p : X → Bool) (xs rest : List X) (x : X) → xs ≡ x ∷ rest → true ≡ p x → find p xs ≡ Some x
found_first p xs rest x is passes = ap (find p) is ∙ ap (λ b. if b then Some x else find p rest) (sym passes)

pub found_later : {X : Type 0} (p : X → Bool) (xs rest : List X) (x : X) → xs ≡ x ∷ rest → false ≡ p x → find p xs ≡ find p rest
found_later p xs rest x is fails = ap (find p) is ∙ ap (λ b. if b then Some x else find p rest) (sym fails)

-- the same over what is left of a list
module _ {X : Type 0} (xs : List X) (i : ℕ) where
  next : (x : X) → i < length xs → x ≡ get_or xs i x → drop i xs ≡ x ∷ drop (i + 1) xs
  next x within at = drop_next xs i x within ∙ ap (λ y. y ∷ drop (i + 1) xs) (sym at)

  pub found_step : (g : X → Option (List ℕ)) (x : X) (before now all : List (List ℕ)) → i < length xs → x ≡ get_or xs i x → all ≡ before ++ found (map g (drop i xs)) → now ≡ before ++ found (g x ∷ [])
      → all ≡ now ++ found (map g (drop (i + 1) xs))
  found_step g x before now all within at left one = found_next g (drop i xs) x (drop (i + 1) xs) before now all (next x within at) left one

  pub found_end : (g : X → Option (List ℕ)) (now all : List (List ℕ)) → length xs ≤ i → all ≡ now ++ found (map g (drop i xs)) → now ≡ all
  found_end g now all past left = found_all g (drop i xs) now all (drop_all i xs past) left

  pub first_here : (p : X → Bool) (x : X) (all : Option X) → i < length xs → x ≡ get_or xs i x → true ≡ p x → all ≡ find p (drop i xs) → all ≡ Some x
  first_here p x all within at passes left = left ∙ found_first p (drop i xs) (drop (i + 1) xs) x (next x within at) passes

  pub first_later : (p : X → Bool) (x : X) (all : Option X) → i < length xs → x ≡ get_or xs i x → false ≡ p x → all ≡ find p (drop i xs) → all ≡ find p (drop (i + 1) xs)
  first_later p x all within at fails left = left ∙ found_later p (drop i xs) (drop (i + 1) xs) x (next x within at) fails

  pub first_none : (p : X → Bool) (all : Option X) → length xs ≤ i → all ≡ find p (drop i xs) → all ≡ None
  first_none p all past left = left ∙ ap (find p) (drop_all i xs past)

-- what is found where this is wanted, by the files and the target that it asks for
pub wanted_is : (f : Files) (w : Wanted) (known : Option (List ℕ)) (asked : List AskedFile) (found_there : Option (List ℕ)) → known ≡ w.known → asked ≡ w.asked
    → found_there ≡ or_known known (find (λ a. is_file f a.file) asked) → found_in (standing_in f) w ≡ found_there
wanted_is f w known asked found_there k a is =
    sym (is ∙ ap (λ x. or_known x (find (λ y. is_file f y.file) asked)) k ∙ ap (λ l. or_known w.known (find (λ y. is_file f y.file) l)) a)

-- the same of texts that are lent
abbrev texts : List (Bor (List ℕ)) → List (List ℕ)
texts words = map (λ (w : Bor (List ℕ)). w.now) words

module _ (words : List (Bor (List ℕ))) (i : ℕ) (d : Bor (List ℕ)) (path : List ℕ) (p : List ℕ → Bool) (at : path ≡ (get_or words i d).now) (within : i < length words) where
  name_next : drop i (texts words) ≡ path ∷ drop (i + 1) (texts words)
  name_next =
      let inside : i < length (texts words) = omega (arith, length-map words (λ (w : Bor (List ℕ)). w.now)) in
      drop_next (texts words) i path inside
      ∙ ap (λ x. x ∷ drop (i + 1) (texts words)) (get_or-map (λ (w : Bor (List ℕ)). w.now) words i d path within ∙ sym at)

  pub name_stands : true ≡ p path → find p (texts words) ≡ find p (drop i (texts words)) → find p (texts words) ≡ Some path
  name_stands passes left = left ∙ found_first p (drop i (texts words)) (drop (i + 1) (texts words)) path name_next passes

  pub name_missing : false ≡ p path → find p (texts words) ≡ find p (drop i (texts words)) → find p (texts words) ≡ find p (drop (i + 1) (texts words))
  name_missing fails left = left ∙ found_later p (drop i (texts words)) (drop (i + 1) (texts words)) path name_next fails

pub name_none : (words : List (Bor (List ℕ))) (i : ℕ) (p : List ℕ → Bool) → length words ≤ i → find p (texts words) ≡ find p (drop i (texts words)) → find p (texts words) ≡ None
name_none words i p past left =
    let outside : length (texts words) ≤ i = omega (arith, length-map words (λ (w : Bor (List ℕ)). w.now)) in
    left ∙ ap (find p) (drop_all i (texts words) outside)
