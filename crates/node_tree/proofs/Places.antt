-- The place of a path in a list of paths that differ.
use Rattle.std.proofs.Common.{arith, ◌≡◌, ◌<◌, ◌∙◌, ℕ, suc, ◌+◌, List, [], ◌∷◌, ◌++◌, ◌||◌, Bool, true, false, not, cond, sym, ap, refl, one-add, length, get_or, Some, None, cond, true≢false}
use Rattle.std.specs.Prelude.{Option, nat_lt, slice_get, IfOk, OnOk}
use Rattle.std.specs.Option.{option_map, ok_or}
use Rattle.std.specs.List.{position_or_len, list_any, IsDistinct}
use Rattle.std.specs.Str.{bytes_eq}
use Rattle.std.proofs.lemmas.Bool.{lt-ltb, ltb-false}
use Rattle.std.proofs.lemmas.Bool.Decides.{nat_tests}
use Rattle.std.proofs.lemmas.List.Sums.{position_or_len_is, prefix_len-le-length}
use Rattle.std.proofs.lemmas.Map.Keys.{apart_from_distinct}
use Rattle.std.proofs.lemmas.Slice.Eq.{bytes_eq-Decides}
use Rattle.indexmap.specs.IndexSet.{insert_key}
use Rattle.std.proofs.lemmas.Option.{slice_get_within, slice_get-get_or}
use Rattle.scons_base.specs.declared.ids.NodeId.{NodeId}
use Rattle.node_tree.specs.Nodes.{number_of, with_path, AreApart, Interns}

ltb-suc : (a b : ℕ) → nat_lt (1 + a) (suc b) ≡ nat_lt a b
ltb-suc a b = grind (arith, nat_tests)

list_any_is : {X : Type 0} → (p : X → Bool) (xs : List X) → list_any p xs ≡ nat_lt (position_or_len p xs) (length xs)
list_any_is p [] = refl
list_any_is p (x ∷ xs) = by (p x) (list_any_is p xs)
  where
    by : (b : Bool) → list_any p xs ≡ nat_lt (position_or_len p xs) (length xs) → (b || list_any p xs) ≡ nat_lt (cond (not b) (1 + position_or_len p xs) 0) (suc (length xs))
    by true e = sym (lt-ltb 0 (suc (length xs)) (omega arith))
    by false e = e ∙ sym (ltb-suc (position_or_len p xs) (length xs))

-- an insert gives a path its place, or the next
pub interns : (old : List (List ℕ)) (path : List ℕ) (n : ℕ) (new : List (List ℕ)) → n ≡ position_or_len (bytes_eq path) old → new ≡ insert_key bytes_eq old path → Interns old path n new
interns old path n new at keys = by (nat_lt (position_or_len (bytes_eq path) old) (length old)) refl
  where
    by : (b : Bool) → nat_lt (position_or_len (bytes_eq path) old) (length old) ≡ b → Interns old path n new
    by true e =
        let found : number_of old path ≡ Some (position_or_len (bytes_eq path) old) = rw e refl in
        let any : list_any (bytes_eq path) old ≡ true = list_any_is (bytes_eq path) old ∙ e in
        rw found (at, keys ∙ rw any refl)
    by false e =
        let none : number_of old path ≡ None = rw e refl in
        let any : list_any (bytes_eq path) old ≡ false = list_any_is (bytes_eq path) old ∙ e in
        let last : position_or_len (bytes_eq path) old ≡ length old = omega (arith, ltb-false _ _ e, prefix_len-le-length (λ x. not (bytes_eq path x)) old) in
        rw none (at ∙ last, keys ∙ rw any refl)

-- what an interned path leaves, and where it stands
last_of : (ps : List (List ℕ)) (path : List ℕ) → slice_get (ps ++ path ∷ []) (length ps) ≡ Some path
last_of [] path = refl
last_of (p ∷ ps) path = last_of ps path

found_at : (ps : List (List ℕ)) (path : List ℕ) → nat_lt (position_or_len (bytes_eq path) ps) (length ps) ≡ true → slice_get ps (position_or_len (bytes_eq path) ps) ≡ Some path
found_at [] path e = absurd (cc)
found_at (p ∷ ps) path e = by (bytes_eq path p) refl e (found_at ps path)
  where
    by : (b : Bool) → bytes_eq path p ≡ b → nat_lt (cond (not b) (1 + position_or_len (bytes_eq path) ps) 0) (suc (length ps)) ≡ true
        → (nat_lt (position_or_len (bytes_eq path) ps) (length ps) ≡ true → slice_get ps (position_or_len (bytes_eq path) ps) ≡ Some path)
        → slice_get (p ∷ ps) (cond (not b) (1 + position_or_len (bytes_eq path) ps) 0) ≡ Some path
    by true same e rest = let is : path ≡ p = (bytes_eq-Decides path p).0 same in rw is refl
    by false other e rest =
        ap (slice_get (p ∷ ps)) (one-add (position_or_len (bytes_eq path) ps)) ∙ rest (sym (ltb-suc (position_or_len (bytes_eq path) ps) (length ps)) ∙ e)

pub record IsInterned (old : List (List ℕ)) (path : List ℕ) (id : ℕ) (new : List (List ℕ)) : Type 0 where
  pub paths : new ≡ with_path old path
  pub at : slice_get new id ≡ Some path

pub interned : (old : List (List ℕ)) (path : List ℕ) (id : ℕ) (new : List (List ℕ)) → Interns old path id new → IsInterned old path id new
interned old path id new interns = by (nat_lt (position_or_len (bytes_eq path) old) (length old)) refl
  where
    by : (b : Bool) → nat_lt (position_or_len (bytes_eq path) old) (length old) ≡ b → IsInterned old path id new
    by true e =
        let found : number_of old path ≡ Some (position_or_len (bytes_eq path) old) = rw e refl in
        let any : list_any (bytes_eq path) old ≡ true = list_any_is (bytes_eq path) old ∙ e in
        let parts : (id ≡ position_or_len (bytes_eq path) old) × (new ≡ old) = rw found at interns in
        record { paths = parts.1 ∙ sym (rw any refl); at = rw (parts.0, parts.1) (found_at old path e) }
    by false e =
        let none : number_of old path ≡ None = rw e refl in
        let any : list_any (bytes_eq path) old ≡ false = list_any_is (bytes_eq path) old ∙ e in
        let parts : (id ≡ length old) × (new ≡ old ++ path ∷ []) = rw none at interns in
        record { paths = parts.1 ∙ sym (rw any refl); at = rw (parts.0, parts.1) (last_of old path) }

-- a path that has a number
pub found_path : {E : Type 0} → (found : Option NodeId) (e : E) (paths : List (List ℕ)) (path : List ℕ) → option_map (λ id. id.0) found ≡ number_of paths path
    → IfOk (ok_or found e) (λ id. IsInterned paths path id.0 paths)
found_path None e paths path is = tt
found_path (Some id) e paths path is = interned paths path id.0 paths (rw (sym is) (refl, refl))

pub found_paths : {E : Type 0} → (found : Option NodeId) (e : E) (paths : List (List ℕ)) (path : List ℕ) → option_map (λ id. id.0) found ≡ number_of paths path
    → OnOk (ok_or found e) (paths ≡ with_path paths path)
found_paths None e paths path is = tt
found_paths (Some id) e paths path is = (found_path (Some id) e paths path is).paths

pub found_there : {E : Type 0} → (found : Option NodeId) (e : E) (paths : List (List ℕ)) (path : List ℕ) → option_map (λ id. id.0) found ≡ number_of paths path
    → IfOk (ok_or found e) (λ id. slice_get paths id.0 ≡ Some path)
found_there None e paths path is = tt
found_there (Some id) e paths path is = (found_path (Some id) e paths path is).at

-- a path without a number isn't among the paths
pub unnumbered : (paths : List (List ℕ)) (path : List ℕ) → number_of paths path ≡ None → list_any (bytes_eq path) paths ≡ false
unnumbered paths path none = list_any_is (bytes_eq path) paths ∙ by (nat_lt (position_or_len (bytes_eq path) paths) (length paths)) refl
  where
    by : (b : Bool) → nat_lt (position_or_len (bytes_eq path) paths) (length paths) ≡ b → b ≡ false
    by true e = let found : number_of paths path ≡ Some (position_or_len (bytes_eq path) paths) = rw e refl in absurd (cc)
    by false e = refl

differ : (x y : List ℕ) → bytes_eq y x ≡ false → bytes_eq x y ≡ false
differ x y h = by (bytes_eq x y) refl
  where
    by : (b : Bool) → bytes_eq x y ≡ b → b ≡ false
    by false e = refl
    by true e =
        let same : x ≡ y = (bytes_eq-Decides x y).0 e in
        absurd (true≢false (sym ((bytes_eq-Decides y y).1 refl) ∙ (rw same at h)))

-- among paths that differ each has its own place
pub own_number : (paths : List (List ℕ)) (i : ℕ) (path : List ℕ) → IsDistinct bytes_eq paths → i < length paths → path ≡ get_or paths i path → number_of paths path ≡ Some i
own_number paths i path distinct within at =
    let first : position_or_len (bytes_eq path) paths ≡ i =
    position_or_len_is (bytes_eq path) paths i path (omega arith)
    (λ k l. differ path (get_or paths k path) (rw (sym at) at (apart_from_distinct bytes_eq paths k i path distinct l within)))
    (λ l. (bytes_eq-Decides path (get_or paths i path)).1 at) in
    rw (first, lt-ltb i (length paths) within) refl

pub own_place : (paths : List (List ℕ)) → IsDistinct bytes_eq paths → AreApart paths
own_place paths distinct number path at =
    let within = slice_get_within paths number path at in
    let same : Some path ≡ Some (get_or paths number path) = sym at ∙ slice_get-get_or paths number path within in
    own_number paths number path distinct within cc
