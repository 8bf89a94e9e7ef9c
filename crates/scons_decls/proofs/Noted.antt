-- The directories that are noted for targets: those of the targets, and those that these lie in.
use Rattle.std.proofs.Common.{arith, ◌≡◌, ◌≤◌, ◌<◌, ◌∙◌, ap, sym, subst, refl, ℕ, zero, suc, List, [], ◌∷◌, ◌++◌, length, take, drop, Bool, true, false, ◌||◌, String, string_bytes, Option, Some, None, true≢false, ◌⊎◌, inl, inr, min, length-take}
use Rattle.std.specs.Prelude.{if◌then◌else◌, string_eq, not, Result, Ok, Err, OnOk, is_err}
use Rattle.std.specs.List.{list_any}
use Rattle.std.specs.Str.{bytes_eq}
use Rattle.std.proofs.lemmas.Bool.{cases_Bool, or_cases, or_left, or_right, or_parts}
use Rattle.std.proofs.lemmas.List.{take-append-drop, take-append-le, take_all}
use Rattle.std.proofs.lemmas.List.Folds.{list_any-append}
use Rattle.std.proofs.lemmas.Slice.Eq.{bytes_eq-Decides}
use Rattle.indexmap.specs.IndexSet.{insert_key}
use Rattle.scons_base.specs.Parts.{dir_of, is_below, lies_in}
use Rattle.scons_decls.specs.Tables.{Table, value_at, put}
use Rattle.scons_decls.specs.Targets.{Declared, has_below, is_named, AreAbove, AreClosed, NamesAbove, is_end}
use Rattle.scons_decls.proofs.Above.{below_is, end_is, height, dir_lower, dir_filled, lies_further}

pub or_none : (a b : Bool) → b ≡ false → (a || b) ≡ a
or_none true b h = refl
or_none false b h = h

pub or_assoc : (a b c : Bool) → ((a || b) || c) ≡ (a || (b || c))
or_assoc true b c = refl
or_assoc false b c = refl

or_turned : (a b c : Bool) → ((a || b) || c) ≡ ((a || c) || b)
or_turned true b c = refl
or_turned false true true = refl
or_turned false true false = refl
or_turned false false true = refl
or_turned false false false = refl

pub or_twice : (a b : Bool) → (b ≡ true → a ≡ true) → (a || b) ≡ a
or_twice true b f = refl
or_twice false true f = sym (f refl)
or_twice false false f = refl

same_back : (a b : List ℕ) → bytes_eq a b ≡ bytes_eq b a
same_back a b = by (bytes_eq a b) (bytes_eq b a) refl refl
  where
    by : (x y : Bool) → bytes_eq a b ≡ x → bytes_eq b a ≡ y → x ≡ y
    by true y e f = sym ((bytes_eq-Decides b a).1 (sym ((bytes_eq-Decides a b).0 e))) ∙ f
    by false true e f = sym e ∙ (bytes_eq-Decides a b).1 (sym ((bytes_eq-Decides b a).0 f))
    by false false e f = refl

-- the rows of a table with one more name
pub below_put : (made : Declared) (dir : List ℕ) (x : List (List ℕ)) (p : List ℕ) → has_below (put made dir x) p ≡ (has_below made p || lies_in dir p)
below_put [] dir x p = or_none (lies_in dir p) false refl
below_put (row ∷ made) dir x p = by (bytes_eq dir row.0) refl (below_put made dir x p)
  where
    by : (b : Bool) → bytes_eq dir row.0 ≡ b → has_below (put made dir x) p ≡ (has_below made p || lies_in dir p)
        → has_below (if b then (dir, x) ∷ made else row ∷ put made dir x) p ≡ ((lies_in row.0 p || has_below made p) || lies_in dir p)
    by true e rest =
        let same : dir ≡ row.0 = (bytes_eq-Decides dir row.0).0 e in
        rw same (sym (or_twice (lies_in row.0 p || has_below made p) (lies_in row.0 p) (λ h. or_left _ _ h)))
    by false e rest = ap (λ b. lies_in row.0 p || b) rest ∙ sym (or_assoc (lies_in row.0 p) (has_below made p) (lies_in dir p))

-- the rows of a table with another value at a name
pub below_kept : (made : Declared) (dir : List ℕ) (x v : List (List ℕ)) (p : List ℕ) → value_at made dir ≡ Some v → has_below (put made dir x) p ≡ has_below made p
below_kept [] dir x v p there = cc
below_kept (row ∷ made) dir x v p there = by (bytes_eq dir row.0) refl there (below_kept made dir x v p)
  where
    by : (b : Bool) → bytes_eq dir row.0 ≡ b → (if b then Some row.1 else value_at made dir) ≡ Some v → (value_at made dir ≡ Some v → has_below (put made dir x) p ≡ has_below made p)
        → has_below (if b then (dir, x) ∷ made else row ∷ put made dir x) p ≡ (lies_in row.0 p || has_below made p)
    by true e there rest = let same : dir ≡ row.0 = (bytes_eq-Decides dir row.0).0 e in rw same refl
    by false e there rest = ap (λ b. lies_in row.0 p || b) (rest there)

further_at : (row above : List ℕ) (dir : List ℕ) (rest more : Bool) → 0 < length dir → 0 < length above → lies_in dir above ≡ true → (rest ≡ true → more ≡ true) → (lies_in row dir || rest) ≡ true → (lies_in row above || more) ≡ true
further_at row above dir rest more ld la k f h = on (or_cases _ _ h)
  where
    on : (lies_in row dir ≡ true) ⊎ (rest ≡ true) → (lies_in row above || more) ≡ true
    on (inl e) = or_left _ _ (lies_further row dir above ld la e k)
    on (inr e) = or_right _ _ (f e)

any_further : (made : Declared) (dir above : List ℕ) → 0 < length dir → 0 < length above → has_below made dir ≡ true → lies_in dir above ≡ true → has_below made above ≡ true
any_further [] dir above ld la h k = h
any_further (row ∷ made) dir above ld la h k = further_at row.0 above dir (has_below made dir) (has_below made above) ld la k (λ e. any_further made dir above ld la e k) h

module _ {Z : Type 0} where
  above_put : (names : List (String Z)) (made : Declared) (dir : List ℕ) (x : List (List ℕ)) → AreAbove names made → (more : List (String Z)) → NamesAbove names dir more → AreAbove more (put made dir x)
  above_put names made dir x are more above p l = above p l ∙ ap (λ b. b || lies_in dir p) (are p l) ∙ sym (below_put made dir x p)

  -- the targets of a directory that had none
  pub above_new : (names more : List (String Z)) (made made_more : Declared) (dir : List ℕ) (x : List (List ℕ)) → AreAbove names made → NamesAbove names dir more → made_more ≡ put made dir x → AreAbove more made_more
  above_new names more made made_more dir x are above e = subst (AreAbove more) (sym e) (above_put names made dir x are more above)

  -- those of one that had some
  pub above_kept : (names : List (String Z)) (made made_more : Declared) (dir : List ℕ) (x v : List (List ℕ)) → AreAbove names made → value_at made dir ≡ Some v → made_more ≡ put made dir x → AreAbove names made_more
  above_kept names made made_more dir x v are there e = subst (AreAbove names) (sym e) (λ p l. are p l ∙ sym (below_kept made dir x v p there))

  -- with each directory stand those that it lies in
  pub closed : (names : List (String Z)) (made : Declared) → AreAbove names made → AreClosed names
  closed names made are dir above ld la h k = are above la ∙ any_further made dir above ld la (sym (are dir ld) ∙ h) k

  named_more : (names : List (String Z)) (name : String Z) (p : List ℕ) → is_named (insert_key string_eq names name) p ≡ (is_named names p || bytes_eq p (string_bytes name))
  named_more names name p = by (list_any (string_eq name) names) refl
    where
      by : (b : Bool) → list_any (string_eq name) names ≡ b → is_named (if b then names else names ++ name ∷ []) p ≡ (is_named names p || bytes_eq p (string_bytes name))
      by true e = sym (or_twice (is_named names p) (bytes_eq p (string_bytes name)) (λ h. subst (λ x. is_named names x ≡ true) (sym ((bytes_eq-Decides p (string_bytes name)).0 h)) e))
      by false e =
          list_any-append (λ k. bytes_eq p (string_bytes k)) names (name ∷ [])
          ∙ ap (λ b. is_named names p || b) (or_none (bytes_eq p (string_bytes name)) false refl)

  front_more : (before names : List (String Z)) (name : String Z) → take (length before) names ≡ before → take (length before) (insert_key string_eq names name) ≡ before
  front_more before names name h = by (list_any (string_eq name) names)
    where
      by : (b : Bool) → take (length before) (if b then names else names ++ name ∷ []) ≡ before
      by true = h
      by false = take-append-le (length before) names (name ∷ []) (omega (arith, ap length h, length-take (length before) names)) ∙ h

  -- what is noted on the way up from a directory: those before, and those between it and the one that is reached
  pub record Climbed (before names : List (String Z)) (from dir : List ℕ) : Type 0 where
    pub covers : (p : List ℕ) → 0 < length p → (is_named names p || lies_in dir p) ≡ (is_named before p || lies_in from p)
    pub fresh : (p : List ℕ) → is_named names p ≡ true → (is_named before p ≡ true) ⊎ (height dir < height p)
    pub front : take (length before) names ≡ before
    pub filled : 0 < length dir

  pub climb_start : (names : List (String Z)) (dir : List ℕ) → 0 < length dir → Climbed names names dir dir
  climb_start names dir l = record { covers = λ p h. refl; fresh = λ p h. inl h; front = take_all (length names) names (omega arith); filled = l }

  pub climb_front : (before names more : List (String Z)) (from dir : List ℕ) (name : String Z) → Climbed before names from dir → more ≡ insert_key string_eq names name → take (length before) more ≡ before
  climb_front before names more from dir name up e = ap (take (length before)) e ∙ front_more before names name up.front

  pub climb : (before names more : List (String Z)) (from dir next : List ℕ) (name : String Z) → Climbed before names from dir → string_bytes name ≡ dir → more ≡ insert_key string_eq names name
      → is_end dir ≡ false → next ≡ dir_of dir → Climbed before more from next
  climb before names more from dir next name up is e goes n = record { covers = covers; fresh = fresh; front = climb_front before names more from dir name up e; filled = rw n (dir_filled dir) }
    where
      named : (p : List ℕ) → is_named more p ≡ (is_named names p || bytes_eq p dir)
      named p = ap (λ l. is_named l p) e ∙ named_more names name p ∙ ap (λ d. is_named names p || bytes_eq p d) is

      covers : (p : List ℕ) → 0 < length p → (is_named more p || lies_in next p) ≡ (is_named before p || lies_in from p)
      covers p l =
          ap (λ b. b || lies_in next p) (named p) ∙ or_assoc (is_named names p) (bytes_eq p dir) (lies_in next p)
          ∙ ap (λ b. is_named names p || (b || lies_in next p)) (same_back p dir)
          ∙ ap (λ b. is_named names p || (bytes_eq dir p || b)) (ap (λ x. lies_in x p) n ∙ sym (below_is dir p l goes))
          ∙ up.covers p l

      lower : height next < height dir
      lower = rw n (dir_lower dir goes)

      fresh : (p : List ℕ) → is_named more p ≡ true → (is_named before p ≡ true) ⊎ (height next < height p)
      fresh p h = on (or_cases _ _ (sym (named p) ∙ h))
        where
          old : (is_named before p ≡ true) ⊎ (height dir < height p) → (is_named before p ≡ true) ⊎ (height next < height p)
          old (inl b) = inl b
          old (inr l) = inr (omega (arith, lower))

          on : (is_named names p ≡ true) ⊎ (bytes_eq p dir ≡ true) → (is_named before p ≡ true) ⊎ (height next < height p)
          on (inl b) = old (up.fresh p b)
          on (inr s) = inr (subst (λ x. height next < height x) (sym ((bytes_eq-Decides p dir).0 s)) lower)

  -- no directory is above the one that is reached
  pub climbed_end : (before names more : List (String Z)) (from dir : List ℕ) (name : String Z) → Climbed before names from dir → string_bytes name ≡ dir → more ≡ insert_key string_eq names name
      → is_end dir ≡ true → NamesAbove before from more
  climbed_end before names more from dir name up is e at_end p l =
      ap (λ x. is_named x p) e ∙ named_more names name p ∙ ap (λ d. is_named names p || bytes_eq p d) is
      ∙ ap (λ b. is_named names p || b) (same_back p dir ∙ sym (end_is dir p l at_end)) ∙ up.covers p l

  -- the one that is reached was noted before, and so were those that it lies in
  pub climbed_old : (before names more : List (String Z)) (from dir : List ℕ) (name : String Z) → Climbed before names from dir → string_bytes name ≡ dir → more ≡ insert_key string_eq names name
      → AreClosed before → list_any (string_eq name) names ≡ true → NamesAbove before from more
  climbed_old before names more from dir name up is e closed there p l =
      ap (λ x. is_named x p) (e ∙ ap (λ b. if b then names else names ++ name ∷ []) there)
      ∙ sym (or_twice (is_named names p) (lies_in dir p) kept) ∙ up.covers p l
    where
      here : is_named names dir ≡ true
      here = subst (λ d. is_named names d ≡ true) is there

      first : is_named before dir ≡ true
      first = on (up.fresh dir here)
        where
          on : (is_named before dir ≡ true) ⊎ (height dir < height dir) → is_named before dir ≡ true
          on (inl b) = b
          on (inr b) = absurd (omega arith)

      still : is_named before p ≡ true → is_named names p ≡ true
      still h =
          ap (λ x. is_named x p) (sym (take-append-drop (length before) names)) ∙ list_any-append (λ k. bytes_eq p (string_bytes k)) (take (length before) names) (drop (length before) names)
          ∙ or_left _ _ (ap (λ x. is_named x p) up.front ∙ h)

      kept : lies_in dir p ≡ true → is_named names p ≡ true
      kept h = still (closed dir p up.filled l first h)

-- a name that isn't new was there
pub not_added : (added there : Bool) → added ≡ not there → added ≡ false → there ≡ true
not_added added true e n = refl
not_added added false e n = sym n ∙ e

-- what holds of a result that is no error
pub on_no_error : {T E P : Type 0} (r : Result T E) → OnOk r P → is_err r ≡ false → P
on_no_error (Ok x) p e = p
on_no_error (Err x) p e = cc
