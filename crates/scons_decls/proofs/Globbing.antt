-- Paths that are found one after another, each noted once.
use Rattle.std.proofs.Common.{arith, ◌≡◌, ◌<◌, ◌≤◌, ◌+◌, ◌∙◌, ap, sym, subst, refl, ℕ, zero, suc, List, [], ◌∷◌, ◌++◌, length, drop, get_or, Bool, true, false, ◌||◌, Option, Some, None}
use Rattle.std.specs.Prelude.{if◌then◌else◌, Result, Ok, Err, IfOk}
use Rattle.std.specs.List.{list_any, filter_map, cons_option}
use Rattle.std.specs.Option.{option_to_list}
use Rattle.std.specs.Str.{bytes_eq}
use Rattle.std.proofs.lemmas.List.Folds.{list_any-append}
use Rattle.std.proofs.lemmas.Slice.Eq.{bytes_eq-Decides}
use Rattle.indexmap.specs.IndexSet.{insert_key, insert_all}
use Rattle.scons_decls.proofs.Matching.{nothing_behind}
use Rattle.scons_decls.proofs.Noted.{or_none, or_assoc, or_twice}
use Rattle.scons_decls.proofs.Stepping.{drop_next}

abbrev Texts : Type 0
Texts = List (List ℕ)

any_noted : (q x : List ℕ) (texts : Texts) → list_any (bytes_eq q) (insert_key bytes_eq texts x) ≡ (list_any (bytes_eq q) texts || bytes_eq q x)
any_noted q x texts = by (list_any (bytes_eq x) texts) refl
  where
    by : (b : Bool) → list_any (bytes_eq x) texts ≡ b → list_any (bytes_eq q) (if b then texts else texts ++ x ∷ []) ≡ (list_any (bytes_eq q) texts || bytes_eq q x)
    by true e = sym (or_twice (list_any (bytes_eq q) texts) (bytes_eq q x) (λ h. subst (λ t. list_any (bytes_eq t) texts ≡ true) (sym ((bytes_eq-Decides q x).0 h)) e))
    by false e = list_any-append (bytes_eq q) texts (x ∷ []) ∙ ap (λ b. list_any (bytes_eq q) texts || b) (or_none (bytes_eq q x) false refl)

any_of_all : (q : List ℕ) (xs texts : Texts) → list_any (bytes_eq q) (insert_all bytes_eq texts xs) ≡ (list_any (bytes_eq q) texts || list_any (bytes_eq q) xs)
any_of_all q [] texts = sym (or_none (list_any (bytes_eq q) texts) false refl)
any_of_all q (x ∷ xs) texts =
    any_of_all q xs (insert_key bytes_eq texts x) ∙ ap (λ b. b || list_any (bytes_eq q) xs) (any_noted q x texts)
    ∙ or_assoc (list_any (bytes_eq q) texts) (bytes_eq q x) (list_any (bytes_eq q) xs)

-- what is noted of a list is what stands in it
pub any_noted_of : (q : List ℕ) (xs : Texts) → list_any (bytes_eq q) (insert_all bytes_eq [] xs) ≡ list_any (bytes_eq q) xs
any_noted_of q xs = any_of_all q xs []

module _ (f : List ℕ → Option (List ℕ)) where
  -- one path more
  pub found_next : (more old : Texts) (xs : Texts) (i : ℕ) (x : List ℕ) (found : Option (List ℕ)) (all : Texts) → i < length xs → x ≡ get_or xs i x → found ≡ f x
      → more ≡ insert_all bytes_eq old (option_to_list found) → insert_all bytes_eq old (filter_map f (drop i xs)) ≡ all → insert_all bytes_eq more (filter_map f (drop (i + 1) xs)) ≡ all
  found_next more old xs i x found all l at is e left =
      let rest = filter_map f (drop (i + 1) xs) in
      let d : drop i xs ≡ x ∷ drop (i + 1) xs = drop_next xs i x l ∙ ap (λ y. y ∷ drop (i + 1) xs) (sym at) in
      let one : insert_all bytes_eq old (filter_map f (x ∷ drop (i + 1) xs)) ≡ all = rw d at left in
      ap (λ t. insert_all bytes_eq t rest) (e ∙ ap (λ o. insert_all bytes_eq old (option_to_list o)) is) ∙ both (f x) rest ∙ one
    where
      both : (o : Option (List ℕ)) (rest : Texts) → insert_all bytes_eq (insert_all bytes_eq old (option_to_list o)) rest ≡ insert_all bytes_eq old (cons_option o rest)
      both None rest = refl
      both (Some y) rest = refl

  -- no path is left
  pub found_all : (texts xs : Texts) (i : ℕ) (all : Texts) → length xs ≤ i → insert_all bytes_eq texts (filter_map f (drop i xs)) ≡ all → texts ≡ all
  found_all texts xs i all l left = rw (nothing_behind xs i l) at left

  both_found : (xs ys texts : Texts) → insert_all bytes_eq texts (filter_map f (xs ++ ys)) ≡ insert_all bytes_eq (insert_all bytes_eq texts (filter_map f xs)) (filter_map f ys)
  both_found [] ys texts = refl
  both_found (x ∷ xs) ys texts = by (f x) (λ more. both_found xs ys more)
    where
      by : (o : Option (List ℕ)) → ((more : Texts) → insert_all bytes_eq more (filter_map f (xs ++ ys)) ≡ insert_all bytes_eq (insert_all bytes_eq more (filter_map f xs)) (filter_map f ys))
          → insert_all bytes_eq texts (cons_option o (filter_map f (xs ++ ys))) ≡ insert_all bytes_eq (insert_all bytes_eq texts (cons_option o (filter_map f xs))) (filter_map f ys)
      by None rest = rest texts
      by (Some y) rest = rest (insert_key bytes_eq texts y)

  -- the paths of three lists
  pub found_thrice : (a b : Texts) (xs ys zs all : Texts) → a ≡ insert_all bytes_eq [] (filter_map f xs) → b ≡ insert_all bytes_eq a (filter_map f ys) → all ≡ insert_all bytes_eq b (filter_map f zs)
      → all ≡ insert_all bytes_eq [] (filter_map f (xs ++ (ys ++ zs)))
  found_thrice a b xs ys zs all ea eb ec =
      ec ∙ ap (λ t. insert_all bytes_eq t (filter_map f zs)) (eb ∙ ap (λ t. insert_all bytes_eq t (filter_map f ys)) ea)
      ∙ sym (both_found xs (ys ++ zs) [] ∙ both_found ys zs (insert_all bytes_eq [] (filter_map f xs)))

-- what follows of a result that isn't an error
pub if_ok : {T E : Type 0} (P Q : T → Type 0) (r : Result T E) → IfOk r P → ((x : T) → P x → Q x) → IfOk r Q
if_ok P Q (Ok x) p f = f x p
if_ok P Q (Err e) p f = tt
