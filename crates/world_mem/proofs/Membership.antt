-- What is in a list, in its images and in what is left of it.
use Rattle.std.proofs.Common.{◌≡◌, ◌≢◌, ◌∙◌, ◌⊎◌, ◌<◌, ◌≤◌, ◌+◌, sym, refl, ℕ, suc, zero, List, [], ◌∷◌, ◌++◌, ap, map, take, drop, length, get_or, inl, inr, arith, Contains, drop-cons, subst}
use Rattle.std.specs.List.{remove}
use Rattle.std.proofs.lemmas.List.{get_or-map, length-map, take-append-drop}
use Rattle.std.proofs.lemmas.List.Elements.{Contains-push_cases}
use Rattle.std.proofs.lemmas.List.Edits.{length-remove, get_or-remove_below, get_or-remove_above}

pub below_or_not : (k i : ℕ) → (k < i) ⊎ (i ≤ k)
below_or_not k zero = inr (omega arith)
below_or_not zero (suc i) = inl (omega arith)
below_or_not (suc k) (suc i) = elim (below_or_not k i) [ inl h ↦ inl (omega arith) | inr h ↦ inr (omega arith) ]

pub contains_map : {X Y : Type 0} (f : X → Y) (xs : List X) (x : X) → Contains xs x → Contains (map f xs) (f x)
contains_map f xs x h = (h.0, rw length-map h.1, get_or-map f xs h.0 x (f x) h.1 ∙ ap f h.2)

-- what is left after a removal stands at another place of the list
pub other_place : {X : Type 0} (xs : List X) (i : ℕ) (x : X) → i < length xs → Contains (remove xs i) x → (k : ℕ) × (k < length xs) × (k ≢ i) × (get_or xs k x ≡ x)
other_place xs i x lt h =
    let len : length (remove xs i) + 1 ≡ length xs = length-remove xs i lt in
    let fits : h.0 < length (remove xs i) = h.1 in
    elim (below_or_not h.0 i) [
      | inl below ↦ (h.0, omega (arith, len, fits), λ e. absurd (omega (arith, e, below)), sym (get_or-remove_below xs i x h.0 below lt) ∙ h.2)
      | inr above ↦ (h.0 + 1, omega (arith, len, fits), λ e. absurd (omega (arith, e, above)), sym (get_or-remove_above xs i x h.0 above lt) ∙ h.2)
    ]

pub still_in : {X : Type 0} (xs : List X) (i : ℕ) (x : X) → i < length xs → Contains (remove xs i) x → Contains xs x
still_in xs i x lt h = let p = other_place xs i x lt h in (p.0, p.1, p.3)

-- a list round one of its places
pub parted : {X : Type 0} (xs : List X) (i : ℕ) (x : X) → i < length xs → x ≡ get_or xs i x → xs ≡ take i xs ++ x ∷ drop (suc i) xs
parted xs i x lt is = sym (take-append-drop i xs) ∙ ap (λ rest. take i xs ++ rest) (drop-cons xs i x lt ∙ ap (λ y. y ∷ drop (suc i) xs) (sym is))

-- what holds of each element and of one more
pub push_all : {X : Type 0} (P : X → Type 0) (xs : List X) (x : X) → ((y : X) → Contains xs y → P y) → P x → (y : X) → Contains (xs ++ x ∷ []) y → P y
push_all P xs x each here y h = elim (Contains-push_cases xs x y h) [ inl before ↦ each y before | inr e ↦ subst P e here ]

pub map_same : {X Y : Type 0} (f g : X → Y) (xs : List X) → ((x : X) → f x ≡ g x) → map f xs ≡ map g xs
map_same f g [] h = refl
map_same f g (x ∷ xs) h = ap (λ y. y ∷ map f xs) (h x) ∙ ap (λ ys. g x ∷ ys) (map_same f g xs h)

pub names_of_pairs : {Y : Type 0} (f : List ℕ → Y) (xs : List (List ℕ)) → map (λ (e : List ℕ × Y). e.0) (map (λ x. (x, f x)) xs) ≡ xs
names_of_pairs f [] = refl
names_of_pairs f (x ∷ xs) = ap (λ ys. x ∷ ys) (names_of_pairs f xs)

pub same_at : {X : Type 0} (xs : List X) (k : ℕ) (d e : X) → k < length xs → get_or xs k d ≡ get_or xs k e
same_at [] k d e lt = absurd (omega arith)
same_at (x ∷ xs) zero d e lt = refl
same_at (x ∷ xs) (suc k) d e lt = same_at xs k d e (omega arith)

pub contains_unmap : {X Y : Type 0} (f : X → Y) (xs : List X) (y : Y) → Contains (map f xs) y → (x : X) × Contains xs x × (f x ≡ y)
contains_unmap f [] y h = absurd (omega (arith, h.1))
contains_unmap f (x ∷ xs) y (zero, lt, at) = (x, (0, omega arith, refl), at)
contains_unmap f (x ∷ xs) y (suc k, lt, at) = let later = contains_unmap f xs y (k, omega (arith, lt), at) in (later.0, (suc later.1.0, omega (arith, later.1.1), later.1.2), later.2)

past_removed : {X : Type 0} (xs : List X) (i : ℕ) (x : X) → i < length xs → (k : ℕ) → k < length xs → get_or xs k x ≡ x → i ≤ k → (x ≡ get_or xs i x) ⊎ Contains (remove xs i) x
past_removed xs i x lt zero fits at late = let same : zero ≡ i = omega (arith, late) in inl (sym at ∙ ap (λ n. get_or xs n x) same)
past_removed xs i x lt (suc k) fits at late = elim (below_or_not k i) [
  | inl below ↦ let same : suc k ≡ i = omega (arith, late, below) in inl (sym at ∙ ap (λ n. get_or xs n x) same)
  | inr above ↦
      let len : length (remove xs i) + 1 ≡ length xs = length-remove xs i lt in
      let next : k + 1 ≡ suc k = omega arith in
      inr (k, omega (arith, len, fits), get_or-remove_above xs i x k above lt ∙ ap (λ n. get_or xs n x) next ∙ at)
]

-- an element is the one removed, or is left
pub remove_cases : {X : Type 0} (xs : List X) (i : ℕ) (x : X) → i < length xs → Contains xs x → (x ≡ get_or xs i x) ⊎ Contains (remove xs i) x
remove_cases xs i x lt h =
    let len : length (remove xs i) + 1 ≡ length xs = length-remove xs i lt in
    elim (below_or_not h.0 i) [
      | inl below ↦ inr (h.0, omega (arith, len, lt, below), get_or-remove_below xs i x h.0 below lt ∙ h.2)
      | inr above ↦ past_removed xs i x lt h.0 h.1 h.2 above
    ]
