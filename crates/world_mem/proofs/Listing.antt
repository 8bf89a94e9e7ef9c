-- The files directly in a directory, from the entries of a map of slots.
use Rattle.std.proofs.Common.{◌≡◌, ◌≢◌, ◌∙◌, ◌<◌, ◌↔◌, sym, refl, ap, cond, subst, ℕ, suc, zero, List, [], ◌∷◌, ◌++◌, Bool, true, false, Option, Some, None, IsSome, is_some, inl, inr, arith, Contains}
use Rattle.std.specs.BTreeMap.{is_at}
use Rattle.std.specs.Cmp.Lexicographic.{slice_cmp, bytes_decides}
use Rattle.std.specs.Global.{Vec}
use Rattle.std.specs.List.{All, AllPairs, AllByRecursion}
use Rattle.std.specs.List.Sorted.{IsStrictlySortedBy}
use Rattle.std.specs.Map.{keys_of, lookup}
use Rattle.std.specs.Option.{option_map}
use Rattle.std.specs.Str.{bytes_eq}
use Rattle.std.specs.Ordering.{nat_cmp, is_eq}
use Rattle.std.specs.declared.cmp.Ordering.TheVariants.{Less}
use Rattle.std.proofs.lemmas.Bool.{cases_Bool}
use Rattle.std.proofs.lemmas.List.Elements.{Contains-get_or, Contains-append_cases, Contains-append_left}
use Rattle.std.proofs.lemmas.List.Kept.{AllPairs-cons}
use Rattle.std.proofs.lemmas.Map.Keys.{sorted_head, sorted_tail}
use Rattle.std.proofs.lemmas.Map.Text.{is_eq-slice_cmp}
use Rattle.scons_base.specs.Parts.{dir_of}
use Rattle.world_mem.specs.InSlots.{slot_at, file_of, content_of, name_in}
use Rattle.world_mem.specs.declared.slots.File.{File}
use Rattle.world_mem.specs.declared.slots.Slot.{Slot}
use Rattle.world_mem.specs.declared.slots.Slots.{Slots}
use Rattle.world_mem.proofs.Directories.{key_cmp}
use Rattle.world_mem.proofs.Marks.{in_front}

abbrev pub Entry : Type 0
Entry = Vec ℕ × Slot

-- the paths of the files of these entries that lie directly in a directory
abbrev pub names_in : List ℕ → List Entry → List (List ℕ)
names_in dir [] = []
names_in dir (e ∷ es) = name_in dir (file_of (Some e.1)) ++ names_in dir es

-- each file has the key of its entry as its name
abbrev pub AreKeyed : List Entry → Type 0
AreKeyed es = (e : Entry) (file : File) → Contains es e → file_of (Some e.1) ≡ Some file → file.name ≡ e.0.items

pub later : {X : Type 0} (x y : X) (xs : List X) → Contains xs y → Contains (x ∷ xs) y
later x y xs h = (suc h.0, omega (arith, h.1), h.2)

-- a path is that of a file, which lies directly in a directory
record IsNameIn (dir : List ℕ) (o : Option File) (path : List ℕ) : Type 0 where
  file : File
  is : o ≡ Some file
  name : file.name ≡ path
  lies : dir_of path ≡ dir

name_from : (dir : List ℕ) (o : Option File) (path : List ℕ) → Contains (name_in dir o) path → IsNameIn dir o path
name_from dir None path h = absurd (let lt : h.0 < 0 = h.1 in omega (arith, lt))
name_from dir (Some file) path h = elim (cases_Bool (bytes_eq (dir_of file.name) dir)) [
  | inl y ↦
      let one : Contains (file.name ∷ []) path = subst (λ b. Contains (cond b (file.name ∷ []) []) path) y h in
      let is = only file.name path one in
      record { file = file; is = refl; name = is; lies = ap dir_of (sym is) ∙ (bytes_decides (dir_of file.name) dir).0 y }
  | inr n ↦ let none : Contains [] path = subst (λ b. Contains (cond b (file.name ∷ []) []) path) n h in absurd (let lt : none.0 < 0 = none.1 in omega (arith, lt))
]
  where
    only : (x y : List ℕ) → Contains (x ∷ []) y → x ≡ y
    only x y (zero, lt, at) = at
    only x y (suc k, lt, at) = absurd (omega (arith, lt))

name_of : (dir : List ℕ) (o : Option File) (file : File) → o ≡ Some file → dir_of file.name ≡ dir → Contains (name_in dir o) file.name
name_of dir o file is here =
    let y : bytes_eq (dir_of file.name) dir ≡ true = (bytes_decides (dir_of file.name) dir).1 here in
    subst (λ (o : Option File). Contains (name_in dir o) file.name) (sym is) (subst (λ b. Contains (cond b (file.name ∷ []) []) file.name) (sym y) (in_front file.name [] file.name refl))

names_from : (dir : List ℕ) (es : List Entry) (path : List ℕ) → Contains (names_in dir es) path → (e : Entry) × Contains es e × IsNameIn dir (file_of (Some e.1)) path
names_from dir [] path h = absurd (let lt : h.0 < 0 = h.1 in omega (arith, lt))
names_from dir (e ∷ es) path h = elim (Contains-append_cases (name_in dir (file_of (Some e.1))) (names_in dir es) path h) [
  | inl here ↦ (e, (0, omega arith, refl), name_from dir (file_of (Some e.1)) path here)
  | inr there ↦ let found = names_from dir es path there in (found.0, later e found.0 es found.1, found.2)
]

names_of : (dir : List ℕ) (es : List Entry) (e : Entry) (file : File) → Contains es e → file_of (Some e.1) ≡ Some file → dir_of file.name ≡ dir → Contains (names_in dir es) file.name
names_of dir [] e file h is here = absurd (let lt : h.0 < 0 = h.1 in omega (arith, lt))
names_of dir (x ∷ xs) e file (zero, lt, at) is here =
    Contains-append_left (name_in dir (file_of (Some x.1))) (names_in dir xs) file.name
    (name_of dir (file_of (Some x.1)) file (ap (λ (e : Entry). file_of (Some e.1)) at ∙ is) here)
names_of dir (x ∷ xs) e file (suc k, lt, at) is here =
    append_right (name_in dir (file_of (Some x.1))) (names_in dir xs) file.name (names_of dir xs e file (k, omega (arith, lt), at) is here)
  where
    append_right : (xs ys : List (List ℕ)) (y : List ℕ) → Contains ys y → Contains (xs ++ ys) y
    append_right [] ys y h = h
    append_right (x ∷ xs) ys y h = later x y (xs ++ ys) (append_right xs ys y h)

pub less_of : (first : Vec ℕ) (es : List Entry) (e : Entry) → AllByRecursion (λ k. key_cmp first k ≡ Less) (keys_of es) → Contains es e → key_cmp first e.0 ≡ Less
less_of first [] e all h = absurd (let lt : h.0 < 0 = h.1 in omega (arith, lt))
less_of first (x ∷ xs) e all (zero, lt, at) = subst (λ (e : Entry). key_cmp first e.0 ≡ Less) at all.0
less_of first (x ∷ xs) e all (suc k, lt, at) = less_of first xs e all.1 (k, omega (arith, lt), at)

-- a key that is before another is another
less_apart : (one other : Vec ℕ) → key_cmp one other ≡ Less → one.items ≡ other.items → ⊥
less_apart one other less same =
    let x : false ≡ true = ap is_eq (sym less) ∙ is_eq-slice_cmp one.items other.items ∙ (bytes_decides one.items other.items).1 same in cc x

one_before : (dir : List ℕ) (o : Option File) (names : List (List ℕ)) → ((file : File) → o ≡ Some file → (other : List ℕ) → Contains names other → file.name ≢ other) → AllPairs (λ one other. one ≢ other) names → AllPairs (λ one other. one ≢ other) (name_in dir o ++ names)
one_before dir None names apart rest = rest
one_before dir (Some file) names apart rest = elim (cases_Bool (bytes_eq (dir_of file.name) dir)) [
  | inl y ↦ subst (λ b. AllPairs (λ one other. one ≢ other) (cond b (file.name ∷ []) [] ++ names)) (sym y)
      (AllPairs-cons (λ one other. one ≢ other) file.name names (λ k d lt. apart file refl _ (Contains-get_or names k d lt)) rest)
  | inr n ↦ subst (λ b. AllPairs (λ one other. one ≢ other) (cond b (file.name ∷ []) [] ++ names)) (sym n) rest
]

-- each name once
pub names_once : (dir : List ℕ) (es : List Entry) → IsStrictlySortedBy key_cmp (keys_of es) → AreKeyed es → AllPairs (λ one other. one ≢ other) (names_in dir es)
names_once dir [] sorted keyed = λ i j d lt fits. absurd (let none : j < 0 = fits in omega (arith, none))
names_once dir (e ∷ es) sorted keyed =
    one_before dir (file_of (Some e.1)) (names_in dir es)
    (λ file is other there same.
    let found = names_from dir es other there in
    let here : file.name ≡ e.0.items = keyed e file (0, omega arith, refl) is in
    let keys : e.0.items ≡ found.0.0.items = sym here ∙ same ∙ sym found.2.name ∙ keyed found.0 found.2.file (later e found.0 es found.1) found.2.is in
    less_apart e.0 found.0.0 (less_of e.0 es found.0 (sorted_head key_cmp e.0 (keys_of es) sorted) found.1) keys)
    (names_once dir es (sorted_tail key_cmp e.0 (keys_of es) sorted) (λ x file h is. keyed x file (later e x es h) is))

pub lookup_in : (test : Vec ℕ → Bool) (es : List Entry) (slot : Slot) → lookup test es ≡ Some slot → (e : Entry) × Contains es e × (e.1 ≡ slot)
lookup_in test [] slot h = absurd (let x : None ≡ Some slot = h in cc x)
lookup_in test (e ∷ es) slot h = elim (cases_Bool (test e.0)) [
  | inl y ↦ (e, (0, omega arith, refl), let x : Some e.1 ≡ Some slot = sym (ap (λ b. cond b (Some e.1) (lookup test es)) y) ∙ h in cc x)
  | inr n ↦ let found = lookup_in test es slot (sym (ap (λ b. cond b (Some e.1) (lookup test es)) n) ∙ h) in (found.0, later e found.0 es found.1, found.2)
]

file_some : (o : Option Slot) → is_some (content_of o) ≡ true → (slot : Slot) × (file : File) × (o ≡ Some slot) × (file_of (Some slot) ≡ Some file)
file_some None h = absurd (let e : false ≡ true = h in cc e)
file_some (Some slot) h = let file = some_file (file_of (Some slot)) h in (slot, file.0, refl, file.1)
  where
    some_file : (o : Option File) → is_some (option_map (λ (file : File). file.bytes) o) ≡ true → (file : File) × (o ≡ Some file)
    some_file None h = absurd (let e : false ≡ true = h in cc e)
    some_file (Some file) h = (file, refl)

-- the files of a map whose names are its keys
module _ (slots : Slots) (named : (path : List ℕ) (file : File) → file_of (slot_at slots path) ≡ Some file → file.name ≡ path) (found : All (λ (e : Entry). slot_at slots e.0.items ≡ Some e.1) slots.slots.entries) where
  pub found_at : (e : Entry) → Contains slots.slots.entries e → slot_at slots e.0.items ≡ Some e.1
  found_at e h = subst (λ (e : Entry). slot_at slots e.0.items ≡ Some e.1) h.2 (found h.0 e h.1)

  pub keyed : AreKeyed slots.slots.entries
  keyed e file h is = named e.0.items file (ap file_of (found_at e h) ∙ is)

  pub names_each : (dir path : List ℕ) → Contains (names_in dir slots.slots.entries) path ↔ (IsSome (content_of (slot_at slots path)) × (dir_of path ≡ dir))
  names_each dir path = (
    λ h.
        let found = names_from dir slots.slots.entries path h in
        let key : found.0.0.items ≡ path = sym (keyed found.0 found.2.file found.1 found.2.is) ∙ found.2.name in
        let there : file_of (slot_at slots path) ≡ Some found.2.file = ap (λ p. file_of (slot_at slots p)) (sym key) ∙ ap file_of (found_at found.0 found.1) ∙ found.2.is in
        (ap (λ (o : Option File). is_some (option_map (λ (file : File). file.bytes) o)) there, found.2.lies),
    λ h.
        let some = file_some (slot_at slots path) h.0 in
        let entry = lookup_in (is_at (λ k. slice_cmp nat_cmp path k.items)) slots.slots.entries some.0 some.2 in
        let name : some.1.name ≡ path = named path some.1 (ap file_of some.2 ∙ some.3) in
        subst (λ (p : List ℕ). Contains (names_in dir slots.slots.entries) p) name
        (names_of dir slots.slots.entries entry.0 some.1 entry.1 (ap (λ (slot : Slot). file_of (Some slot)) entry.2 ∙ some.3) (ap dir_of name ∙ h.1)),
  )
