-- The files of a map of slots, in the order of their paths.
use Rattle.std.proofs.Common.{◌≡◌, ◌∙◌, ◌<◌, ◌↔◌, sym, refl, ap, subst, ℕ, suc, zero, List, [], ◌∷◌, ◌++◌, Option, Some, None, inl, inr, arith, Contains}
use Rattle.std.specs.BTreeMap.{is_at}
use Rattle.std.specs.Cmp.Lexicographic.{slice_cmp}
use Rattle.std.specs.List.{All, AllPairs}
use Rattle.std.specs.List.Sorted.{IsStrictlySortedBy}
use Rattle.std.specs.Map.{keys_of}
use Rattle.std.specs.Option.{option_map}
use Rattle.std.specs.Ordering.{nat_cmp}
use Rattle.std.specs.declared.cmp.Ordering.TheVariants.{Less}
use Rattle.std.proofs.lemmas.List.Elements.{Contains-get_or, Contains-append_cases, Contains-append_left, Contains-append_right}
use Rattle.std.proofs.lemmas.List.Kept.{AllPairs-cons}
use Rattle.std.proofs.lemmas.Map.Keys.{sorted_head, sorted_tail}
use Rattle.world_mem.specs.Files.{AreFiles, file_in}
use Rattle.world_mem.specs.InSlots.{slot_at, file_of, content_of}
use Rattle.world_mem.specs.declared.slots.File.{File}
use Rattle.world_mem.specs.declared.slots.Slot.{Slot}
use Rattle.world_mem.specs.declared.slots.Slots.{Slots}
use Rattle.world_mem.proofs.Directories.{key_cmp}
use Rattle.world_mem.proofs.Listing.{Entry, AreKeyed, later, less_of, lookup_in, found_at, keyed}

-- the files of these entries
abbrev pub files_in : List Entry → List (List ℕ × List ℕ)
files_in [] = []
files_in (e ∷ es) = file_in (file_of (Some e.1)) ++ files_in es

-- a pair is that of a file
record IsFileIn (o : Option File) (pair : List ℕ × List ℕ) : Type 0 where
  file : File
  is : o ≡ Some file
  same : (file.name, file.bytes) ≡ pair

file_from : (o : Option File) (pair : List ℕ × List ℕ) → Contains (file_in o) pair → IsFileIn o pair
file_from None pair h = absurd (let lt : h.0 < 0 = h.1 in omega (arith, lt))
file_from (Some file) pair (zero, lt, at) = record { file = file; is = refl; same = at }
file_from (Some file) pair (suc k, lt, at) = absurd (omega (arith, lt))

files_from : (es : List Entry) (pair : List ℕ × List ℕ) → Contains (files_in es) pair → (e : Entry) × Contains es e × IsFileIn (file_of (Some e.1)) pair
files_from [] pair h = absurd (let lt : h.0 < 0 = h.1 in omega (arith, lt))
files_from (e ∷ es) pair h = elim (Contains-append_cases (file_in (file_of (Some e.1))) (files_in es) pair h) [
  | inl here ↦ (e, (0, omega arith, refl), file_from (file_of (Some e.1)) pair here)
  | inr there ↦ let found = files_from es pair there in (found.0, later e found.0 es found.1, found.2)
]

file_here : (o : Option File) (file : File) → o ≡ Some file → Contains (file_in o) (file.name, file.bytes)
file_here o file is = subst (λ (o : Option File). Contains (file_in o) (file.name, file.bytes)) (sym is) (0, omega arith, refl)

files_of : (es : List Entry) (e : Entry) (file : File) → Contains es e → file_of (Some e.1) ≡ Some file → Contains (files_in es) (file.name, file.bytes)
files_of [] e file h is = absurd (let lt : h.0 < 0 = h.1 in omega (arith, lt))
files_of (x ∷ xs) e file (zero, lt, at) is =
    Contains-append_left (file_in (file_of (Some x.1))) (files_in xs) (file.name, file.bytes)
    (file_here (file_of (Some x.1)) file (ap (λ (e : Entry). file_of (Some e.1)) at ∙ is))
files_of (x ∷ xs) e file (suc k, lt, at) is =
    Contains-append_right (file_in (file_of (Some x.1))) (files_in xs) (file.name, file.bytes) (files_of xs e file (k, omega (arith, lt), at) is)

-- the path of the one is before that of the other
abbrev IsBefore : List ℕ × List ℕ → List ℕ × List ℕ → Type 0
IsBefore one other = slice_cmp nat_cmp one.0 other.0 ≡ Less

one_before : (o : Option File) (files : List (List ℕ × List ℕ)) → ((file : File) → o ≡ Some file → (other : List ℕ × List ℕ) → Contains files other → IsBefore (file.name, file.bytes) other)
    → AllPairs IsBefore files → AllPairs IsBefore (file_in o ++ files)
one_before None files before rest = rest
one_before (Some file) files before rest = AllPairs-cons IsBefore (file.name, file.bytes) files (λ k d lt. before file refl _ (Contains-get_or files k d lt)) rest

files_sorted : (es : List Entry) → IsStrictlySortedBy key_cmp (keys_of es) → AreKeyed es → AllPairs IsBefore (files_in es)
files_sorted [] sorted named = λ i j d lt fits. absurd (let none : j < 0 = fits in omega (arith, none))
files_sorted (e ∷ es) sorted named =
    one_before (file_of (Some e.1)) (files_in es)
    (λ file is other there.
    let found = files_from es other there in
    let here : file.name ≡ e.0.items = named e file (0, omega arith, refl) is in
    let key : found.2.file.name ≡ found.0.0.items = named found.0 found.2.file (later e found.0 es found.1) found.2.is in
    let less : key_cmp e.0 found.0.0 ≡ Less = less_of e.0 es found.0 (sorted_head key_cmp e.0 (keys_of es) sorted) found.1 in
    ap (λ name. slice_cmp nat_cmp name other.0) here
    ∙ ap (λ name. slice_cmp nat_cmp e.0.items name) (sym (ap (λ (p : List ℕ × List ℕ). p.0) found.2.same) ∙ key)
    ∙ less)
    (files_sorted es (sorted_tail key_cmp e.0 (keys_of es) sorted) (λ x file h is. named x file (later e x es h) is))

file_some : (o : Option Slot) (bytes : List ℕ) → content_of o ≡ Some bytes → (slot : Slot) × (file : File) × (o ≡ Some slot) × (file_of (Some slot) ≡ Some file) × (file.bytes ≡ bytes)
file_some None bytes h = absurd (let x : None ≡ Some bytes = h in cc x)
file_some (Some slot) bytes h = let file = some_file (file_of (Some slot)) h in (slot, file.0, refl, file.1, file.2)
  where
    some_file : (o : Option File) → option_map (λ (file : File). file.bytes) o ≡ Some bytes → (file : File) × (o ≡ Some file) × (file.bytes ≡ bytes)
    some_file None h = absurd (let x : None ≡ Some bytes = h in cc x)
    some_file (Some file) h = (file, refl, let x : Some file.bytes ≡ Some bytes = h in cc x)

-- the files of a map whose names are its keys
pub are_files : (slots : Slots) → ((path : List ℕ) (file : File) → file_of (slot_at slots path) ≡ Some file → file.name ≡ path)
    → All (λ (e : Entry). slot_at slots e.0.items ≡ Some e.1) slots.slots.entries → IsStrictlySortedBy key_cmp (keys_of slots.slots.entries)
    → AreFiles (λ path. content_of (slot_at slots path)) (files_in slots.slots.entries)
are_files slots named found sorted = record {
  each = λ path bytes. (
    λ h.
        let from = files_from slots.slots.entries (path, bytes) h in
        let file = from.2.file in
        let name : file.name ≡ path = ap (λ (p : List ℕ × List ℕ). p.0) from.2.same in
        let key : from.0.0.items ≡ path = sym (keyed slots named found from.0 file from.1 from.2.is) ∙ name in
        ap (λ p. content_of (slot_at slots p)) (sym key)
        ∙ ap content_of (found_at slots named found from.0 from.1)
        ∙ ap (λ (o : Option File). option_map (λ (file : File). file.bytes) o) from.2.is
        ∙ ap (λ (p : List ℕ × List ℕ). Some p.1) from.2.same,
    λ h.
        let some = file_some (slot_at slots path) bytes h in
        let entry = lookup_in (is_at (λ k. slice_cmp nat_cmp path k.items)) slots.slots.entries some.0 some.2 in
        let name : some.1.name ≡ path = named path some.1 (ap file_of some.2 ∙ some.3) in
        subst (λ (p : List ℕ × List ℕ). Contains (files_in slots.slots.entries) p) (λ i. (name i, some.4 i))
        (files_of slots.slots.entries entry.0 some.1 entry.1 (ap (λ (slot : Slot). file_of (Some slot)) entry.2 ∙ some.3)),
  );
  sorted = files_sorted slots.slots.entries sorted (keyed slots named found);
}
