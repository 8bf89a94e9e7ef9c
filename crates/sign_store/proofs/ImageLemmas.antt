-- Entries, one after another.
use Rattle.std.proofs.Common.{◌≡◌, ℕ, zero, suc, ◌≤◌, ◌+◌, List, [], length, drop, Option, Some, None, refl, sym, ap, subst, ◌∙◌, arith}
use Rattle.std.specs.Option.{option_map, option_and_then, option_map_or}
use Rattle.std.proofs.lemmas.List.{length-drop, nil_from_length}
use Rattle.deciders.specs.declared.version.Version.{Version}
use Rattle.sign_store.specs.declared.entries.Change.{Change}
use Rattle.sign_store.specs.Tables.{Map}
use Rattle.sign_store.specs.Images.{payload_in, change_in, entry_in, applied, after_entries}

pub bind : {A B : Type 0} (f : A → Option B) (o : Option A) (y : B) → option_and_then f o ≡ Some y → (x : A) × (o ≡ Some x) × (f x ≡ Some y)
bind f None y e = absurd cc
bind f (Some x) y e = (x, refl, e)

pub mapped : (size : ℕ) (o : Option Change) (entry : Change × ℕ) → option_map (λ change. (change, size)) o ≡ Some entry → entry.1 ≡ size
mapped size None entry e = absurd cc
mapped size (Some change) entry e = let is : ◌≡◌ {A = Change × ℕ} (change, size) entry = cc in sym (ap (λ (x : Change × ℕ). x.1) is)

pub entry_size : (version : Version) (bytes : List ℕ) (entry : Change × ℕ) → entry_in version bytes ≡ Some entry → 5 ≤ entry.1
entry_size version bytes entry e =
    let a = bind (λ payload. option_map (λ change. (change, length payload + 5)) (change_in version payload)) (payload_in bytes) entry e in
    let size : entry.1 ≡ length a.0 + 5 = mapped (length a.0 + 5) (change_in version a.0) entry a.2 in
    omega (arith, size)

nothing_in : (version : Version) → entry_in version [] ≡ None
nothing_in version = refl

fuel : (version : Version) (n m : ℕ) (map : Map) (bytes : List ℕ) → length bytes ≤ n → length bytes ≤ m → after_entries version n map bytes ≡ after_entries version m map bytes
unfolding after_entries
fuel version zero zero map bytes a b = refl
fuel version zero (suc m) map bytes a b = rw (nil_from_length bytes (omega arith)) refl
fuel version (suc n) zero map bytes a b = rw (nil_from_length bytes (omega arith)) refl
fuel version (suc n) (suc m) map bytes a b =
    by (entry_in version bytes) (entry_size version bytes) (λ entry some. fuel version n m (applied entry.0 map) (drop entry.1 bytes) (omega (arith, length-drop entry.1 bytes)) (omega (arith, length-drop entry.1 bytes)))
  where
    by : (o : Option (Change × ℕ)) → ((entry : Change × ℕ) → o ≡ Some entry → 5 ≤ entry.1)
        → ((entry : Change × ℕ) → 5 ≤ entry.1 → after_entries version n (applied entry.0 map) (drop entry.1 bytes) ≡ after_entries version m (applied entry.0 map) (drop entry.1 bytes))
        → option_map_or (λ entry. after_entries version n (applied entry.0 map) (drop entry.1 bytes)) o map ≡ option_map_or (λ entry. after_entries version m (applied entry.0 map) (drop entry.1 bytes)) o map
    by None size later = refl
    by (Some entry) size later = later entry (size entry refl)

pub one_entry : (version : Version) (n : ℕ) (map : Map) (bytes : List ℕ) (entry : Change × ℕ) → length bytes ≡ n → entry_in version bytes ≡ Some entry
    → after_entries version n map bytes ≡ after_entries version (length (drop entry.1 bytes)) (applied entry.0 map) (drop entry.1 bytes)
unfolding after_entries
one_entry version zero map bytes entry len e = let none : None ≡ Some entry = sym (ap (entry_in version) (nil_from_length bytes len)) ∙ e in absurd cc
one_entry version (suc n) map bytes entry len e =
    let size = entry_size version bytes entry e in
    rw e (fuel version n (length (drop entry.1 bytes)) (applied entry.0 map) (drop entry.1 bytes) (omega (arith, length-drop entry.1 bytes)) (omega arith))

pub no_entry : (version : Version) (n : ℕ) (map : Map) (bytes : List ℕ) → entry_in version bytes ≡ None → after_entries version n map bytes ≡ map
unfolding after_entries
no_entry version zero map bytes e = refl
no_entry version (suc n) map bytes e = rw e refl

-- the loop over entries goes on, and ends
pub entry_read : (version : Version) (map next all : Map) (bytes rest : List ℕ) (change : Change) (size : ℕ) → entry_in version bytes ≡ Some (change, size) → next ≡ applied change map → rest ≡ drop size bytes
    → after_entries version (length bytes) map bytes ≡ all → after_entries version (length rest) next rest ≡ all
entry_read version map next all bytes rest change size e is left so_far =
    let step = one_entry version (length bytes) map bytes (change, size) refl e in
    subst (λ (r : List ℕ). after_entries version (length r) next r ≡ all) (sym left) (subst (λ (m : Map). after_entries version (length (drop size bytes)) m (drop size bytes) ≡ all) (sym is) (sym step ∙ so_far))

pub entries_read : (version : Version) (map all : Map) (bytes : List ℕ) → entry_in version bytes ≡ None → after_entries version (length bytes) map bytes ≡ all → map ≡ all
entries_read version map all bytes e so_far = sym (no_entry version (length bytes) map bytes e) ∙ so_far
