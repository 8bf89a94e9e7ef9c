-- The records that the banks of a store stand for have only digests that were made by their own function.
use Rattle.std.proofs.Common.{◌≡◌, ℕ, zero, suc, Bool, true, false, cond, eqb, List, [], ◌∷◌, length, drop, Option, Some, None, refl, subst}
use Rattle.std.specs.Prelude.{◌&&◌, IfSome, nat_lt}
use Rattle.std.specs.Option.{option_map, option_and_then, option_map_or}
use Rattle.world_api.specs.Meaning.{Meaning, IsImage}
use Rattle.deciders.specs.Reading.{parts_of, paths_in, record_in}
use Rattle.deciders.specs.Records.{is_valid}
use Rattle.deciders.specs.declared.recorded.Rec.{Rec}
use Rattle.deciders.specs.declared.version.Version.{Version}
use Rattle.deciders.specs.declared.version.Version.TheVariants.{One, Two}
use Rattle.deciders.proofs.Takings.{bind_some, guard_holds}
use Rattle.sign_store.specs.Images.{payload_in, put_in, change_in, entry_in, applied, after_entries, entries_map, body_of}
use Rattle.sign_store.specs.Stores.{IsKept, map_of}
use Rattle.sign_store.specs.Tables.{Map, nothing, is_among, with_each}
use Rattle.sign_store.specs.declared.store.Store.{Store}
use Rattle.sign_store.proofs.EndLemmas.{ends_map}
use Rattle.build_means.specs.Records.{HasOwnDigests}
use Rattle.build_means.proofs.Lists.{none_some, some_same, and_both}
use Rattle.build_means.proofs.Recording.{digests_valid}
use Rattle.build_files.specs.Dueness.{HaveOwnDigests}

-- ---- what is said of the value of an option

if_mapped : {X Y : Type 0} (o : Option X) (P : X → Type 0) (Q : Y → Type 0) (f : X → Y) → ((x : X) → P x → Q (f x)) →
    IfSome o P → IfSome (option_map f o) Q
if_mapped None P Q f each has = tt
if_mapped (Some x) P Q f each has = each x has

if_bound : {X Y : Type 0} (o : Option X) (Q : Y → Type 0) (f : X → Option Y) → ((x : X) → IfSome (f x) Q) →
    IfSome (option_and_then f o) Q
if_bound None Q f each = tt
if_bound (Some x) Q f each = each x

mapped_or : {X Y : Type 0} (o : Option X) (P : X → Type 0) (Q : Y → Type 0) (f : X → Y) (y : Y) → ((x : X) → P x → Q (f x)) →
    IfSome o P → Q y → Q (option_map_or f o y)
mapped_or None P Q f y each has else_so = else_so
mapped_or (Some x) P Q f y each has else_so = each x has

one_of : {X : Type 0} (b : Bool) (x y : X) (P : X → Type 0) → P x → P y → P (cond b x y)
one_of true x y P first second = first
one_of false x y P first second = second

-- ---- a record that is put, and paths whose records are withdrawn

pub put_own_digests : (rec : Rec) (kept : Map) → HasOwnDigests rec → HaveOwnDigests kept →
    HaveOwnDigests (with_each rec.targets (Some rec) kept)
put_own_digests rec kept own have path other e = by (is_among rec.targets path) e
  where
    by : (b : Bool) → cond b (Some rec) (kept path) ≡ Some other → HasOwnDigests other
    by true e = subst (λ (r : Rec). HasOwnDigests r) (some_same e) own
    by false e = have path other e

pub withdraw_own_digests : (paths : List (List ℕ)) (kept : Map) → HaveOwnDigests kept → HaveOwnDigests (with_each paths None kept)
withdraw_own_digests paths kept have path other e = by (is_among paths path) e
  where
    by : (b : Bool) → cond b None (kept path) ≡ Some other → HasOwnDigests other
    by true e = none_some e
    by false e = have path other e

-- ---- what is read

-- only a valid record is read, in either version
pub read_own_digests : (version : Version) (bytes : List ℕ) → IfSome (record_in version bytes) HasOwnDigests
unfolding record_in
read_own_digests version bytes = by (record_in version bytes) (λ rec e. own rec e)
  where
    by : (o : Option Rec) → ((rec : Rec) → o ≡ Some rec → HasOwnDigests rec) → IfSome o HasOwnDigests
    by None each = tt
    by (Some rec) each = each rec refl

    own : (rec : Rec) → record_in version bytes ≡ Some rec → HasOwnDigests rec
    own rec e =
        let found =
        bind_some (parts_of version bytes) (λ found. cond (eqb (length found.1) 0 && is_valid found.0) (Some found.0) None) rec e in
        let good = guard_holds (eqb (length found.0.1) 0 && is_valid found.0.0) found.0.0 rec found.2 in
        subst (λ (r : Rec). HasOwnDigests r) good.1
        (digests_valid found.0.0 (and_both (eqb (length found.0.1) 0) (is_valid found.0.0) good.0).1)

-- digests that are their own stay so
abbrev KeepsOwn : (Map → Map) → Type 0
KeepsOwn step = (kept : Map) → HaveOwnDigests kept → HaveOwnDigests (step kept)

put_keeps : (version : Version) (len : ℕ) (rec : Rec) → HasOwnDigests rec → KeepsOwn (applied (put_in version len rec))
put_keeps One len rec own =
    one_of (nat_lt len 4294967294) _ _ (λ change. KeepsOwn (applied change))
    (λ kept have. put_own_digests rec kept own have) (λ kept have. withdraw_own_digests rec.targets kept have)
put_keeps Two len rec own = λ kept have. put_own_digests rec kept own have

change_keeps : (version : Version) (payload : List ℕ) → IfSome (change_in version payload) (λ change. KeepsOwn (applied change))
change_keeps version [] = tt
change_keeps version (zero ∷ rest) = tt
change_keeps version (suc zero ∷ rest) =
    if_mapped (record_in version rest) HasOwnDigests (λ change. KeepsOwn (applied change)) (put_in version (length rest))
    (λ rec own. put_keeps version (length rest) rec own) (read_own_digests version rest)
change_keeps version (suc (suc zero) ∷ rest) =
    if_mapped (paths_in rest) (λ paths. KeepsOwn (with_each paths None)) (λ change. KeepsOwn (applied change)) _
    (λ paths keeps. keeps) (each (paths_in rest))
  where
    each : (o : Option (List (List ℕ))) → IfSome o (λ paths. KeepsOwn (with_each paths None))
    each None = tt
    each (Some paths) = withdraw_own_digests paths
change_keeps version (suc (suc (suc byte)) ∷ rest) = tt

entry_keeps : (version : Version) (bytes : List ℕ) → IfSome (entry_in version bytes) (λ entry. KeepsOwn (applied entry.0))
entry_keeps version bytes =
    if_bound (payload_in bytes) (λ entry. KeepsOwn (applied entry.0)) _
    (λ payload. if_mapped (change_in version payload) (λ change. KeepsOwn (applied change)) (λ entry. KeepsOwn (applied entry.0)) _
    (λ change keeps. keeps) (change_keeps version payload))

-- ---- entries, one after another

pub entries_own_digests : (version : Version) (n : ℕ) (kept : Map) (bytes : List ℕ) → HaveOwnDigests kept →
    HaveOwnDigests (after_entries version n kept bytes)
unfolding after_entries
entries_own_digests version zero kept bytes have = have
entries_own_digests version (suc n) kept bytes have =
    mapped_or (entry_in version bytes) (λ entry. KeepsOwn (applied entry.0)) HaveOwnDigests
    (λ entry. after_entries version n (applied entry.0 kept) (drop entry.1 bytes)) kept
    (λ entry keeps. entries_own_digests version n (applied entry.0 kept) (drop entry.1 bytes) (keeps kept have))
    (entry_keeps version bytes) have

-- ---- a bank, and the store whose bank it is

pub bank_own_digests : (version : Version) (bank : List ℕ) → HaveOwnDigests (entries_map version (body_of bank))
bank_own_digests version bank =
    entries_own_digests version (length (body_of bank)) nothing (body_of bank) (λ path rec e. none_some e)

-- what the banks read as is one of the images that stand for the store's map
pub own_digests : {W : Type 0} (m : Meaning W) (world : W) (store : Store) →
    ((disk : W) → m.tells disk → IsImage m disk (m.seen disk)) → m.tells world → IsKept m world store →
    HaveOwnDigests (map_of store)
own_digests m world store reads_as told kept =
    let bank = m.seen world store.bank in
    let stands = kept.each told (m.seen world) (reads_as world told) in
    subst (λ (records : Map). HaveOwnDigests records) (ends_map Two store.end (map_of store) bank stands.ends)
    (bank_own_digests Two bank)
