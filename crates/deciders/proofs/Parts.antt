-- The parts of a record: what is read was spelled so, and what was spelled is read again.
use Rattle.std.proofs.Common.{◌≡◌, ℕ, zero, suc, ◌^◌, ◌<◌, ◌≤◌, Bool, true, false, ltb, List, [], ◌∷◌, ◌++◌, length, take, drop, Option, Some, None, refl, sym, ap, subst, ◌∙◌, append_assoc, arith}
use Rattle.std.specs.Prelude.{IfSome}
use Rattle.std.specs.List.{flat_map, AllByRecursion}
use Rattle.std.specs.Option.{option_map_or}
use Rattle.std.specs.Int.{w32, w64, to_be_bytes}
use Rattle.std.proofs.lemmas.Bool.{ltb-false, le-ltb}
use Rattle.std.proofs.lemmas.List.{take_at, drop_at, take-append-drop, length-append, length-take}
use Rattle.std.proofs.lemmas.List.Concat.{flat_map-cons}
use Rattle.world_api.specs.declared.job.Work.{Work}
use Rattle.world_api.specs.declared.job.Work.TheVariants.{Shell, Copy, Write}
use Rattle.world_api.specs.declared.hash.Hash.{Hash}
use Rattle.world_api.specs.declared.hash.Hash.TheVariants.{Md5, Sha1, Sha256}
use Rattle.deciders.specs.declared.content.Digest.{Digest}
use Rattle.deciders.specs.declared.content.Digest.TheVariants as digest
use Rattle.deciders.specs.declared.recorded.Dep.{Dep}
use Rattle.deciders.specs.declared.version.Version.{Version}
use Rattle.deciders.specs.declared.version.Version.TheVariants.{One, Two}
use Rattle.deciders.specs.Digests.{as_digest, bytes_of, digest_len, hash_of, is_same}
use Rattle.deciders.specs.Records.{is_by}
use Rattle.deciders.specs.Spelling.{sized, listed, work_byte, hash_byte, hash_spelling, digest_spelling, stamp_spelling, dep_spelling, HasHash, IsDigest, IsDep, IsListOf}
use Rattle.deciders.specs.Reading.{◌>>=◌, number_at, path_at, work_at, hash_byte_at, hash_at, digest_bytes, digest_at, stamp_at, dep_at, many, counted}
use Rattle.deciders.proofs.Takings.{IsBytes, IsBytes-drop, bind_some, guard_some, some_is, Takes, Takes-then, IsReader, wide32, wide64, number_takes, number_again, path_reader}

IsBytes-behind : (b : ℕ) (bytes : List ℕ) → IsBytes (b ∷ bytes) → IsBytes bytes
IsBytes-behind b bytes h i = h (suc i)

-- one byte in front
front_taken : (b : ℕ) (bytes text rest : List ℕ) → Takes bytes text rest → Takes (b ∷ bytes) (b ∷ text) rest
front_taken b bytes text rest t = record { parts = ap (λ (w : List ℕ). b ∷ w) t.parts; rest_fits = t.rest_fits }

nothing_taken : (bytes : List ℕ) → IsBytes bytes → Takes bytes [] bytes
nothing_taken bytes fits = record { parts = refl; rest_fits = fits }

-- ---- the byte of the work

pub work_takes : (bytes : List ℕ) (work : Work) (rest : List ℕ) → IsBytes bytes → work_at bytes ≡ Some (work, rest) → Takes bytes (work_byte work ∷ []) rest
unfolding work_at
work_takes [] work rest fits e = absurd cc
work_takes (zero ∷ bytes) work rest fits e =
    subst (λ (x : Work × List ℕ). Takes (0 ∷ bytes) (work_byte x.0 ∷ []) x.1) (some_is (Shell, bytes) (work, rest) e) (front_taken 0 bytes [] bytes (nothing_taken bytes (IsBytes-behind 0 bytes fits)))
work_takes (suc zero ∷ bytes) work rest fits e =
    subst (λ (x : Work × List ℕ). Takes (1 ∷ bytes) (work_byte x.0 ∷ []) x.1) (some_is (Copy, bytes) (work, rest) e) (front_taken 1 bytes [] bytes (nothing_taken bytes (IsBytes-behind 1 bytes fits)))
work_takes (suc (suc zero) ∷ bytes) work rest fits e =
    subst (λ (x : Work × List ℕ). Takes (2 ∷ bytes) (work_byte x.0 ∷ []) x.1) (some_is (Write, bytes) (work, rest) e) (front_taken 2 bytes [] bytes (nothing_taken bytes (IsBytes-behind 2 bytes fits)))
work_takes (suc (suc (suc b)) ∷ bytes) work rest fits e = absurd cc

pub work_again : (work : Work) (rest : List ℕ) → work_at (work_byte work ∷ rest) ≡ Some (work, rest)
unfolding work_at
work_again Shell rest = refl
work_again Copy rest = refl
work_again Write rest = refl

-- ---- the byte of the digests' function

hash_byte_takes : (bytes : List ℕ) (hash : Hash) (rest : List ℕ) → IsBytes bytes → hash_byte_at bytes ≡ Some (hash, rest) → Takes bytes (hash_byte hash ∷ []) rest
unfolding hash_byte_at
hash_byte_takes [] hash rest fits e = absurd cc
hash_byte_takes (zero ∷ bytes) hash rest fits e =
    subst (λ (x : Hash × List ℕ). Takes (0 ∷ bytes) (hash_byte x.0 ∷ []) x.1) (some_is (Md5, bytes) (hash, rest) e) (front_taken 0 bytes [] bytes (nothing_taken bytes (IsBytes-behind 0 bytes fits)))
hash_byte_takes (suc zero ∷ bytes) hash rest fits e =
    subst (λ (x : Hash × List ℕ). Takes (1 ∷ bytes) (hash_byte x.0 ∷ []) x.1) (some_is (Sha1, bytes) (hash, rest) e) (front_taken 1 bytes [] bytes (nothing_taken bytes (IsBytes-behind 1 bytes fits)))
hash_byte_takes (suc (suc zero) ∷ bytes) hash rest fits e =
    subst (λ (x : Hash × List ℕ). Takes (2 ∷ bytes) (hash_byte x.0 ∷ []) x.1) (some_is (Sha256, bytes) (hash, rest) e) (front_taken 2 bytes [] bytes (nothing_taken bytes (IsBytes-behind 2 bytes fits)))
hash_byte_takes (suc (suc (suc b)) ∷ bytes) hash rest fits e = absurd cc

pub hash_takes : (version : Version) (bytes : List ℕ) (hash : Hash) (rest : List ℕ) → IsBytes bytes → hash_at version bytes ≡ Some (hash, rest) → Takes bytes (hash_spelling version hash) rest × HasHash version hash
hash_takes One bytes hash rest fits e =
    subst (λ (x : Hash × List ℕ). Takes bytes [] x.1 × (x.0 ≡ Md5)) (some_is (Md5, bytes) (hash, rest) e) (nothing_taken bytes fits, refl)
hash_takes Two bytes hash rest fits e = (hash_byte_takes bytes hash rest fits e, tt)

pub hash_again : (version : Version) (hash : Hash) (rest : List ℕ) → HasHash version hash → hash_at version (hash_spelling version hash ++ rest) ≡ Some (hash, rest)
unfolding hash_byte_at
hash_again One hash rest is = rw is refl
hash_again Two Md5 rest is = refl
hash_again Two Sha1 rest is = refl
hash_again Two Sha256 rest is = refl

-- ---- digests and stamps

abbrev pub IsDigestOf : Hash → Digest → Type 0
IsDigestOf hash digest = (hash_of digest ≡ hash) × IsDigest digest

as_hash : (hash : Hash) (bytes : List ℕ) → hash_of (as_digest hash bytes) ≡ hash
as_hash Md5 bytes = refl
as_hash Sha1 bytes = refl
as_hash Sha256 bytes = refl

as_bytes : (hash : Hash) (bytes : List ℕ) → bytes_of (as_digest hash bytes) ≡ bytes
as_bytes Md5 bytes = refl
as_bytes Sha1 bytes = refl
as_bytes Sha256 bytes = refl

as_again : (digest : Digest) → as_digest (hash_of digest) (bytes_of digest) ≡ digest
as_again (digest.Md5 bytes) = refl
as_again (digest.Sha1 bytes) = refl
as_again (digest.Sha256 bytes) = refl

digest_bytes_take : (hash : Hash) (bytes : List ℕ) (digest : Digest) (rest : List ℕ) → IsBytes bytes → digest_bytes hash bytes ≡ Some (digest, rest) → Takes bytes (bytes_of digest) rest × IsDigestOf hash digest
digest_bytes_take hash bytes digest rest fits e =
    let n = digest_len hash in
    let made = as_digest hash (take n bytes) in
    let g = guard_some (ltb (length bytes) n) (made, drop n bytes) (digest, rest) e in
    let long : n ≤ length bytes = ltb-false _ _ g.0 in
    let len : length (take n bytes) ≡ n = omega (arith, length-take n bytes) in
    let whole : Takes bytes (bytes_of made) (drop n bytes) = record { parts = rw (as_bytes hash (take n bytes)) (sym (take-append-drop n bytes)); rest_fits = IsBytes-drop n bytes fits } in
    let is : IsDigest made = rw (as_bytes hash (take n bytes), as_hash hash (take n bytes)) len in
    subst (λ (p : Digest × List ℕ). Takes bytes (bytes_of p.0) p.1 × IsDigestOf hash p.0) g.1 (whole, (as_hash hash (take n bytes), is))

digest_bytes_own : (digest : Digest) (rest : List ℕ) → IsDigest digest → digest_bytes (hash_of digest) (bytes_of digest ++ rest) ≡ Some (digest, rest)
digest_bytes_own digest rest len =
    let n = digest_len (hash_of digest) in
    let long : ltb (length (bytes_of digest ++ rest)) n ≡ false = le-ltb _ _ (omega (arith, len, length-append (bytes_of digest) rest)) in
    rw (long, take_at (bytes_of digest) rest n len, drop_at (bytes_of digest) rest n len, as_again digest) refl

digest_bytes_again : (hash : Hash) (digest : Digest) (rest : List ℕ) → IsDigestOf hash digest → digest_bytes hash (bytes_of digest ++ rest) ≡ Some (digest, rest)
digest_bytes_again hash digest rest is = subst (λ (by : Hash). digest_bytes by (bytes_of digest ++ rest) ≡ Some (digest, rest)) is.0 (digest_bytes_own digest rest is.1)

digest_takes : (hash : Hash) (bytes : List ℕ) (digest : Option Digest) (rest : List ℕ) → IsBytes bytes → digest_at hash bytes ≡ Some (digest, rest) → Takes bytes (digest_spelling digest) rest × IfSome digest (IsDigestOf hash)
unfolding digest_at
digest_takes hash [] digest rest fits e = absurd cc
digest_takes hash (zero ∷ bytes) digest rest fits e =
    subst (λ (x : Option Digest × List ℕ). Takes (0 ∷ bytes) (digest_spelling x.0) x.1 × IfSome x.0 (IsDigestOf hash)) (some_is (None, bytes) (digest, rest) e) (front_taken 0 bytes [] bytes (nothing_taken bytes (IsBytes-behind 0 bytes fits)), tt)
digest_takes hash (suc zero ∷ bytes) digest rest fits e =
    let b = bind_some (digest_bytes hash bytes) (λ d. Some (Some d.0, d.1)) (digest, rest) e in
    let t = digest_bytes_take hash bytes b.0.0 b.0.1 (IsBytes-behind 1 bytes fits) b.1 in
    subst (λ (x : Option Digest × List ℕ). Takes (1 ∷ bytes) (digest_spelling x.0) x.1 × IfSome x.0 (IsDigestOf hash)) (some_is (Some b.0.0, b.0.1) (digest, rest) b.2) (front_taken 1 bytes (bytes_of b.0.0) b.0.1 t.0, t.1)
digest_takes hash (suc (suc b) ∷ bytes) digest rest fits e = absurd cc

digest_again : (hash : Hash) (digest : Option Digest) (rest : List ℕ) → IfSome digest (IsDigestOf hash) → digest_at hash (digest_spelling digest ++ rest) ≡ Some (digest, rest)
unfolding digest_at
digest_again hash None rest fits = refl
digest_again hash (Some digest) rest fits = rw (digest_bytes_again hash digest rest fits) refl

abbrev IsStamp : ℕ → Type 0
IsStamp stamp = stamp < 2 ^ 64

stamp_takes : (bytes : List ℕ) (stamp : Option ℕ) (rest : List ℕ) → IsBytes bytes → stamp_at bytes ≡ Some (stamp, rest) → Takes bytes (stamp_spelling stamp) rest × IfSome stamp IsStamp
unfolding stamp_at
stamp_takes [] stamp rest fits e = absurd cc
stamp_takes (zero ∷ bytes) stamp rest fits e =
    subst (λ (x : Option ℕ × List ℕ). Takes (0 ∷ bytes) (stamp_spelling x.0) x.1 × IfSome x.0 IsStamp) (some_is (None, bytes) (stamp, rest) e) (front_taken 0 bytes [] bytes (nothing_taken bytes (IsBytes-behind 0 bytes fits)), tt)
stamp_takes (suc zero ∷ bytes) stamp rest fits e =
    let b = bind_some (number_at w64 bytes) (λ n. Some (Some n.0, n.1)) (stamp, rest) e in
    let t = number_takes w64 (2 ^ 64) wide64 bytes b.0.0 b.0.1 (IsBytes-behind 1 bytes fits) b.1 in
    subst (λ (x : Option ℕ × List ℕ). Takes (1 ∷ bytes) (stamp_spelling x.0) x.1 × IfSome x.0 IsStamp) (some_is (Some b.0.0, b.0.1) (stamp, rest) b.2) (front_taken 1 bytes (to_be_bytes w64 b.0.0) b.0.1 t.0, t.1)
stamp_takes (suc (suc b) ∷ bytes) stamp rest fits e = absurd cc

stamp_again : (stamp : Option ℕ) (rest : List ℕ) → IfSome stamp IsStamp → stamp_at (stamp_spelling stamp ++ rest) ≡ Some (stamp, rest)
unfolding stamp_at
stamp_again None rest fits = refl
stamp_again (Some stamp) rest fits = rw (number_again w64 (2 ^ 64) wide64 stamp rest fits) refl

-- ---- dependencies

same_itself : (hash : Hash) → is_same hash hash ≡ true
same_itself Md5 = refl
same_itself Sha1 = refl
same_itself Sha256 = refl

same_means : (a b : Hash) → is_same a b ≡ true → a ≡ b
same_means Md5 Md5 e = refl
same_means Md5 Sha1 e = absurd cc
same_means Md5 Sha256 e = absurd cc
same_means Sha1 Md5 e = absurd cc
same_means Sha1 Sha1 e = refl
same_means Sha1 Sha256 e = absurd cc
same_means Sha256 Md5 e = absurd cc
same_means Sha256 Sha1 e = absurd cc
same_means Sha256 Sha256 e = refl

-- a digest has the length of its function's, and it is this function
abbrev pub IsDepOf : Hash → Dep → Type 0
IsDepOf hash dep = IsDep dep × (is_by hash dep ≡ true)

abbrev by_this : Hash → Option Digest → Bool
by_this hash digest = option_map_or (λ d. is_same (hash_of d) hash) digest true

only_digest : (hash : Hash) (digest : Option Digest) → IfSome digest (IsDigestOf hash) → IfSome digest IsDigest × (by_this hash digest ≡ true)
only_digest hash None is = (tt, refl)
only_digest hash (Some digest) is = (is.1, rw is.0 (same_itself hash))

both_digest : (hash : Hash) (digest : Option Digest) → IfSome digest IsDigest → by_this hash digest ≡ true → IfSome digest (IsDigestOf hash)
both_digest hash None is by = tt
both_digest hash (Some digest) is by = (same_means (hash_of digest) hash by, is)

dep_takes : (hash : Hash) (bytes : List ℕ) (dep : Dep) (rest : List ℕ) → IsBytes bytes → dep_at hash bytes ≡ Some (dep, rest) → Takes bytes (dep_spelling dep) rest × IsDepOf hash dep
unfolding dep_at
dep_takes hash bytes dep rest fits e =
    let a = bind_some (path_at bytes) (λ name. digest_at hash name.1 >>= λ digest. stamp_at digest.1 >>= λ stamp. Some (record { name = name.0; digest = digest.0; stamp = stamp.0 }, stamp.1)) (dep, rest) e in
    let b = bind_some (digest_at hash a.0.1) (λ digest. stamp_at digest.1 >>= λ stamp. Some (record { name = a.0.0; digest = digest.0; stamp = stamp.0 }, stamp.1)) (dep, rest) a.2 in
    let c = bind_some (stamp_at b.0.1) (λ stamp. Some (record { name = a.0.0; digest = b.0.0; stamp = stamp.0 }, stamp.1)) (dep, rest) b.2 in
    let t0 = path_reader.takes bytes a.0.0 a.0.1 fits a.1 in
    let t1 = digest_takes hash a.0.1 b.0.0 b.0.1 t0.0.rest_fits b.1 in
    let t2 = stamp_takes b.0.1 c.0.0 c.0.1 t1.0.rest_fits c.1 in
    let e01 = Takes-then bytes (sized a.0.0) a.0.1 (digest_spelling b.0.0) b.0.1 t0.0 t1.0 in
    let e02 = Takes-then bytes (sized a.0.0 ++ digest_spelling b.0.0) b.0.1 (stamp_spelling c.0.0) c.0.1 e01 t2.0 in
    let both = only_digest hash b.0.0 t1.1 in
    let made : Dep × List ℕ = (record { name = a.0.0; digest = b.0.0; stamp = c.0.0 }, c.0.1) in
    subst (λ (y : Dep × List ℕ). Takes bytes (dep_spelling y.0) y.1 × IsDepOf hash y.0) (some_is made (dep, rest) c.2) (e02, (record { name = t0.1; digest = both.0; stamp = t2.1 }, both.1))

dep_again : (hash : Hash) (dep : Dep) (rest : List ℕ) → IsDepOf hash dep → dep_at hash (dep_spelling dep ++ rest) ≡ Some (dep, rest)
unfolding dep_at
dep_again hash dep rest fits =
    let regrouped : dep_spelling dep ++ rest ≡ sized dep.name ++ (digest_spelling dep.digest ++ (stamp_spelling dep.stamp ++ rest)) =
    append_assoc (sized dep.name ++ digest_spelling dep.digest) (stamp_spelling dep.stamp) rest ∙ append_assoc (sized dep.name) (digest_spelling dep.digest) (stamp_spelling dep.stamp ++ rest) in
    let digest = both_digest hash dep.digest fits.0.digest fits.1 in
    ap (dep_at hash) regrouped ∙ rw (path_reader.again dep.name (digest_spelling dep.digest ++ (stamp_spelling dep.stamp ++ rest)) fits.0.name, digest_again hash dep.digest (stamp_spelling dep.stamp ++ rest) digest, stamp_again dep.stamp rest fits.0.stamp) refl

pub dep_reader : (hash : Hash) → IsReader (dep_at hash) dep_spelling (IsDepOf hash)
dep_reader hash = record { takes = dep_takes hash; again = dep_again hash }

-- ---- lists

many_take : {A : Type 0} (read : List ℕ → Option (A × List ℕ)) (spelled : A → List ℕ) (Fits : A → Type 0) → IsReader read spelled Fits → (n : ℕ) (bytes : List ℕ) (x : List A × List ℕ) → IsBytes bytes → many read n bytes ≡ Some x
    → Takes bytes (flat_map spelled x.0) x.1 × (length x.0 ≡ n) × AllByRecursion Fits x.0
unfolding many
many_take {A} read spelled Fits reader zero bytes x fits e =
    subst (λ (y : List A × List ℕ). Takes bytes (flat_map spelled y.0) y.1 × (length y.0 ≡ 0) × AllByRecursion Fits y.0) (some_is ([], bytes) x e) (nothing_taken bytes fits, refl, tt)
many_take {A} read spelled Fits reader (suc n) bytes x fits e =
    let a = bind_some (read bytes) (λ first. many read n first.1 >>= λ others. Some (first.0 ∷ others.0, others.1)) x e in
    let b = bind_some (many read n a.0.1) (λ others. Some (a.0.0 ∷ others.0, others.1)) x a.2 in
    let first = reader.takes bytes a.0.0 a.0.1 fits a.1 in
    let second = many_take read spelled Fits reader n a.0.1 b.0 first.0.rest_fits b.1 in
    let both = Takes-then bytes (spelled a.0.0) a.0.1 (flat_map spelled b.0.0) b.0.1 first.0 second.0 in
    let made : List A × List ℕ = (a.0.0 ∷ b.0.0, b.0.1) in
    subst (λ (y : List A × List ℕ). Takes bytes (flat_map spelled y.0) y.1 × (length y.0 ≡ suc n) × AllByRecursion Fits y.0) (some_is made x b.2) (rw flat_map-cons both, ap suc second.1, (first.1, second.2))

many_again : {A : Type 0} (read : List ℕ → Option (A × List ℕ)) (spelled : A → List ℕ) (Fits : A → Type 0) → IsReader read spelled Fits → (items : List A) (rest : List ℕ) → AllByRecursion Fits items
    → many read (length items) (flat_map spelled items ++ rest) ≡ Some (items, rest)
unfolding many
many_again read spelled Fits reader [] rest fits = refl
many_again read spelled Fits reader (item ∷ items) rest fits =
    let regrouped : flat_map spelled (item ∷ items) ++ rest ≡ spelled item ++ (flat_map spelled items ++ rest) = ap (λ (x : List ℕ). x ++ rest) (flat_map-cons spelled item items) ∙ append_assoc (spelled item) (flat_map spelled items) rest in
    ap (many read (suc (length items))) regrouped ∙ rw (reader.again item (flat_map spelled items ++ rest) fits.0, many_again read spelled Fits reader items rest fits.1) refl

counted_takes : {A : Type 0} (read : List ℕ → Option (A × List ℕ)) (spelled : A → List ℕ) (Fits : A → Type 0) → IsReader read spelled Fits → (bytes : List ℕ) (items : List A) (rest : List ℕ) → IsBytes bytes → counted read bytes ≡ Some (items, rest)
    → Takes bytes (listed spelled items) rest × IsListOf Fits items
unfolding counted
counted_takes {A} read spelled Fits reader bytes items rest fits e =
    let a = bind_some (number_at w32 bytes) (λ n. many read n.0 n.1) (items, rest) e in
    let first = number_takes w32 (2 ^ 32) wide32 bytes a.0.0 a.0.1 fits a.1 in
    let second = many_take read spelled Fits reader a.0.0 a.0.1 (items, rest) first.0.rest_fits a.2 in
    let both = Takes-then bytes (to_be_bytes w32 a.0.0) a.0.1 (flat_map spelled items) rest first.0 second.0 in
    (subst (λ (k : ℕ). Takes bytes (to_be_bytes w32 k ++ flat_map spelled items) rest) (sym second.1) both, (omega (arith, second.1, first.1), second.2))

counted_again : {A : Type 0} (read : List ℕ → Option (A × List ℕ)) (spelled : A → List ℕ) (Fits : A → Type 0) → IsReader read spelled Fits → (items : List A) (rest : List ℕ) → IsListOf Fits items
    → counted read (listed spelled items ++ rest) ≡ Some (items, rest)
unfolding counted
counted_again read spelled Fits reader items rest fits =
    let regrouped : listed spelled items ++ rest ≡ to_be_bytes w32 (length items) ++ (flat_map spelled items ++ rest) = append_assoc (to_be_bytes w32 (length items)) (flat_map spelled items) rest in
    ap (counted read) regrouped ∙ rw (number_again w32 (2 ^ 32) wide32 (length items) (flat_map spelled items ++ rest) fits.0) (many_again read spelled Fits reader items rest fits.1)

pub list_reader : {A : Type 0} (read : List ℕ → Option (A × List ℕ)) (spelled : A → List ℕ) (Fits : A → Type 0) → IsReader read spelled Fits → IsReader (counted read) (listed spelled) (IsListOf Fits)
list_reader read spelled Fits reader = record { takes = counted_takes read spelled Fits reader; again = counted_again read spelled Fits reader }
