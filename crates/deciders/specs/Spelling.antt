-- The one spelling of each record, in each of two versions. Numbers are big-endian.
--
-- a record    the byte of its work; in version 2 the byte of the function of its digests, which is MD5 in version 1;
--             its targets, its signed lines, its dependencies
-- a list      how many, in four bytes, and then each
-- a text      how many bytes, in four bytes, and then these
-- a dependency    its name, its digest, its stamp
-- a digest    0, or 1 and its 16, 20 or 32 bytes
-- a stamp     0, or 1 and eight bytes
use Rattle.std.specs.Prelude.{◌≡◌, ℕ, ◌<◌, ◌^◌, IsTrue, List, [], ◌∷◌, ◌++◌, length, Option, Some, None, IfSome}
use Rattle.std.specs.List.{flat_map, AllByRecursion}
use Rattle.std.specs.Int.{w32, w64, to_be_bytes}
use Rattle.std.specs.Str.{is_utf8}
use Rattle.scons_base.specs.PathFaults.{is_path}
use Rattle.world_api.specs.declared.job.Work.{Work}
use Rattle.world_api.specs.declared.job.Work.TheVariants.{Shell, Copy, Write}
use Rattle.world_api.specs.declared.hash.Hash.{Hash}
use Rattle.world_api.specs.declared.hash.Hash.TheVariants.{Md5, Sha1, Sha256}
use Rattle.deciders.specs.declared.content.Digest.{Digest}
use Rattle.deciders.specs.declared.recorded.Dep.{Dep}
use Rattle.deciders.specs.declared.recorded.Rec.{Rec}
use Rattle.deciders.specs.declared.version.Version.{Version}
use Rattle.deciders.specs.declared.version.Version.TheVariants.{One, Two}
use Rattle.deciders.specs.Digests.{bytes_of, digest_len, hash_of}
use Rattle.deciders.specs.Records.{IsValid}

abbrev pub work_byte : Work → ℕ
work_byte Shell = 0
work_byte Copy = 1
work_byte Write = 2

abbrev pub hash_byte : Hash → ℕ
hash_byte Md5 = 0
hash_byte Sha1 = 1
hash_byte Sha256 = 2

abbrev pub hash_spelling : Version → Hash → List ℕ
hash_spelling One hash = []
hash_spelling Two hash = hash_byte hash ∷ []

abbrev pub sized : List ℕ → List ℕ
sized bytes = to_be_bytes w32 (length bytes) ++ bytes

abbrev pub listed : {A : Type 0} → (A → List ℕ) → List A → List ℕ
listed spelled items = to_be_bytes w32 (length items) ++ flat_map spelled items

abbrev pub digest_spelling : Option Digest → List ℕ
digest_spelling None = 0 ∷ []
digest_spelling (Some digest) = 1 ∷ bytes_of digest

abbrev pub stamp_spelling : Option ℕ → List ℕ
stamp_spelling None = 0 ∷ []
stamp_spelling (Some stamp) = 1 ∷ to_be_bytes w64 stamp

abbrev pub dep_spelling : Dep → List ℕ
dep_spelling dep = sized dep.name ++ digest_spelling dep.digest ++ stamp_spelling dep.stamp

-- what stands behind the first bytes
abbrev pub lists_spelling : Rec → List ℕ
lists_spelling rec = listed sized rec.targets ++ listed sized rec.signed ++ listed dep_spelling rec.deps

abbrev pub spelling : Version → Rec → List ℕ
spelling version rec = work_byte rec.work ∷ (hash_spelling version rec.hash ++ lists_spelling rec)

-- version 1 has records of MD5 alone
abbrev pub HasHash : Version → Hash → Type 0
HasHash One hash = hash ≡ Md5
HasHash Two hash = Unit {0}

pub record IsText (bytes : List ℕ) : Type 0 where
  pub fits : length bytes < 2 ^ 32
  pub utf8 : IsTrue (is_utf8 bytes)

pub record IsPathText (bytes : List ℕ) : Type 0 where
  pub text : IsText bytes
  pub path : IsTrue (is_path bytes)

-- a digest has as many bytes as its function makes
abbrev pub IsDigest : Digest → Type 0
IsDigest digest = length (bytes_of digest) ≡ digest_len (hash_of digest)

pub record IsDep (dep : Dep) : Type 0 where
  pub name : IsPathText dep.name
  pub digest : IfSome dep.digest IsDigest
  pub stamp : IfSome dep.stamp (λ stamp. stamp < 2 ^ 64)

-- so many items as four bytes can count
abbrev pub IsListOf : {A : Type 0} → (A → Type 0) → List A → Type 0
IsListOf P items = (length items < 2 ^ 32) × AllByRecursion P items

-- its parts have a spelling
pub record IsSpellable (rec : Rec) : Type 0 where
  pub targets : IsListOf IsPathText rec.targets
  pub signed : IsListOf IsText rec.signed
  pub deps : IsListOf IsDep rec.deps

-- the bytes are the spelling of this record in this version
pub record Spells (version : Version) (bytes : List ℕ) (rec : Rec) : Type 0 where
  pub valid : IsValid rec
  pub parts : IsSpellable rec
  pub hash : HasHash version rec.hash
  pub spelt : bytes ≡ spelling version rec
