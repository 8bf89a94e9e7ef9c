-- Reading from left to right: a field is a value and the bytes behind it.
use Rattle.std.specs.Prelude.{◌≡◌, ℕ, zero, suc, ◌==◌, ◌&&◌, not, List, [], ◌∷◌, length, take, drop, Option, Some, None, Result, Ok, Err, nat_lt, if◌then◌else◌}
use Rattle.std.specs.Int.{Width, w32, w64, byte_len, from_be_bytes}
use Rattle.std.specs.Str.{is_utf8}
use Rattle.scons_base.specs.PathFaults.{is_path}
use Rattle.world_api.specs.declared.job.Work.{Work}
use Rattle.world_api.specs.declared.job.Work.TheVariants.{Shell, Copy, Write}
use Rattle.world_api.specs.declared.hash.Hash.{Hash}
use Rattle.world_api.specs.declared.hash.Hash.TheVariants.{Md5, Sha1, Sha256}
use Rattle.deciders.specs.declared.content.Digest.{Digest}
use Rattle.deciders.specs.declared.recorded.Dep.{Dep}
use Rattle.deciders.specs.declared.recorded.Rec.{Rec}
use Rattle.deciders.specs.declared.unread.Unread.{Unread}
use Rattle.deciders.specs.declared.unread.Unread.TheVariants as unread
use Rattle.deciders.specs.declared.version.Version.{Version}
use Rattle.deciders.specs.declared.version.Version.TheVariants.{One, Two}
use Rattle.deciders.specs.Digests.{as_digest, digest_len}
use Rattle.deciders.specs.Records.{is_valid}

infixl 10 ◌>>=◌
abbrev pub ◌>>=◌ : {A B : Type 0} → Option A → (A → Option B) → Option B
(Some x) >>= f = f x
None >>= f = None

-- What a function returned, seen by view, is what reading gives, unless memory ran out.
abbrev pub Fails : {Y : Type 0} → Unread → Option Y → Type 0
Fails unread.Memory read = Unit {0}
Fails unread.Malformed read = read ≡ None

abbrev pub Gives : {X Y : Type 0} → (X → Y) → Result X Unread → Option Y → Type 0
Gives view (Ok x) read = read ≡ Some (view x)
Gives view (Err e) read = Fails e read

abbrev pub number_at : Width → List ℕ → Option (ℕ × List ℕ)
number_at w bytes =
    if nat_lt (length bytes) (byte_len w) then None
    else Some (from_be_bytes w (take (byte_len w) bytes), drop (byte_len w) bytes)

unfoldable pub bytes_at : List ℕ → Option (List ℕ × List ℕ)
bytes_at bytes = do
  n ← number_at w32 bytes
  if nat_lt (length n.1) n.0 then None else Some (take n.0 n.1, drop n.0 n.1)

abbrev pub text_of : List ℕ → Option (List ℕ)
text_of bytes = if is_utf8 bytes then Some bytes else None

abbrev pub path_of : List ℕ → Option (List ℕ)
path_of bytes = if is_path bytes then Some bytes else None

unfoldable pub text_at : List ℕ → Option (List ℕ × List ℕ)
text_at bytes = do
  field ← bytes_at bytes
  text ← text_of field.0
  Some (text, field.1)

unfoldable pub path_at : List ℕ → Option (List ℕ × List ℕ)
path_at bytes = do
  field ← bytes_at bytes
  text ← text_of field.0
  path ← path_of text
  Some (path, field.1)

unfoldable pub work_at : List ℕ → Option (Work × List ℕ)
work_at [] = None
work_at (zero ∷ rest) = Some (Shell, rest)
work_at (suc zero ∷ rest) = Some (Copy, rest)
work_at (suc (suc zero) ∷ rest) = Some (Write, rest)
work_at (suc (suc (suc byte)) ∷ rest) = None

unfoldable pub hash_byte_at : List ℕ → Option (Hash × List ℕ)
hash_byte_at [] = None
hash_byte_at (zero ∷ rest) = Some (Md5, rest)
hash_byte_at (suc zero ∷ rest) = Some (Sha1, rest)
hash_byte_at (suc (suc zero) ∷ rest) = Some (Sha256, rest)
hash_byte_at (suc (suc (suc byte)) ∷ rest) = None

-- version 1 has no byte for it
abbrev pub hash_at : Version → List ℕ → Option (Hash × List ℕ)
hash_at One bytes = Some (Md5, bytes)
hash_at Two bytes = hash_byte_at bytes

abbrev pub digest_bytes : Hash → List ℕ → Option (Digest × List ℕ)
digest_bytes hash bytes =
    if nat_lt (length bytes) (digest_len hash) then None
    else Some (as_digest hash (take (digest_len hash) bytes), drop (digest_len hash) bytes)

unfoldable pub digest_at : Hash → List ℕ → Option (Option Digest × List ℕ)
digest_at hash [] = None
digest_at hash (zero ∷ rest) = Some (None, rest)
digest_at hash (suc zero ∷ rest) = do
  digest ← digest_bytes hash rest
  Some (Some digest.0, digest.1)
digest_at hash (suc (suc byte) ∷ rest) = None

unfoldable pub stamp_at : List ℕ → Option (Option ℕ × List ℕ)
stamp_at [] = None
stamp_at (zero ∷ rest) = Some (None, rest)
stamp_at (suc zero ∷ rest) = do
  stamp ← number_at w64 rest
  Some (Some stamp.0, stamp.1)
stamp_at (suc (suc byte) ∷ rest) = None

unfoldable pub dep_at : Hash → List ℕ → Option (Dep × List ℕ)
dep_at hash bytes = do
  name ← path_at bytes
  digest ← digest_at hash name.1
  stamp ← stamp_at digest.1
  Some (record { name = name.0; digest = digest.0; stamp = stamp.0 }, stamp.1)

-- so many of one kind
unfoldable pub many : {A : Type 0} → (List ℕ → Option (A × List ℕ)) → ℕ → List ℕ → Option (List A × List ℕ)
many item zero bytes = Some ([], bytes)
many item (suc n) bytes = do
  first ← item bytes
  others ← many item n first.1
  Some (first.0 ∷ others.0, others.1)

unfoldable pub counted : {A : Type 0} → (List ℕ → Option (A × List ℕ)) → List ℕ → Option (List A × List ℕ)
counted item bytes = do
  n ← number_at w32 bytes
  many item n.0 n.1

-- a record, whatever it names
unfoldable pub parts_of : Version → List ℕ → Option (Rec × List ℕ)
parts_of version bytes = do
  work ← work_at bytes
  hash ← hash_at version work.1
  targets ← counted path_at hash.1
  signed ← counted text_at targets.1
  deps ← counted (dep_at hash.0) signed.1
  Some (record { work = work.0; hash = hash.0; targets = targets.0; signed = signed.0; deps = deps.0 }, deps.1)

-- a valid record that is all of the bytes
unfoldable pub record_in : Version → List ℕ → Option Rec
record_in version bytes = do
  found ← parts_of version bytes
  if length found.1 == 0 && is_valid found.0 then Some found.0 else None

-- at least one path, in all of the bytes
unfoldable pub paths_in : List ℕ → Option (List (List ℕ))
paths_in bytes = do
  found ← counted path_at bytes
  if length found.1 == 0 && not (length found.0 == 0) then Some found.0 else None
