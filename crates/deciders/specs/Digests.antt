-- Digests of contents: MD5 (RFC 1321), SHA-1 and SHA-256 (FIPS 180-4).
use Rattle.std.specs.Prelude.{ℕ, Bool, true, false, List}
use Rattle.md5.specs.Md5.{md5}
use Rattle.sha1.specs.Sha1.{sha1}
use Rattle.sha2.specs.Sha256.{sha256}
use Rattle.world_api.specs.declared.hash.Hash.{Hash}
use Rattle.world_api.specs.declared.hash.Hash.TheVariants.{Md5, Sha1, Sha256}
use Rattle.deciders.specs.declared.content.Digest.{Digest}
use Rattle.deciders.specs.declared.content.Digest.TheVariants as digest

-- the digest of a content by a function
abbrev pub digest_of : Hash → List ℕ → Digest
digest_of Md5 bytes = digest.Md5 (md5 bytes)
digest_of Sha1 bytes = digest.Sha1 (sha1 bytes)
digest_of Sha256 bytes = digest.Sha256 (sha256 bytes)

-- how many bytes a digest of a function has
abbrev pub digest_len : Hash → ℕ
digest_len Md5 = 16
digest_len Sha1 = 20
digest_len Sha256 = 32

-- the bytes of a digest
abbrev pub bytes_of : Digest → List ℕ
bytes_of (digest.Md5 bytes) = bytes
bytes_of (digest.Sha1 bytes) = bytes
bytes_of (digest.Sha256 bytes) = bytes

-- the function that made a digest
abbrev pub hash_of : Digest → Hash
hash_of (digest.Md5 bytes) = Md5
hash_of (digest.Sha1 bytes) = Sha1
hash_of (digest.Sha256 bytes) = Sha256

-- the digest of a function that has these bytes
abbrev pub as_digest : Hash → List ℕ → Digest
as_digest Md5 bytes = digest.Md5 bytes
as_digest Sha1 bytes = digest.Sha1 bytes
as_digest Sha256 bytes = digest.Sha256 bytes

-- whether two functions are one
abbrev pub is_same : Hash → Hash → Bool
is_same Md5 Md5 = true
is_same Md5 Sha1 = false
is_same Md5 Sha256 = false
is_same Sha1 Md5 = false
is_same Sha1 Sha1 = true
is_same Sha1 Sha256 = false
is_same Sha256 Md5 = false
is_same Sha256 Sha1 = false
is_same Sha256 Sha256 = true
