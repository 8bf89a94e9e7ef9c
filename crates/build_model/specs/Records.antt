-- The record of a rule over some contents, and when the records that are kept tell the truth.
use Rattle.std.specs.Prelude.{◌≡◌, ℕ, List, map, Option, Some, None, ⊤}
use Rattle.build_model.specs.Rules.{Path, Bytes, Digest, Content, Tree, Stamps, Decider, content, timestamp_newer, timestamp_match, content_timestamp, Rule, Dependency, Record, Records, Setting, Among}
use Rattle.build_model.specs.Contents.{Known, View, dependencies}

abbrev pub digest_by : Setting → ℕ → Content → Option Digest
digest_by s hash None = None
digest_by s hash (Some bytes) = Some (s.digest hash bytes)

abbrev pub digest_of : Setting → Content → Option Digest
digest_of s x = digest_by s s.hash x

abbrev pub known_digest : Setting → Known → Option Digest
known_digest s None = None
known_digest s (Some x) = digest_of s x

-- the content decider keeps no stamps
abbrev pub stamp_kept : {A : Type 0} → Decider → Option A → Option A
stamp_kept content stamp = None
stamp_kept timestamp_newer stamp = stamp
stamp_kept timestamp_match stamp = stamp
stamp_kept content_timestamp stamp = stamp

abbrev pub dependency_of : Setting → Rule → View → Stamps → Path → Dependency
dependency_of s r view stamps p = record { name = p; digest = known_digest s (view p); stamp = stamp_kept r.decider (stamps p) }

-- The record of a rule where the contents and stamps are these.
abbrev pub record_of : Setting → Rule → View → Stamps → Record
record_of s r view stamps = record {
  work = r.work;
  hash = s.hash;
  signed = r.signed;
  targets = r.targets;
  dependencies = map (dependency_of s r view stamps) (dependencies s view r);
}

-- no file, or bytes that were met
abbrev pub IsMet : List Bytes → Content → Type 0
IsMet met None = ⊤
IsMet met (Some bytes) = Among bytes met

-- no two different contents that were met have one digest by the function of this build
abbrev pub AreDistinct : Setting → List Bytes → Type 0
AreDistinct s met = (a b : Bytes) → Among a met → Among b met → s.digest s.hash a ≡ s.digest s.hash b → a ≡ b

abbrev pub named_digest : Dependency → Path × Option Digest
named_digest d = (d.name, d.digest)

abbrev pub digested : Setting → ℕ → Path × Content → Path × Option Digest
digested s hash x = (x.0, digest_by s hash x.1)

-- There are contents with the names and digests of a record, by its own function, of which its action makes these bytes at this path.
pub record IsMadeBy (s : Setting) (met : List Bytes) (r : Record) (p : Path) (bytes : Bytes) : Type 0 where
  pub given : List (Path × Content)
  pub each_met : (x : Path × Content) → Among x given → IsMet met x.1
  pub digests : map (digested s r.hash) given ≡ map named_digest r.dependencies
  pub made : s.act r.work r.signed r.targets given p ≡ Some bytes

-- Records tell the truth: each stands at a target of its own, and where a file is there, it is what the record says.
pub record AreSound (s : Setting) (met : List Bytes) (t : Tree) (m : Records) : Type 0 where
  pub at_targets : (p : Path) (r : Record) → m p ≡ Some r → Among p r.targets
  pub true_of_files : (p : Path) (r : Record) (bytes : Bytes) → m p ≡ Some r → t p ≡ Some bytes → IsMadeBy s met r p bytes
