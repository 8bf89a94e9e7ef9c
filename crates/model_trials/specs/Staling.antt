-- Files and records as plain lists, as the model of builds sees them.
use Rattle.std.specs.Prelude.{ℕ, ⊤, List, [], ◌∷◌, map, Option, Some, None, if◌then◌else◌}
use Rattle.std.specs.Option.{option_map}
use Rattle.std.specs.Str.{bytes_eq}
use Rattle.build_model.specs.Rules.{Path, Bytes, Digest, Content, Tree, Stamps, Decider, Dependency, Record, Records}
use Rattle.build_model.specs.Stale.{HasChanged, name_of, stamp_of}
use Rattle.model_trials.specs.declared.changes.PlainDependency.{PlainDependency}
use Rattle.model_trials.specs.declared.changes.PlainRecord.{PlainRecord}
use Rattle.model_trials.specs.declared.stale.PlainFile.{PlainFile}
use Rattle.model_trials.specs.declared.stale.PlainKept.{PlainKept}

-- what a record says of a dependency
abbrev pub as_dependency : PlainDependency → Dependency
as_dependency d = record { name = d.name; digest = d.digest; stamp = d.stamp }

-- the record that plain lists stand for
abbrev pub as_record : PlainRecord → Record
as_record r = record {
  work = r.work;
  hash = r.hash;
  signed = r.signed.items;
  targets = r.targets.items;
  dependencies = map as_dependency r.dependencies.items;
}

-- the names of dependencies, in order
abbrev pub names_of : List PlainDependency → List Path
names_of dependencies = map name_of (map as_dependency dependencies)

-- the digest of a dependency
abbrev pub digest_in : Dependency → Option Digest
digest_in d = d.digest

-- the digests of dependencies, in order
abbrev pub digests_of : List PlainDependency → List (Option Digest)
digests_of dependencies = map digest_in (map as_dependency dependencies)

-- the stamps of dependencies, in order
abbrev pub stamps_in : List PlainDependency → List (Option ℕ)
stamps_in dependencies = map stamp_of (map as_dependency dependencies)

-- the first file with this path
abbrev pub file_at : List PlainFile → Path → Option PlainFile
file_at [] p = None
file_at (file ∷ files) p = if bytes_eq file.path p then Some file else file_at files p

-- what a file holds
abbrev pub bytes_in : PlainFile → Bytes
bytes_in file = file.bytes

-- which path has which content, where these are the files
abbrev pub tree_of : List PlainFile → Tree
tree_of files p = option_map bytes_in (file_at files p)

-- when a file was changed
abbrev pub changed_at : PlainFile → ℕ
changed_at file = file.stamp

-- when which file was changed
abbrev pub stamps_of : List PlainFile → Stamps
stamps_of files p = option_map changed_at (file_at files p)

-- the record of each path: the first that is kept there
abbrev pub records_of : List PlainKept → Records
records_of [] p = None
records_of (place ∷ places) p = if bytes_eq place.path p then Some (as_record place.kept) else records_of places p

-- The content of a target and its record say that its rule is due: there is no file, no record, or one by which it has changed.
abbrev pub IsDueBy : Decider → Option ℕ → Record → Content → Option Record → Type 0
IsDueBy decider target now None old = ⊤
IsDueBy decider target now (Some bytes) None = ⊤
IsDueBy decider target now (Some bytes) (Some old) = HasChanged decider target old now

-- a target says so, in this tree and by these records
abbrev pub IsDueAt : Decider → Option ℕ → Tree → Records → Record → Path → Type 0
IsDueAt decider target t m now p = IsDueBy decider target now (t p) (m p)
