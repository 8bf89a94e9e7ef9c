-- The records of a store as records of the model.
use Rattle.std.specs.Prelude.{◌≡◌, ℕ, true, List, map, Option}
use Rattle.std.specs.List.{list_all}
use Rattle.std.specs.Option.{option_map}
use Rattle.deciders.specs.Digests.{bytes_of}
use Rattle.deciders.specs.Records.{is_by}
use Rattle.deciders.specs.Spelling.{work_byte, hash_byte}
use Rattle.deciders.specs.declared.recorded.Dep.{Dep}
use Rattle.deciders.specs.declared.recorded.Rec.{Rec}
use Rattle.build_model.specs.Rules.{Dependency, Record, Records}

abbrev pub dependency_in : Dep → Dependency
dependency_in dep = record { name = dep.name; digest = option_map bytes_of dep.digest; stamp = dep.stamp }

abbrev pub record_in : Rec → Record
record_in rec = record {
  work = work_byte rec.work;
  hash = hash_byte rec.hash;
  signed = rec.signed;
  targets = rec.targets;
  dependencies = map dependency_in rec.deps;
}

-- The records of each path, where a store has these.
abbrev pub records_in : (List ℕ → Option Rec) → Records
records_in kept path = option_map record_in (kept path)

-- each digest of a record was made by its function, as in every record that is valid
abbrev pub HasOwnDigests : Rec → Type 0
HasOwnDigests rec = list_all (is_by rec.hash) rec.deps ≡ true
