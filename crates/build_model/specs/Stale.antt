-- When a rule has to be carried out.
use Rattle.std.specs.Prelude.{◌≡◌, ◌≢◌, ◌⊎◌, ℕ, ◌<◌, true, false, List, [], ◌∷◌, map, Option, Some, None}
use Rattle.build_model.specs.Rules.{Path, Bytes, Tree, Stamps, Decider, content, timestamp_newer, timestamp_match, content_timestamp, Rule, Dependency, Record, Records, Among}

abbrev pub name_of : Dependency → Path
name_of d = d.name

abbrev pub stamp_of : Dependency → Option ℕ
stamp_of d = d.stamp

-- the same action and the same function of digests, on dependencies of the same names in the same order
pub record IsSameAction (old now : Record) : Type 0 where
  pub work : now.work ≡ old.work
  pub hash : now.hash ≡ old.hash
  pub signed : now.signed ≡ old.signed
  pub targets : now.targets ≡ old.targets
  pub names : map name_of now.dependencies ≡ map name_of old.dependencies

-- the one was changed after the other
abbrev pub IsAfter : Option ℕ → Option ℕ → Type 0
IsAfter (Some stamp) (Some target) = target < stamp
IsAfter (Some stamp) None = ⊥
IsAfter None target = ⊥

-- a dependency was changed after the target
pub record HasNewer (target : Option ℕ) (now : Record) : Type 0 where
  pub dependency : Dependency
  pub stands : Among dependency now.dependencies
  pub is_after : IsAfter dependency.stamp target

-- a dependency has another stamp than the recorded one, and another digest
abbrev pub DiffersInBoth : List Dependency → List Dependency → Type 0
DiffersInBoth [] ds = ⊥
DiffersInBoth (c ∷ cs) [] = ⊥
DiffersInBoth (c ∷ cs) (d ∷ ds) = ((c.stamp ≢ d.stamp) × (c.digest ≢ d.digest)) ⊎ DiffersInBoth cs ds

-- By each decider: the record of now says that a rule has changed since its record was kept. Here `target` is the stamp
-- of the rule's first target before the build.
abbrev pub HasChanged : Decider → Option ℕ → Record → Record → Type 0
HasChanged content target old now = old ≢ now
HasChanged timestamp_newer target old now = (¬ (IsSameAction old now)) ⊎ HasNewer target now
HasChanged timestamp_match target old now = (¬ (IsSameAction old now)) ⊎ (map stamp_of now.dependencies ≢ map stamp_of old.dependencies)
HasChanged content_timestamp target old now = (¬ (IsSameAction old now)) ⊎ DiffersInBoth old.dependencies now.dependencies

-- the stamp of the first target
abbrev pub first_stamp : Stamps → List Path → Option ℕ
first_stamp stamps [] = None
first_stamp stamps (p ∷ ps) = stamps p

-- A rule is due, where its record of now is this one: it is always carried out, or a target is no file, has no record,
-- or has one by which the rule has changed.
pub data IsDue (t : Tree) (stamps : Stamps) (m : Records) (r : Rule) (now : Record) : Type 0 where
  is_always : r.always ≡ true → IsDue t stamps m r now
  no_file : (p : Path) → Among p r.targets → t p ≡ None → IsDue t stamps m r now
  no_record : (p : Path) → Among p r.targets → m p ≡ None → IsDue t stamps m r now
  has_changed : (p : Path) (old : Record) → Among p r.targets → m p ≡ Some old →
      HasChanged r.decider (first_stamp stamps r.targets) old now → IsDue t stamps m r now

-- A rule is stale, whatever its decider: it is always carried out, or a target is no file, has no record, or has a
-- record that differs from the one of now in anything, stamps among it.
pub data IsStale (t : Tree) (m : Records) (r : Rule) (now : Record) : Type 0 where
  is_always : r.always ≡ true → IsStale t m r now
  no_file : (p : Path) → Among p r.targets → t p ≡ None → IsStale t m r now
  no_record : (p : Path) → Among p r.targets → m p ≡ None → IsStale t m r now
  other_record : (p : Path) (old : Record) → Among p r.targets → m p ≡ Some old → old ≢ now → IsStale t m r now

-- a target that is a file with this record
pub record IsKept (t : Tree) (m : Records) (now : Record) (p : Path) : Type 0 where
  pub bytes : Bytes
  pub is_file : t p ≡ Some bytes
  pub has_record : m p ≡ Some now

-- A rule is up to date by content: all its targets are files with its record of now.
pub record IsUpToDate (t : Tree) (m : Records) (r : Rule) (now : Record) : Type 0 where
  pub not_always : r.always ≡ false
  pub targets : (p : Path) → Among p r.targets → IsKept t m now p
