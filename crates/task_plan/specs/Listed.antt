-- The files of a rule, as they follow from what was scanned.
use Rattle.std.specs.Prelude.{◌≡◌, ◌≢◌, ◌<◌, ◌≤◌, ◌+◌, ◌++◌, ℕ, true, false, List, [], Some, length, map, nat_eq, slice_get, take, unwrap_or}
use Rattle.std.specs.List.{flat_map}
use Rattle.std.specs.Map.{lookup}
use Rattle.indexmap.specs.IndexMap.{insert_entry}
use Rattle.scons_base.specs.declared.ids.NodeId.{NodeId}
use Rattle.task_plan.specs.Named.{stands, put_all}
use Rattle.task_plan.specs.Settled.{is_scanned}
use Rattle.task_plan.specs.declared.reach.Reach.{Reach}
use Rattle.task_plan.specs.declared.task.Task.{Task}

-- what a file includes, in order; of a file that wasn't scanned nothing is known
abbrev pub included : List (NodeId × List NodeId) → NodeId → List NodeId
included found n = unwrap_or (lookup (λ m. nat_eq n.0 m.0) found) []

-- a file is included by one at an earlier place
pub record IsFoundBefore (found : List (NodeId × List NodeId)) (files : List NodeId) (n : ℕ) (file : NodeId) : Type 0 where
  pub place : ℕ
  pub before : place < n
  pub by : NodeId
  pub at : slice_get files place ≡ Some by
  pub includes : stands (included found by) file ≡ true

-- what the first so many files include was listed
pub record IsReachTo (sources out : List NodeId) (found : List (NodeId × List NodeId)) (files : List NodeId) (count : ℕ) : Type 0 where
  pub whole : files ≡ put_all out sources (flat_map (included found) (take count files))
  pub earlier : (n : ℕ) (file : NodeId) → slice_get files n ≡ Some file → length sources ≤ n → IsFoundBefore found files n file

-- Files in the order of their first finding, breadth first: the scanned sources, and then what the files include, in their order, each
-- once and less what is left out. There is no file that isn't found from the sources on.
pub record IsReach (sources out : List NodeId) (found : List (NodeId × List NodeId)) (files : List NodeId) : Type 0 where
  pub whole : files ≡ put_all out sources (flat_map (included found) files)
  pub earlier : (n : ℕ) (file : NodeId) → slice_get files n ≡ Some file → length sources ≤ n → IsFoundBefore found files n file

-- what was found by the scans of a rule
abbrev pub found_of : Reach → List (NodeId × List NodeId)
found_of r = map (λ e. (e.0, e.1.items)) r.found.entries

-- what is known after a file was scanned
abbrev pub with_found : List (NodeId × List NodeId) → NodeId → List NodeId → List (NodeId × List NodeId)
with_found found file includes = insert_entry (λ a b. nat_eq a.0 b.0) found file includes

-- the first files are the sources
abbrev pub sources_in : Reach → List NodeId
sources_in r = take r.sources r.files.keys

-- no file from a place on was scanned
pub record AreAhead {A : Type 0} (found : List (NodeId × A)) (files : List NodeId) (front : ℕ) : Type 0 where
  pub each : (n : ℕ) (file : NodeId) → slice_get files n ≡ Some file → front ≤ n → is_scanned found file ≡ false

-- no file from a place on and before another was scanned
pub record AreAheadTo {A : Type 0} (found : List (NodeId × A)) (files : List NodeId) (front end : ℕ) : Type 0 where
  pub each : (n : ℕ) (file : NodeId) → slice_get files n ≡ Some file → front ≤ n → n < end → is_scanned found file ≡ false

-- the files follow from what was scanned
pub record IsWalked (r : Reach) : Type 0 where
  pub reach : IsReach (sources_in r) r.excluded.keys (found_of r) r.files.keys
  pub ahead : AreAhead r.found.entries r.files.keys r.front

-- what the files before a place include was listed
pub record IsWalking (r : Reach) (place : ℕ) : Type 0 where
  pub reach : IsReachTo (sources_in r) r.excluded.keys (found_of r) r.files.keys place
  pub front : r.front ≤ place
  pub ahead : AreAheadTo r.found.entries r.files.keys r.front place

-- a file stands right before this place, behind all that were scanned, and nowhere else
pub record IsNext (r : Reach) (file : NodeId) (next : ℕ) : Type 0 where
  pub place : ℕ
  pub is : next ≡ place + 1
  pub from : r.front ≤ place
  pub at : slice_get r.files.keys place ≡ Some file
  pub others : (n : ℕ) (other : NodeId) → slice_get r.files.keys n ≡ Some other → n ≢ place → nat_eq other.0 file.0 ≡ false

-- what the file before this place includes was listed, and of those that stood behind it none was scanned
pub record IsAppended (r : Reach) (next before : ℕ) : Type 0 where
  pub reach : IsReachTo (sources_in r) r.excluded.keys (found_of r) r.files.keys next
  pub ahead : AreAheadTo r.found.entries r.files.keys next before

-- scans change neither the sources nor what is left out
pub record IsSameReach (old new : Reach) : Type 0 where
  pub sources : new.sources ≡ old.sources
  pub same : sources_in new ≡ sources_in old
  pub within : new.sources ≤ length new.files.keys
  pub excluded : new.excluded.keys ≡ old.excluded.keys

-- the files before the next one stay where they were
pub record KeepsSeen (old new : Reach) : Type 0 where
  pub next : new.next ≤ old.next
  pub same : old.next < length old.files.keys → (place : ℕ) → place < new.next → slice_get new.files.keys place ≡ slice_get old.files.keys place

-- the dependencies are those that the rule names, and then its files, each once
abbrev pub AreDeps : Task → List NodeId → Type 0
AreDeps t files = t.deps.keys ≡ put_all [] (take t.named t.deps.keys) files

-- all that is listed of a rule follows from what was scanned
pub record IsListed (t : Task) : Type 0 where
  pub deps : AreDeps t t.reach.files.keys
  pub reach : IsWalked t.reach

-- the same, unless memory was wanting in a scan; in any case the named dependencies and the sources stand first
pub record IsListing (t : Task) : Type 0 where
  pub named : t.named ≤ length t.deps.keys
  pub sources : t.reach.sources ≤ length t.reach.files.keys
  pub listed : t.is_listed ≡ true → IsListed t

-- new files stand behind the others, of which the dependencies are
pub record IsGrown (t : Task) (new : List NodeId) : Type 0 where
  pub files : List NodeId
  pub is : t.reach.files.keys ≡ files ++ new
  pub deps : AreDeps t files

-- the dependencies that the rule names stay, and stand first
pub record KeepsNamed (old new : Task) : Type 0 where
  pub within : old.named ≤ length new.deps.keys
  pub same : take old.named new.deps.keys ≡ take old.named old.deps.keys

-- what the graph says of a rule stays
pub record KeepsNames (old new : Task) : Type 0 where
  pub targets : new.targets.items ≡ old.targets.items
  pub required : new.required.items ≡ old.required.items
  pub named : take new.named new.deps.keys ≡ take old.named old.deps.keys
  pub reach : IsSameReach old.reach new.reach

-- what a file includes was taken in
pub record Takes (old : Task) (file : NodeId) (includes : List NodeId) (new : Task) : Type 0 where
  pub listed : new.is_listed ≡ true
  pub found : found_of new.reach ≡ with_found (found_of old.reach) file includes
