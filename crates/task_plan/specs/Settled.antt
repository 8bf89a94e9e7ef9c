-- What has to be settled and scanned before a rule can be decided.
use Rattle.std.specs.Prelude.{◌≡◌, ◌≤◌, ◌++◌, ℕ, Bool, true, false, List, Some, length, get_or, slice_get, take, nat_eq, map, [], Option, None}
use Rattle.std.specs.List.{list_any, list_all}
use Rattle.scons_base.specs.declared.ids.NodeId.{NodeId}
use Rattle.rule_graph.specs.declared.rule.Rule.{Rule}
use Rattle.rule_graph.specs.Graphs.{RuleGraph}
use Rattle.task_plan.specs.States.{state_of}
use Rattle.task_plan.specs.Named.{named_of, scanned_of, left_out_of}
use Rattle.task_plan.specs.declared.states.RuleState.{RuleState}
use Rattle.task_plan.specs.declared.states.RuleState.TheVariants.{Unneeded, Waiting, Running, Settled, Failed, Lacking}
use Rattle.task_plan.specs.declared.files.Origin.{Origin}
use Rattle.task_plan.specs.declared.files.Origin.TheVariants.{Unmet, Source, Made}
use Rattle.task_plan.specs.declared.task.Task.{Task}

-- where a file comes from; the plan hasn't met one that it doesn't know
abbrev pub origin_of : List Origin → ℕ → Origin
origin_of origins node = get_or origins node Unmet

abbrev pub is_settled : RuleState → Bool
is_settled Settled = true
is_settled Unneeded = false
is_settled Waiting = false
is_settled Running = false
is_settled Failed = false
is_settled Lacking = false

abbrev pub is_done_from : List RuleState → Origin → Bool
is_done_from states Unmet = false
is_done_from states Source = true
is_done_from states (Made rule) = is_settled (state_of states rule.0)

-- a file stands as it will be: it was met, and no rule makes it or a settled one
abbrev pub is_done : List RuleState → List Origin → NodeId → Bool
is_done states origins node = is_done_from states (origin_of origins node.0)

-- whether a file stands among those that were scanned
abbrev pub is_scanned : {A : Type 0} → List (NodeId × A) → NodeId → Bool
is_scanned found node = list_any (λ e. nat_eq node.0 e.0.0) found

-- one list begins with the other
pub record IsLonger (old new : List NodeId) : Type 0 where
  pub more : List NodeId
  pub is : new ≡ old ++ more

-- the file at a place was scanned
pub record IsScannedAt {A : Type 0} (found : List (NodeId × A)) (files : List NodeId) (place : ℕ) : Type 0 where
  pub file : NodeId
  pub at : slice_get files place ≡ Some file
  pub scanned : is_scanned found file ≡ true

-- the file at a place, if there is one, wasn't scanned
pub record IsUnscannedAt {A : Type 0} (found : List (NodeId × A)) (files : List NodeId) (place : ℕ) : Type 0 where
  pub unscanned : (n : NodeId) → slice_get files place ≡ Some n → is_scanned found n ≡ false

-- the first so many files were scanned
pub record AreScannedIn {A : Type 0} (found : List (NodeId × A)) (files : List NodeId) (count : ℕ) : Type 0 where
  pub within : count ≤ length files
  pub each : list_all (λ n. is_scanned found n) (take count files) ≡ true

-- the files that a rule needs, the required ones first
abbrev pub needs_of : Task → List NodeId
needs_of t = t.required.items ++ t.deps.keys

-- the need at a place is done
pub record IsDoneAt (states : List RuleState) (origins : List Origin) (t : Task) (place : ℕ) : Type 0 where
  pub file : NodeId
  pub at : slice_get (needs_of t) place ≡ Some file
  pub done : is_done states origins file ≡ true

-- the need at a place, if there is one, isn't done
pub record IsUndoneAt (states : List RuleState) (origins : List Origin) (t : Task) (place : ℕ) : Type 0 where
  pub undone : (n : NodeId) → slice_get (needs_of t) place ≡ Some n → is_done states origins n ≡ false

-- the first so many needs are done
pub record AreDoneTo (states : List RuleState) (origins : List Origin) (t : Task) (count : ℕ) : Type 0 where
  pub within : count ≤ length (needs_of t)
  pub each : list_all (λ n. is_done states origins n) (take count (needs_of t)) ≡ true

-- the first so many files of a rule were scanned
abbrev pub AreScannedTo : Task → ℕ → Type 0
AreScannedTo t count = AreScannedIn t.reach.found.entries t.reach.files.keys count

-- the needs that were passed stay where they are
pub record KeepsNeeds (old new : Task) : Type 0 where
  pub passed : new.passed ≤ old.passed
  pub same : take new.passed (needs_of new) ≡ take new.passed (needs_of old)
  pub within : new.passed ≤ length (needs_of new)

-- all needs are passed, and all files scanned
pub record IsThrough (t : Task) : Type 0 where
  pub needs : length (needs_of t) ≤ t.passed
  pub files : length t.reach.files.keys ≤ t.reach.whole

-- a file can be scanned now: it wasn't, and stands as it will be
pub record CanScan {A : Type 0} (states : List RuleState) (origins : List Origin) (found : List (NodeId × A)) (file : NodeId) : Type 0 where
  pub unscanned : is_scanned found file ≡ false
  pub done : is_done states origins file ≡ true

-- What is known of a needed rule: its targets, what has to be made before it and is no dependency, the dependencies that it names, the sources
-- that are scanned for it, what is left out where it is found; then, by the files scanned so far, its dependencies, the files that are scanned for
-- it, and those of them that were, with what they include; and whether these lists are whole: they aren't where memory was wanting in a scan.
pub record Kept : Type 0 where
  pub targets : List NodeId
  pub required : List NodeId
  pub named : List NodeId
  pub sources : List NodeId
  pub left_out : List NodeId
  pub deps : List NodeId
  pub files : List NodeId
  pub found : List (NodeId × List NodeId)
  pub whole : Bool

abbrev pub kept_of : Task → Kept
kept_of t = record {
  targets = t.targets.items;
  required = t.required.items;
  named = take t.named t.deps.keys;
  sources = take t.reach.sources t.reach.files.keys;
  left_out = t.reach.excluded.keys;
  deps = t.deps.keys;
  files = t.reach.files.keys;
  found = map (λ e. (e.0, e.1.items)) t.reach.found.entries;
  whole = t.is_listed;
}

-- the file that is looked at next for a rule
abbrev pub next_of : Task → Option NodeId
next_of t = slice_get t.reach.files.keys t.reach.next

-- what is known of a rule of the graph for which nothing was scanned
abbrev pub first_kept : RuleGraph → Rule → Kept
first_kept graph rule = record {
  targets = rule.targets;
  required = rule.required;
  named = named_of rule;
  sources = scanned_of graph rule;
  left_out = left_out_of rule;
  deps = named_of rule;
  files = scanned_of graph rule;
  found = [];
  whole = true;
}

abbrev pub deps_in : Option Kept → List NodeId
deps_in None = []
deps_in (Some kept) = kept.deps

-- the dependencies of a rule
abbrev pub deps_of : List Kept → ℕ → List NodeId
deps_of rules rule = deps_in (slice_get rules rule)

-- all that a rule needs is settled, and all its files are scanned
pub record IsReady (states : List RuleState) (origins : List Origin) (kept : Kept) : Type 0 where
  pub required : list_all (λ n. is_done states origins n) kept.required ≡ true
  pub deps : list_all (λ n. is_done states origins n) kept.deps ≡ true
  pub scanned : list_all (λ n. is_scanned kept.found n) kept.files ≡ true
