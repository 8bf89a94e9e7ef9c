-- How walks from the rules at fault find what those hold.
use Rattle.std.specs.Prelude.{◌≡◌, ◌<◌, ◌≤◌, ◌++◌, ◌∷◌, [], ℕ, Bool, true, false, List, Some, length, slice_get, slice_set}
use Rattle.scons_base.specs.declared.ids.NodeId.{NodeId}
use Rattle.scons_base.specs.declared.ids.RuleId.{RuleId}
use Rattle.task_plan.specs.Settled.{Kept}
use Rattle.task_plan.specs.Admits.{queues}
use Rattle.task_plan.specs.Orders.{is_among}
use Rattle.task_plan.specs.Walks.{is_seen}
use Rattle.task_plan.specs.Held.{waits_for, WaitsOn, IsHeldBy}
use Rattle.task_plan.specs.declared.held.Held.{Held}
use Rattle.task_plan.specs.declared.states.RuleState.{RuleState}

-- a rule stands among those that are told of a file, and waits for it
pub record IsToldOf (states : List RuleState) (rules : List Kept) (told : List RuleId) (file : NodeId) (rule : ℕ) : Type 0 where
  pub stands : queues told rule ≡ true
  pub waits : waits_for states rules rule file ≡ true

-- a rule is this one, which waits for a file
pub record IsWaiter (states : List RuleState) (rules : List Kept) (file : NodeId) (this rule : ℕ) : Type 0 where
  pub is : rule ≡ this
  pub waits : waits_for states rules this file ≡ true

-- whatever waits for a rule was seen
pub record IsFollowed (states : List RuleState) (rules : List Kept) (waiters : List (List RuleId)) (seen : List Bool) (other : ℕ) : Type 0 where
  pub all : (rule : ℕ) → WaitsOn states rules waiters rule other → is_seen seen rule ≡ true

-- Rules of a kind that weren't seen are, one after another, and each stands behind those found before, with this one at fault.
pub data Finds (Kind : ℕ → Type 0) (fault : RuleId) (seen : List Bool) (pairs : List (RuleId × RuleId)) : List Bool → List (RuleId × RuleId) → Type 0 where
  nothing : Finds Kind fault seen pairs seen pairs
  one_more : {later : List Bool} {found : List (RuleId × RuleId)} (rule : RuleId) → Kind rule.0 → is_seen later rule.0 ≡ false → Finds Kind fault seen pairs later found
      → Finds Kind fault seen pairs (slice_set later rule.0 true) (found ++ (rule, fault) ∷ [])

-- the same of what the walks keep
abbrev pub FindsIn : (ℕ → Type 0) → RuleId → Held → Held → Type 0
FindsIn Kind fault old new = Finds Kind fault old.seen.items old.pairs.items new.seen.items new.pairs.items

-- of so many rules those at fault were seen, and no others; none was found
pub record IsBlankHeld (count : ℕ) (faulty : List RuleId) (held : Held) : Type 0 where
  pub size : length held.seen.items ≡ count
  pub same : (rule : ℕ) → rule < count → is_seen held.seen.items rule ≡ is_among rule faulty
  pub none : held.pairs.items ≡ []

-- each rule can be seen, and those at fault were
pub record AreAllSeen (rules : List Kept) (faulty : List RuleId) (seen : List Bool) : Type 0 where
  pub size : length seen ≡ length rules
  pub each : (rule : ℕ) → is_among rule faulty ≡ true → is_seen seen rule ≡ true

-- A walk from a rule at fault found what that holds. Whatever waits for it was seen, and whatever waits for what was found before a place.
pub record WalksTo (states : List RuleState) (rules : List Kept) (waiters : List (List RuleId)) (fault : RuleId) (old new : Held) (place : ℕ) : Type 0 where
  pub finds : (faulty : List RuleId) → AreAllSeen rules faulty old.seen.items → FindsIn (IsHeldBy states rules waiters faulty fault.0) fault old new
  pub first : IsFollowed states rules waiters new.seen.items fault.0
  pub others : (n : ℕ) (pair : RuleId × RuleId) → length old.pairs.items ≤ n → n < place → slice_get new.pairs.items n ≡ Some pair → IsFollowed states rules waiters new.seen.items pair.0.0
