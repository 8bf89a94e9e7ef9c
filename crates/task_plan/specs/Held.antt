-- Rules that a rule at fault holds: they wait for it, or for others that do.
use Rattle.std.specs.Prelude.{◌≡◌, ◌<◌, ◌&&◌, ℕ, Bool, true, false, List, Some, length, map, nat_eq, slice_get}
use Rattle.std.specs.List.{IsDistinct}
use Rattle.scons_base.specs.declared.ids.NodeId.{NodeId}
use Rattle.scons_base.specs.declared.ids.RuleId.{RuleId}
use Rattle.task_plan.specs.States.{state_of, is_waiting}
use Rattle.task_plan.specs.Named.{stands}
use Rattle.task_plan.specs.Noted.{waiters_of}
use Rattle.task_plan.specs.Settled.{Kept, is_settled}
use Rattle.task_plan.specs.Plans.{Planned}
use Rattle.task_plan.specs.Met.{needs_at}
use Rattle.task_plan.specs.Admits.{queues}
use Rattle.task_plan.specs.Orders.{is_among, needed_of}
use Rattle.task_plan.specs.Watched.{targets_at}
use Rattle.task_plan.specs.declared.states.RuleState.{RuleState}
use Rattle.task_plan.specs.declared.states.RuleState.TheVariants.{Waiting}

-- a rule waits, and requires or depends on a file
abbrev pub waits_for : List RuleState → List Kept → ℕ → NodeId → Bool
waits_for states rules rule file = is_waiting (state_of states rule) && stands (needs_at rules rule) file

-- a rule waits for a target of another one: it needs that file, and stands among the rules that are told when it is done
pub record WaitsOn (states : List RuleState) (rules : List Kept) (waiters : List (List RuleId)) (rule other : ℕ) : Type 0 where
  pub target : NodeId
  pub made : stands (targets_at rules other) target ≡ true
  pub told : queues (waiters_of waiters target.0) rule ≡ true
  pub needs : waits_for states rules rule target ≡ true

-- A rule at fault holds another one: that isn't at fault itself, has a place, and waits for the rule at fault, or for one that is held in turn.
pub data IsHeldBy (states : List RuleState) (rules : List Kept) (waiters : List (List RuleId)) (faulty : List RuleId) (fault : ℕ) : ℕ → Type 0 where
  directly : {rule : ℕ} → is_among rule faulty ≡ false → rule < length rules → WaitsOn states rules waiters rule fault → IsHeldBy states rules waiters faulty fault rule
  in_turn : {rule : ℕ} (other : ℕ) → is_among rule faulty ≡ false → rule < length rules → WaitsOn states rules waiters rule other → IsHeldBy states rules waiters faulty fault other
      → IsHeldBy states rules waiters faulty fault rule

-- each of these pairs is a rule and one at fault that holds it
pub record AreHeld (states : List RuleState) (rules : List Kept) (waiters : List (List RuleId)) (faulty : List RuleId) (pairs : List (RuleId × RuleId)) : Type 0 where
  pub fault : (n : ℕ) (pair : RuleId × RuleId) → slice_get pairs n ≡ Some pair → is_among pair.1.0 faulty ≡ true
  pub held : (n : ℕ) (pair : RuleId × RuleId) → slice_get pairs n ≡ Some pair → IsHeldBy states rules waiters faulty pair.1.0 pair.0.0

-- the rules that stand first in these pairs
abbrev pub firsts : List (RuleId × RuleId) → List RuleId
firsts pairs = map (λ pair. pair.0) pairs

-- whatever one of the rules at fault holds stands first in a pair
pub record HasAllHeld (states : List RuleState) (rules : List Kept) (waiters : List (List RuleId)) (faulty : List RuleId) (pairs : List (RuleId × RuleId)) : Type 0 where
  pub all : (rule fault : ℕ) → is_among fault faulty ≡ true → IsHeldBy states rules waiters faulty fault rule → is_among rule (firsts pairs) ≡ true

-- no rule stands first in two pairs
abbrev pub HasEachOnce : List (RuleId × RuleId) → Type 0
HasEachOnce pairs = IsDistinct nat_eq (map (λ pair. pair.0.0) pairs)

-- of the rules at fault, in their order, none before this one holds a rule
pub record IsFirstFault (states : List RuleState) (rules : List Kept) (waiters : List (List RuleId)) (faulty : List RuleId) (rule : ℕ) (fault : RuleId) : Type 0 where
  pub place : ℕ
  pub at : slice_get faulty place ≡ Some fault
  pub none : (n : ℕ) (other : RuleId) → n < place → slice_get faulty n ≡ Some other → IsHeldBy states rules waiters faulty other.0 rule → ⊥

-- each rule stands with the first of the rules at fault, in their order, that holds it
pub record HaveFirstFaults (states : List RuleState) (rules : List Kept) (waiters : List (List RuleId)) (faulty : List RuleId) (pairs : List (RuleId × RuleId)) : Type 0 where
  pub each : (n : ℕ) (pair : RuleId × RuleId) → slice_get pairs n ≡ Some pair → IsFirstFault states rules waiters faulty pair.0.0 pair.1

-- a rule that waits, and needs one that isn't settled, waits on it
abbrev pub WaitOnNeeds : Planned → Type 0
WaitOnNeeds plan = (rule other : ℕ) → state_of plan.states rule ≡ Waiting → is_among other (needed_of plan.rules plan.origins rule) ≡ true
    → is_settled (state_of plan.states other) ≡ false → WaitsOn plan.states plan.rules plan.notes.waiters rule other

-- A rule that waits, and isn't at fault, needs another one that isn't settled, directly or through others like it.
pub data NeedsFault (plan : Planned) (faulty : List RuleId) (fault : ℕ) : ℕ → Type 0 where
  directly : {rule : ℕ} → is_among rule faulty ≡ false → state_of plan.states rule ≡ Waiting → is_among fault (needed_of plan.rules plan.origins rule) ≡ true
      → is_settled (state_of plan.states fault) ≡ false → NeedsFault plan faulty fault rule
  in_turn : {rule : ℕ} (other : ℕ) → is_among rule faulty ≡ false → state_of plan.states rule ≡ Waiting → is_among other (needed_of plan.rules plan.origins rule) ≡ true
      → NeedsFault plan faulty fault other → NeedsFault plan faulty fault rule

-- such a rule is held by that one
abbrev pub HoldWhatNeeds : Planned → Type 0
HoldWhatNeeds plan = (faulty : List RuleId) (fault rule : ℕ) → NeedsFault plan faulty fault rule → IsHeldBy plan.states plan.rules plan.notes.waiters faulty fault rule
