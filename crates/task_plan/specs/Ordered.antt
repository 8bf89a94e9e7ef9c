-- That the queue keeps to the build order.
use Rattle.std.specs.Prelude.{◌≡◌, ◌≢◌, ◌<◌, ◌⊎◌, ◌++◌, ◌∷◌, [], ℕ, Bool, true, false, List, Some, length, not, slice_get}
use Rattle.std.specs.List.{filter, list_all}
use Rattle.scons_base.specs.declared.ids.NodeId.{NodeId}
use Rattle.scons_base.specs.declared.ids.RuleId.{RuleId}
use Rattle.rule_graph.specs.Rules.{rule_of}
use Rattle.rule_graph.specs.Graphs.{RuleGraph}
use Rattle.task_plan.specs.States.{state_of}
use Rattle.task_plan.specs.Queues.{Queued, is_open, number_of}
use Rattle.task_plan.specs.Settled.{Kept, origin_of, is_settled, is_done}
use Rattle.task_plan.specs.Named.{put_all, stands}
use Rattle.task_plan.specs.Met.{is_met, are_met}
use Rattle.task_plan.specs.Plans.{Planned, CanDecide}
use Rattle.task_plan.specs.Orders.{is_among, needed_of, Visits, IsOrder}
use Rattle.task_plan.specs.declared.files.Origin.TheVariants.{Made}
use Rattle.task_plan.specs.declared.want.PlanEvent.{PlanEvent}
use Rattle.task_plan.specs.declared.want.PlanEvent.TheVariants.{Scanned, Fresh, Started, DoneOk, DoneFailed, Absent, Halt}
use Rattle.task_plan.specs.declared.states.RuleState.{RuleState}
use Rattle.task_plan.specs.declared.states.RuleState.TheVariants.{Unneeded, Waiting, Running, Settled, Failed, Lacking}

-- whether a rule is still to be settled
abbrev pub is_left : List RuleState → ℕ → Bool
is_left states rule = not (is_settled (state_of states rule))

-- of these rules, in their order, those that are still to be settled
abbrev pub left : List RuleState → List RuleId → List RuleId
left states rules = filter (λ rule. is_left states rule.0) rules

-- what a rule needs and is still to be settled, in order
abbrev pub needs_left : Planned → ℕ → List RuleId
needs_left plan rule = left plan.states (needed_of plan.rules plan.origins rule)

-- What is left of the queue stands depth first: from what is left of the roots on, each rule behind what is left of its needs.
pub record IsOrderLeft (plan : Planned) : Type 0 where
  pub met : List RuleId
  pub visits : Visits (length plan.rules) (needs_left plan) [] (left plan.states plan.notes.roots) met (left plan.states plan.queue.order)

-- a rule runs, or is settled
abbrev pub is_past : RuleState → Bool
is_past Unneeded = false
is_past Waiting = false
is_past Running = true
is_past Settled = true
is_past Failed = false
is_past Lacking = false

-- all that a rule requires and depends on is done
abbrev pub AreNeedsDone : Planned → Kept → Type 0
AreNeedsDone plan kept = list_all (λ n. is_done plan.states plan.origins n) (kept.required ++ kept.deps) ≡ true

-- The queue keeps to the build order where that fits, less what is settled. A rule runs or is settled only where all its needs are done. The
-- rules of the requested nodes are needed.
pub record KeepsOrder (plan : Planned) : Type 0 where
  pub ordered : plan.notes.is_ordered ≡ true → IsOrderLeft plan
  pub done : (rule : ℕ) (kept : Kept) → is_past (state_of plan.states rule) ≡ true → slice_get plan.rules rule ≡ Some kept → AreNeedsDone plan kept
  pub roots : (rule : ℕ) → is_among rule plan.notes.roots ≡ true → state_of plan.states rule ≢ Unneeded

-- Of the rules that can be decided this one stands first in an order: none that stands before it can be decided, and none stands outside.
pub record IsFirstOf (plan : Planned) (order : List RuleId) (rule : RuleId) : Type 0 where
  pub before : List RuleId
  pub behind : List RuleId
  pub is : order ≡ before ++ rule ∷ behind
  pub none : (other : ℕ) → is_among other before ≡ true → CanDecide plan other → ⊥
  pub all : (other : ℕ) → CanDecide plan other → is_among other order ≡ true

-- an open rule stands at its place
pub record AreAtPlaces (queue : Queued) : Type 0 where
  pub each : (rule : ℕ) → is_open queue rule ≡ true → slice_get queue.order (number_of queue rule) ≡ Some (record { 0 = rule })

-- the order stands as it did, from the same roots on, and fits only where it did
pub record LeavesQueue (old new : Planned) : Type 0 where
  pub order : new.queue.order ≡ old.queue.order
  pub roots : new.notes.roots ≡ old.notes.roots
  pub fits : new.notes.is_ordered ≡ true → old.notes.is_ordered ≡ true

-- the order stands as it did, or it's the build order
pub record PutsInOrder (old new : Planned) : Type 0 where
  pub roots : new.notes.roots ≡ old.notes.roots
  pub order : LeavesQueue old new ⊎ IsOrder new.rules new.origins new.notes.roots new.queue.order

-- The order stands as it did, and so does where met files come from; where it still fits no rule is needed that wasn't.
pub record LeavesOrder (old new : Planned) : Type 0 where
  pub queue : LeavesQueue old new
  pub states : new.notes.is_ordered ≡ true → (rule : ℕ) → state_of new.states rule ≡ state_of old.states rule
  pub origins : (n : NodeId) → is_met old.origins n ≡ true → origin_of new.origins n.0 ≡ origin_of old.origins n.0

-- a rule stands in an order before another one
pub record Precedes (order : List RuleId) (rule other : ℕ) : Type 0 where
  pub place : ℕ
  pub further : ℕ
  pub before : place < further
  pub at : slice_get order place ≡ Some (record { 0 = rule })
  pub behind : slice_get order further ≡ Some (record { 0 = other })

-- the rule that makes a file stands before the one that needs it
pub record ComesBefore (plan : Planned) (rule : ℕ) (n : NodeId) : Type 0 where
  pub by : RuleId
  pub made : origin_of plan.origins n.0 ≡ Made by
  pub precedes : Precedes plan.queue.order by.0 rule

-- a file that a rule needs is done, or comes before the rule
abbrev pub IsReadyFor : Planned → ℕ → NodeId → Type 0
IsReadyFor plan rule n = (is_done plan.states plan.origins n ≡ true) ⊎ ComesBefore plan rule n

-- that is so of these files where the order still fits
abbrev pub AreReady : Planned → ℕ → List NodeId → Type 0
AreReady plan rule files = plan.notes.is_ordered ≡ true → (n : NodeId) → stands files n ≡ true → IsReadyFor plan rule n

-- what a rule needs keeps its order, or is done
abbrev pub IsInPlace : Planned → List Kept → ℕ → Bool → Type 0
IsInPlace plan rules rule in_order = (in_order ≡ true) ⊎ ((kept : Kept) → slice_get rules rule ≡ Some kept → AreNeedsDone plan kept)

-- new files of a rule were met: where the order still fits they are done or come before it, and the rule's needs keep their order or are done
pub record GrowsInOrder (old new : Planned) (rule : ℕ) (in_order : Bool) (news : List NodeId) : Type 0 where
  pub leaves : LeavesOrder old new
  pub ready : AreReady new rule news
  pub place : new.notes.is_ordered ≡ true → IsInPlace new old.rules rule in_order

-- a scan for a rule was noted: where the new files stand behind all others they come behind the dependencies
pub record TakesFiles (old new : Planned) (rule : ℕ) (in_order : Bool) (news : List NodeId) : Type 0 where
  pub leaves : LeavesQueue old new
  pub before : Kept
  pub was : slice_get old.rules rule ≡ Some before
  pub after : Kept
  pub is : slice_get new.rules rule ≡ Some after
  pub required : after.required ≡ before.required
  pub deps : in_order ≡ true → after.deps ≡ put_all [] before.deps news

-- what a needed rule needs was met, and it depends on all that it depended on
pub record KeepsDeps (old new : Planned) (rule : ℕ) : Type 0 where
  pub met : state_of old.states rule ≢ Unneeded → (before : Kept) → slice_get old.rules rule ≡ Some before → are_met old.origins (before.required ++ before.deps) ≡ true
  pub stays : (before after : Kept) → slice_get old.rules rule ≡ Some before → slice_get new.rules rule ≡ Some after → (n : NodeId) → stands before.deps n ≡ true → stands after.deps n ≡ true

-- what is left of a rule's needs is what was, and behind that rules which stand before it
pub record NeedsMore (old new : Planned) (rule : ℕ) : Type 0 where
  pub more : List RuleId
  pub is : left old.states (needed_of new.rules new.origins rule) ≡ left old.states (needed_of old.rules old.origins rule) ++ more
  pub before : (r : ℕ) → is_among r more ≡ true → Precedes new.queue.order r rule
  pub still : (r : ℕ) → is_among r more ≡ true → (is_left old.states r ≡ true) × (is_left old.states rule ≡ true)

-- A scan for a rule leaves the order; where that still fits no rule is needed that wasn't, and what more the rule needs stands before it.
pub record ScansOrder (old new : Planned) (rule : ℕ) : Type 0 where
  pub queue : LeavesQueue old new
  pub states : new.notes.is_ordered ≡ true → (r : ℕ) → state_of new.states r ≡ state_of old.states r
  pub needs : new.notes.is_ordered ≡ true → NeedsMore old new rule

-- a scan leaves the order in this way, or makes it anew
pub record TakesOrder (old new : Planned) (rule : ℕ) : Type 0 where
  pub roots : new.notes.roots ≡ old.notes.roots
  pub order : ScansOrder old new rule ⊎ IsOrder new.rules new.origins new.notes.roots new.queue.order

-- what a scan makes of the order; what other events do stands elsewhere
abbrev pub TakesBy : Planned → PlanEvent → Planned → Type 0
TakesBy old (Scanned rule found) new = KeepsDeps old new rule.0 → TakesOrder old new rule.0
TakesBy old (Fresh rule) new = Unit {0}
TakesBy old (Started rule) new = Unit {0}
TakesBy old (DoneOk rule) new = Unit {0}
TakesBy old (DoneFailed rule) new = Unit {0}
TakesBy old (Absent rule node) new = Unit {0}
TakesBy old Halt new = Unit {0}

-- by what the graph says a rule makes a node that was met
pub record MakesMet (graph : RuleGraph) (plan : Planned) (rule : ℕ) : Type 0 where
  pub node : NodeId
  pub made : rule_of graph.rules node.0 ≡ Some rule
  pub met : is_met plan.origins node ≡ true

-- each root does
pub record AreRoots (graph : RuleGraph) (plan : Planned) : Type 0 where
  pub each : (rule : ℕ) → is_among rule plan.notes.roots ≡ true → MakesMet graph plan rule

-- requested nodes were met, whose rules are roots
pub record MeetsRoots (graph : RuleGraph) (old new : Planned) : Type 0 where
  pub fits : new.notes.is_ordered ≡ true → old.notes.is_ordered ≡ true
  pub roots : AreRoots graph old → AreRoots graph new

-- the queue has the build order where it fits, from rules that make met nodes on
pub record BeginsOrder (graph : RuleGraph) (plan : Planned) : Type 0 where
  pub ordered : plan.notes.is_ordered ≡ true → IsOrder plan.rules plan.origins plan.notes.roots plan.queue.order
  pub roots : AreRoots graph plan
