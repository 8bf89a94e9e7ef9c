-- How the steps of a plan see to it that it overlooks nothing.
use Rattle.std.specs.Prelude.{◌≡◌, ◌≢◌, ◌<◌, ◌≤◌, ◌++◌, ◌||◌, ◌⊎◌, ℕ, Bool, true, false, List, Some, length, get_or, slice_get, slice_set, nat_eq}
use Rattle.scons_base.specs.declared.ids.NodeId.{NodeId}
use Rattle.scons_base.specs.declared.ids.RuleId.{RuleId}
use Rattle.rule_graph.specs.Rules.{are_below}
use Rattle.rule_graph.specs.Graphs.{RuleGraph}
use Rattle.task_plan.specs.States.{state_of}
use Rattle.task_plan.specs.Queues.{is_open, is_placed}
use Rattle.task_plan.specs.Named.{stands}
use Rattle.task_plan.specs.Noted.{Places, places_of, waiters_of}
use Rattle.task_plan.specs.Settled.{Kept, origin_of, is_settled, is_done, is_scanned, IsUnscannedAt}
use Rattle.task_plan.specs.Plans.{Planned}
use Rattle.task_plan.specs.Met.{is_met}
use Rattle.task_plan.specs.Admits.{queues, none}
use Rattle.task_plan.specs.Watched.{every, is_told, IsSought, IsHeard, AreSeenTo, IsWatchedAt, AreWatched, IsOffered, AreQueued, IsInOrder, HasNotes}
use Rattle.task_plan.specs.declared.states.RuleState.TheVariants.{Waiting}
use Rattle.task_plan.specs.declared.task.Task.{Task}

-- these files, and another one
abbrev pub also : (NodeId → Bool) → NodeId → NodeId → Bool
also known node n = known n || nat_eq n.0 node.0

-- All that concerns the watch is as it was. There may be room for more rules and files.
pub record WidensWatch (old new : Planned) : Type 0 where
  pub states : (rule : ℕ) → state_of new.states rule ≡ state_of old.states rule
  pub origins : (node : ℕ) → origin_of new.origins node ≡ origin_of old.origins node
  pub rules : (rule : ℕ) → state_of old.states rule ≡ Waiting → slice_get new.rules rule ≡ slice_get old.rules rule
  pub places : (rule : ℕ) → state_of old.states rule ≡ Waiting → slice_get new.notes.places rule ≡ slice_get old.notes.places rule
  pub waiters : (node : ℕ) → waiters_of new.notes.waiters node ≡ waiters_of old.notes.waiters node
  pub marks : (rule : ℕ) → get_or new.marks rule false ≡ get_or old.marks rule false
  pub queue : new.queue ≡ old.queue
  pub ordered : new.notes.is_ordered ≡ old.notes.is_ordered
  pub lists : length old.origins ≤ length old.notes.waiters → length new.origins ≤ length new.notes.waiters

-- What was watched and queued is, whatever stands apart; the rules that came stand apart too. A rule hears of what it heard of.
pub record KeepsWatch (old new : Planned) (more : List RuleId) : Type 0 where
  pub watched : (apart : ℕ → Bool) → AreWatched old every apart → AreWatched new every (λ r. apart r || queues more r)
  pub queued : (apart : ℕ → Bool) → AreQueued old apart → AreQueued new apart
  pub heard : (rule : ℕ) (n : NodeId) → IsHeard old every rule n → IsHeard new every rule n
  pub met : (n : NodeId) → is_met old.origins n ≡ true → is_met new.origins n ≡ true
  pub told : (n : NodeId) → is_met old.origins n ≡ true → is_told new every n ≡ is_told old every n
  pub room : HasNotes old → HasNotes new

-- the same, where the rules that came were put behind others
pub record BringsWatch (old new : Planned) (before after : List RuleId) : Type 0 where
  pub more : List RuleId
  pub is : after ≡ before ++ more
  pub keeps : KeepsWatch old new more

-- a rule hears of these files
pub record Hears (graph : RuleGraph) (old new : Planned) (rule : ℕ) (nodes : List NodeId) : Type 0 where
  pub each : are_below (length graph.nodes) nodes ≡ true → HasNotes old → (n : NodeId) → stands nodes n ≡ true → IsHeard new every rule n

-- what is known of the rules stays, and where they stand; the order may fit no longer
pub record LeavesRules (old new : Planned) : Type 0 where
  pub ordered : new.notes.is_ordered ≡ true → old.notes.is_ordered ≡ true
  pub rules : new.rules ≡ old.rules
  pub places : new.notes.places ≡ old.notes.places
  pub marks : new.marks ≡ old.marks

-- a rule begins anew with a task, and the order doesn't fit
pub record PutsTask (old new : Planned) (rule : ℕ) (task : Task) : Type 0 where
  pub rest : new ≡ record old { queue = new.queue; rules = new.rules; marks = new.marks; nexts = new.nexts; notes = record old.notes { places = new.notes.places; is_ordered = false } }
  pub places : new.notes.places ≡ slice_set old.notes.places rule (places_of task)
  pub marks : (r : ℕ) → r ≢ rule → get_or new.marks r false ≡ get_or old.marks r false
  pub room : length new.marks ≡ length old.marks

-- where a rule stands now is where it stood, but for the needs that it passed
pub record PassesFrom (old : Planned) (rule : ℕ) (now : Places) : Type 0 where
  pub was : Places
  pub at : slice_get old.notes.places rule ≡ Some was
  pub rest : now ≡ record was { passed = now.passed }

-- a rule passes the needs that are done, up to one that isn't; nothing else changes
pub record Passes (old new : Planned) (rule : ℕ) : Type 0 where
  pub rest : new ≡ record old { notes = record old.notes { places = new.notes.places } }
  pub others : (r : ℕ) → r ≢ rule → slice_get new.notes.places r ≡ slice_get old.notes.places r
  pub from : (now : Places) → slice_get new.notes.places rule ≡ Some now → PassesFrom old rule now
  pub undone : (kept : Kept) (now : Places) (n : NodeId) → slice_get old.rules rule ≡ Some kept → slice_get new.notes.places rule ≡ Some now
      → slice_get (kept.required ++ kept.deps) now.passed ≡ Some n → is_done old.states old.origins n ≡ false

-- where a rule stands now is where it stood, but for its next file
pub record GoesFrom (old : Planned) (rule : ℕ) (now : Places) : Type 0 where
  pub was : Places
  pub at : slice_get old.notes.places rule ≡ Some was
  pub rest : now ≡ record was { next = now.next }

-- none of a rule's files from a place on and before the next one can be scanned
pub record AreUnreadyFrom (plan : Planned) (kept : Kept) (start next : ℕ) : Type 0 where
  pub none : (place : ℕ) (n : NodeId) → start ≤ place → place < next → slice_get kept.files place ≡ Some n → is_scanned kept.found n ≡ false → is_done plan.states plan.origins n ≡ false

-- a waiting rule goes to the next file that can be scanned, and is marked where there is one; nothing else changes
pub record Readies (old new : Planned) (rule start : ℕ) : Type 0 where
  pub rest : new ≡ record old { marks = new.marks; nexts = new.nexts; notes = record old.notes { places = new.notes.places } }
  pub others : (r : ℕ) → r ≢ rule → slice_get new.notes.places r ≡ slice_get old.notes.places r
  pub marks : (r : ℕ) → r ≢ rule → get_or new.marks r false ≡ get_or old.marks r false
  pub room : length new.marks ≡ length old.marks
  pub from : (now : Places) → slice_get new.notes.places rule ≡ Some now → GoesFrom old rule now
  pub none : (kept : Kept) (now : Places) → state_of old.states rule ≡ Waiting → slice_get old.rules rule ≡ Some kept → slice_get new.notes.places rule ≡ Some now → AreUnreadyFrom old kept start now.next
  pub marked : (kept : Kept) (now : Places) → state_of old.states rule ≡ Waiting → rule < length old.marks → slice_get old.rules rule ≡ Some kept → slice_get new.notes.places rule ≡ Some now
      → now.next < length kept.files → get_or new.marks rule false ≡ true
  pub still : ((was : Places) → slice_get old.notes.places rule ≡ Some was → start ≤ was.next) → get_or old.marks rule false ≡ true → get_or new.marks rule false ≡ true

-- a rule that stands in the order is open where it can be decided
pub record Offers (old new : Planned) (rule : ℕ) : Type 0 where
  pub rest : new ≡ record old { queue = new.queue }
  pub order : new.queue.order ≡ old.queue.order
  pub numbers : new.queue.numbers ≡ old.queue.numbers
  pub placed : (r : ℕ) → is_placed new.queue r ≡ is_placed old.queue r
  pub others : (r : ℕ) → r ≢ rule → is_open new.queue r ≡ is_open old.queue r
  pub this : is_placed old.queue rule ≡ true → IsOffered new rule

-- a rule that wasn't settled is closed, and in another state
pub record Decides (old new : Planned) (rule : ℕ) : Type 0 where
  pub before : is_settled (state_of old.states rule) ≡ false
  pub rest : new ≡ record old { states = new.states; queue = new.queue }
  pub placed : (r : ℕ) → is_placed new.queue r ≡ is_placed old.queue r
  pub others : (r : ℕ) → r ≢ rule → is_open new.queue r ≡ is_open old.queue r

-- one of the rules that wait for a file is told of it
pub record Tells (old new : Planned) (rule : ℕ) (node : NodeId) : Type 0 where
  pub this : HasNotes old → (known : NodeId → Bool) → IsWatchedAt old known rule → IsWatchedAt new (also known node) rule
  pub others : (known : NodeId → Bool) (r : ℕ) → r ≢ rule → IsWatchedAt old known r → IsWatchedAt new known r
  pub queued : AreQueued old none → AreQueued new none
  pub ordered : IsInOrder old → IsInOrder new
  pub room : HasNotes old → HasNotes new
  pub waiters : new.notes.waiters ≡ old.notes.waiters

-- before a place no file of a rule that it hasn't passed is this one
pub record StartsBefore (plan : Planned) (rule : ℕ) (node : NodeId) (start : ℕ) : Type 0 where
  pub within : (at : Places) → slice_get plan.notes.places rule ≡ Some at → start ≤ at.next
  pub before : (kept : Kept) (place : ℕ) (n : NodeId) → slice_get plan.rules rule ≡ Some kept → place < start → slice_get kept.files place ≡ Some n → nat_eq n.0 node.0 ≡ false

-- all of them are
pub record Releases (old new : Planned) (node : NodeId) : Type 0 where
  pub watched : HasNotes old → (known : NodeId → Bool) → AreWatched old known none → AreWatched new (also known node) none
  pub queued : AreQueued old none → AreQueued new none
  pub ordered : IsInOrder old → IsInOrder new
  pub room : HasNotes old → HasNotes new

-- of what a rule has to do with it has heard, or it is among the new files
pub record IsHalfWatched (plan : Planned) (rule : ℕ) (news : List NodeId) (kept : Kept) (at : Places) : Type 0 where
  pub whole : kept.whole ≡ true
  pub sought : (n : NodeId) → IsSought kept n → IsHeard plan every rule n ⊎ (stands news n ≡ true)
  pub scanned : IsUnscannedAt kept.found kept.files at.whole
  pub next : AreSeenTo plan every kept at.next
  pub met : (place : ℕ) (n : NodeId) → place < at.next → slice_get kept.files place ≡ Some n → is_met plan.origins n ≡ true

-- that is so of a rule that waits
pub record IsHalfWatchedAt (plan : Planned) (rule : ℕ) (news : List NodeId) : Type 0 where
  pub waits : state_of plan.states rule ≡ Waiting
  pub each : (kept : Kept) (at : Places) → slice_get plan.rules rule ≡ Some kept → slice_get plan.notes.places rule ≡ Some at → IsHalfWatched plan rule news kept at

-- what a file includes was noted, and its rule stands apart for now
pub record NotesWatch (old new : Planned) (rule : ℕ) (news : List NodeId) : Type 0 where
  pub watched : AreWatched old every none → AreWatched new every (nat_eq rule)
  pub half : AreWatched old every none → IsHalfWatchedAt new rule news
  pub queued : AreQueued old none → AreQueued new (nat_eq rule)
  pub room : HasNotes old → HasNotes new

-- the new files were met, and the rule is watched
pub record GrowsWatch (graph : RuleGraph) (old new : Planned) (rule : ℕ) (news : List NodeId) : Type 0 where
  pub watched : are_below (length graph.nodes) news ≡ true → HasNotes old → IsHalfWatchedAt old rule news → AreWatched old every (nat_eq rule) → AreWatched new every none
  pub queued : AreQueued old (nat_eq rule) → AreQueued new (nat_eq rule)
  pub room : HasNotes old → HasNotes new

-- a rule that was needed is watched, and those that it needs stand apart
pub record AdmitsWatch (old new : Planned) (rule : ℕ) (before after : List RuleId) : Type 0 where
  pub more : List RuleId
  pub is : after ≡ before ++ more
  pub watched : (apart : ℕ → Bool) → HasNotes old → AreWatched old every (λ r. apart r || nat_eq rule r) → AreWatched new every (λ r. apart r || queues more r)
  pub queued : (apart : ℕ → Bool) → AreQueued old apart → AreQueued new apart
  pub room : HasNotes old → HasNotes new

-- of the rules that came to be needed all but some are watched
pub record EndsWatch (old new : Planned) (needed rest : List RuleId) : Type 0 where
  pub watched : HasNotes old → AreWatched old every (queues needed) → AreWatched new every (queues rest)
  pub queued : (apart : ℕ → Bool) → AreQueued old apart → AreQueued new apart
  pub room : HasNotes old → HasNotes new

-- the order is seen to
pub record Orders (old new : Planned) : Type 0 where
  pub watched : (apart : ℕ → Bool) → AreWatched old every apart → AreWatched new every apart
  pub queued : (apart : ℕ → Bool) → AreQueued old apart → AreQueued new apart
  pub ordered : IsInOrder new
  pub room : HasNotes old → HasNotes new
