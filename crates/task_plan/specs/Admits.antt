-- How rules come to be needed, and with them what the graph says of them to be known.
use Rattle.std.specs.Prelude.{◌≡◌, ◌≢◌, ◌⊎◌, ◌++◌, ℕ, Bool, true, false, List, [], Some, None, MatchOption, length, slice_get, nat_eq, nat_lt}
use Rattle.std.specs.List.{list_any, list_all}
use Rattle.scons_base.specs.declared.ids.NodeId.{NodeId}
use Rattle.scons_base.specs.declared.ids.RuleId.{RuleId}
use Rattle.rule_graph.specs.declared.rule.Rule.{Rule}
use Rattle.rule_graph.specs.Graphs.{RuleGraph}
use Rattle.task_plan.specs.States.{state_of}
use Rattle.task_plan.specs.Named.{put_all, named_of, scanned_of, left_out_of}
use Rattle.task_plan.specs.Settled.{Kept, first_kept, origin_of}
use Rattle.task_plan.specs.Listed.{IsReach, with_found}
use Rattle.task_plan.specs.Plans.{Planned, wanted}
use Rattle.task_plan.specs.Met.{are_met, KeepsRoom}
use Rattle.task_plan.specs.declared.states.RuleState.TheVariants.{Unneeded, Waiting}
use Rattle.task_plan.specs.declared.want.PlanEvent.{PlanEvent}
use Rattle.task_plan.specs.declared.want.PlanEvent.TheVariants.{Scanned, Fresh, Started, DoneOk, DoneFailed, Absent, Halt}

-- what is known of a rule is what the graph says, and nothing was scanned for it
pub record IsFirstAt (graph : RuleGraph) (rules : List Kept) (rule : ℕ) : Type 0 where
  pub of : Rule
  pub at : slice_get graph.rules rule ≡ Some of
  pub is : slice_get rules rule ≡ Some (first_kept graph of)

-- what the graph says of a rule is known, and what it requires and depends on was met
pub record IsAdmitted (graph : RuleGraph) (plan : Planned) (rule : ℕ) : Type 0 where
  pub of : Rule
  pub at : slice_get graph.rules rule ≡ Some of
  pub is : slice_get plan.rules rule ≡ Some (first_kept graph of)
  pub met : are_met plan.origins (of.required ++ named_of of) ≡ true

-- what is known of a rule: the names that the graph has, and whole lists
pub record IsKnown (graph : RuleGraph) (rules : List Kept) (rule : ℕ) : Type 0 where
  pub of : Rule
  pub at : slice_get graph.rules rule ≡ Some of
  pub kept : Kept
  pub is : slice_get rules rule ≡ Some kept
  pub targets : kept.targets ≡ of.targets
  pub required : kept.required ≡ of.required
  pub named : kept.named ≡ named_of of
  pub sources : kept.sources ≡ scanned_of graph of
  pub left_out : kept.left_out ≡ left_out_of of
  pub whole : kept.whole ≡ true

-- The graph's rules are known where they are needed.
abbrev pub Fits : RuleGraph → Planned → Type 0
Fits graph plan = (rule : ℕ) → state_of plan.states rule ≢ Unneeded → IsKnown graph plan.rules rule

-- The files of a rule and its dependencies follow from what was scanned for it: the files breadth first from its scanned sources on, and
-- the dependencies as those that it names and then its files, each once.
pub record Follows (kept : Kept) : Type 0 where
  pub files : IsReach kept.sources kept.left_out kept.found kept.files
  pub deps : kept.deps ≡ put_all [] kept.named kept.files

-- so do those of each rule whose lists are whole
abbrev pub AllFollow : Planned → Type 0
AllFollow plan = (rule : ℕ) (kept : Kept) → slice_get plan.rules rule ≡ Some kept → kept.whole ≡ true → Follows kept

-- of a rule all is known that was, and what a further file includes
pub record TakesScan (old new : Planned) (rule : ℕ) (file : NodeId) (includes : List NodeId) : Type 0 where
  pub before : Kept
  pub was : slice_get old.rules rule ≡ Some before
  pub after : Kept
  pub is : slice_get new.rules rule ≡ Some after
  pub targets : after.targets ≡ before.targets
  pub required : after.required ≡ before.required
  pub named : after.named ≡ before.named
  pub sources : after.sources ≡ before.sources
  pub left_out : after.left_out ≡ before.left_out
  pub found : after.found ≡ with_found before.found file includes
  pub whole : after.whole ≡ true

-- what is known of other needed rules stays, and of rules that are needed now what the graph says is known, and what they need was met
pub record ScansFile (graph : RuleGraph) (old new : Planned) (rule : ℕ) (file : NodeId) (includes : List NodeId) : Type 0 where
  pub this : TakesScan old new rule file includes
  pub others : (r : ℕ) (kept : Kept) → r ≢ rule → state_of old.states r ≢ Unneeded → slice_get old.rules r ≡ Some kept → slice_get new.rules r ≡ Some kept
  pub met : (r : ℕ) → state_of old.states r ≡ Unneeded → state_of new.states r ≢ Unneeded → IsAdmitted graph new r

-- no state changes, nor what is known of a rule
pub record IsUnchanged (old new : Planned) : Type 0 where
  pub states : new.states ≡ old.states
  pub rules : new.rules ≡ old.rules

-- a scan that is wanted is noted, and no other
abbrev pub Scans : RuleGraph → Planned → ℕ → List NodeId → Planned → Type 0
Scans graph old rule includes new = MatchOption (wanted old rule) (IsUnchanged old new) (λ file. ScansFile graph old new rule file includes)

-- what an event makes of what is known of the rules: only a scan changes it
abbrev pub Knows : RuleGraph → Planned → PlanEvent → Planned → Type 0
Knows graph old (Scanned rule found) new = Scans graph old rule.0 found new
Knows graph old (Fresh rule) new = new.rules ≡ old.rules
Knows graph old (Started rule) new = new.rules ≡ old.rules
Knows graph old (DoneOk rule) new = new.rules ≡ old.rules
Knows graph old (DoneFailed rule) new = new.rules ≡ old.rules
Knows graph old (Absent rule node) new = new.rules ≡ old.rules
Knows graph old Halt new = new.rules ≡ old.rules

-- whether a rule stands among these
abbrev pub queues : List RuleId → ℕ → Bool
queues queue rule = list_any (λ q. nat_eq q.0 rule) queue

-- a rule is as needed as it was, and what was known of it is
pub record IsSame (old new : Planned) (rule : ℕ) : Type 0 where
  pub state : state_of new.states rule ≡ state_of old.states rule
  pub kept : (kept : Kept) → slice_get old.rules rule ≡ Some kept → slice_get new.rules rule ≡ Some kept

-- there may be more rules that aren't needed, and more files
pub record Widens (old new : Planned) : Type 0 where
  pub each : (rule : ℕ) → IsSame old new rule
  pub origins : (node : ℕ) → origin_of new.origins node ≡ origin_of old.origins node
  pub keeps : KeepsRoom old new

-- a rule was neither met nor is it to be admitted
pub record StaysAt (old new : Planned) (skip : ℕ → Bool) (queue : List RuleId) (rule : ℕ) : Type 0 where
  pub same : IsSame old new rule
  pub skipped : skip rule ≡ false
  pub queued : queues queue rule ≡ false

-- a rule is admitted, or it isn't needed, or waits to be admitted
abbrev pub Admission : RuleGraph → Planned → List RuleId → ℕ → Type 0
Admission graph new queue rule = IsAdmitted graph new rule ⊎ ((state_of new.states rule ≡ Unneeded) ⊎ (queues queue rule ≡ true))

-- a rule was met or was to be admitted
pub record ComesAt (graph : RuleGraph) (old new : Planned) (skip : ℕ → Bool) (queue : List RuleId) (rule : ℕ) : Type 0 where
  pub from : (state_of old.states rule ≡ Unneeded) ⊎ (skip rule ≡ true)
  pub to : Admission graph new queue rule

-- some rules were to be admitted, others were met; those that aren't admitted yet stand in a queue
pub record Admits (graph : RuleGraph) (old new : Planned) (skip : ℕ → Bool) (queue : List RuleId) : Type 0 where
  pub each : (rule : ℕ) → StaysAt old new skip queue rule ⊎ ComesAt graph old new skip queue rule
  pub keeps : KeepsRoom old new

abbrev pub are_rules : RuleGraph → List RuleId → Bool
are_rules graph queue = list_all (λ q. nat_lt q.0 (length graph.rules)) queue

-- rules that were met stand behind those that are to be admitted
pub record Brings (graph : RuleGraph) (old new : Planned) (skip : ℕ → Bool) (before after : List RuleId) : Type 0 where
  pub more : List RuleId
  pub is : after ≡ before ++ more
  pub rules : are_rules graph more ≡ true
  pub admits : Admits graph old new skip more

abbrev pub none : ℕ → Bool
none rule = false

-- a rule that wasn't needed is, and waits
pub record IsBegun (old new : Planned) (rule : ℕ) : Type 0 where
  pub was : state_of old.states rule ≡ Unneeded
  pub states : (r : ℕ) → r ≢ rule → state_of new.states r ≡ state_of old.states r
  pub rules : new.rules ≡ old.rules
  pub origins : new.origins ≡ old.origins
  pub room : length new.states ≡ length old.states

-- the file that was wanted was noted
pub record NotesFile (old new : Planned) (rule : ℕ) (includes : List NodeId) : Type 0 where
  pub file : NodeId
  pub wants : wanted old rule ≡ Some file
  pub waits : state_of old.states rule ≡ Waiting
  pub this : TakesScan old new rule file includes
  pub others : (r : ℕ) (kept : Kept) → r ≢ rule → slice_get old.rules r ≡ Some kept → slice_get new.rules r ≡ Some kept

-- no file was wanted
pub record NotesNone (old new : Planned) (rule : ℕ) : Type 0 where
  pub wants : wanted old rule ≡ None
  pub same : IsUnchanged old new
