-- Rules that wait for themselves.
use Rattle.std.specs.Prelude.{◌≡◌, ◌<◌, ◌+◌, ◌++◌, ℕ, Bool, true, false, List, Some, length, slice_get}
use Rattle.scons_base.specs.declared.ids.NodeId.{NodeId}
use Rattle.scons_base.specs.declared.ids.RuleId.{RuleId}
use Rattle.task_plan.specs.States.{state_of}
use Rattle.task_plan.specs.Settled.{Kept, origin_of}
use Rattle.task_plan.specs.declared.states.RuleState.{RuleState}
use Rattle.task_plan.specs.declared.states.RuleState.TheVariants.{Unneeded, Waiting, Running, Settled, Failed, Lacking}
use Rattle.task_plan.specs.declared.files.Origin.{Origin}
use Rattle.task_plan.specs.declared.files.Origin.TheVariants.{Made}

-- a rule that is needed, and isn't settled
abbrev pub is_unsettled : RuleState → Bool
is_unsettled Unneeded = false
is_unsettled Waiting = true
is_unsettled Running = true
is_unsettled Settled = false
is_unsettled Failed = true
is_unsettled Lacking = true

-- one of these files is made by a rule
pub record IsMadeBy (origins : List Origin) (files : List NodeId) (rule : RuleId) : Type 0 where
  pub place : ℕ
  pub file : NodeId
  pub at : slice_get files place ≡ Some file
  pub made : origin_of origins file.0 ≡ Made rule

-- a rule waits for another one: it is needed and isn't settled, and a file that it requires or depends on is made by that one
pub record WaitsFor (states : List RuleState) (rules : List Kept) (origins : List Origin) (rule other : RuleId) : Type 0 where
  pub unsettled : is_unsettled (state_of states rule.0) ≡ true
  pub kept : Kept
  pub at : slice_get rules rule.0 ≡ Some kept
  pub needs : IsMadeBy origins (kept.required ++ kept.deps) other

-- each of these rules waits for the next one
pub record IsChain (states : List RuleState) (rules : List Kept) (origins : List Origin) (chain : List RuleId) : Type 0 where
  pub each : (n : ℕ) (a b : RuleId) → slice_get chain n ≡ Some a → slice_get chain (n + 1) ≡ Some b → WaitsFor states rules origins a b

-- the last of these rules, if there is one, waits for this one
pub record IsLed (states : List RuleState) (rules : List Kept) (origins : List Origin) (chain : List RuleId) (rule : RuleId) : Type 0 where
  pub last : (n : ℕ) (a : RuleId) → n + 1 ≡ length chain → slice_get chain n ≡ Some a → WaitsFor states rules origins a rule

-- rules of which each waits for the next one, and the last waits for the first
pub record IsCycle (states : List RuleState) (rules : List Kept) (origins : List Origin) (cycle : List RuleId) : Type 0 where
  pub some : 0 < length cycle
  pub chain : IsChain states rules origins cycle
  pub first : RuleId
  pub at : slice_get cycle 0 ≡ Some first
  pub back : IsLed states rules origins cycle first

-- no rules are such a cycle
pub record HasNoCycle (states : List RuleState) (rules : List Kept) (origins : List Origin) : Type 0 where
  pub none : (cycle : List RuleId) → IsCycle states rules origins cycle → ⊥
