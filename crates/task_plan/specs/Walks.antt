-- The steps of a walk, and what one that looks for a cycle keeps true of them.
use Rattle.std.specs.Prelude.{◌≡◌, ◌<◌, ◌≤◌, ◌+◌, ◌⊎◌, ◌++◌, ◌∷◌, [], ℕ, Bool, true, false, List, Some, get_or, length, nat_eq, slice_get}
use Rattle.std.specs.List.{list_any}
use Rattle.scons_base.specs.declared.ids.RuleId.{RuleId}
use Rattle.task_plan.specs.Admits.{queues}
use Rattle.task_plan.specs.Settled.{Kept}
use Rattle.task_plan.specs.Cycles.{WaitsFor, IsChain, IsLed}
use Rattle.task_plan.specs.declared.states.RuleState.{RuleState}
use Rattle.task_plan.specs.declared.files.Origin.{Origin}
use Rattle.task_plan.specs.declared.walk.Step.{Step}
use Rattle.task_plan.specs.declared.walk.Step.TheVariants.{Enter, Leave}
use Rattle.task_plan.specs.declared.cycles.Colour.{Colour}
use Rattle.task_plan.specs.declared.cycles.Colour.TheVariants.{Open, Closed}
use Rattle.task_plan.specs.declared.cycles.Walk.{Walk}

-- The step on top is taken next, and is the last in the list. These rules were put on top of the steps to be entered, the first of them
-- uppermost.
abbrev pub with_entered : List Step → List RuleId → List Step
with_entered steps [] = steps
with_entered steps (rule ∷ rules) = with_entered steps rules ++ Enter rule ∷ []

-- whether a rule was seen; there is nothing to see of one that has no place
abbrev pub is_seen : List Bool → ℕ → Bool
is_seen seen rule = get_or seen rule true

-- The steps after a rule is entered that needs these. Where it was seen they stay; else all that it needs is entered, and then it is left.
abbrev pub steps_after : Bool → RuleId → List RuleId → List Step → List Step
steps_after true rule needed steps = steps
steps_after false rule needed steps = with_entered (steps ++ Leave rule ∷ []) needed

-- how far the walk is with a rule; there is nothing to see of one that it doesn't know
abbrev pub colour_of : List Colour → ℕ → Colour
colour_of colours rule = get_or colours rule Closed

-- a rule is to be entered or left by a step from a place on
pub record IsToCome (steps : List Step) (from : ℕ) (rule : RuleId) : Type 0 where
  pub place : ℕ
  pub behind : from ≤ place
  pub at : (slice_get steps place ≡ Some (Enter rule)) ⊎ (slice_get steps place ≡ Some (Leave rule))

-- the walk is through with a rule, or comes to it from a place on
abbrev pub IsSeen : List Colour → List Step → ℕ → RuleId → Type 0
IsSeen colours steps from rule = (colour_of colours rule.0 ≡ Closed) ⊎ IsToCome steps from rule

-- whether a number stands among these
abbrev pub among : List ℕ → ℕ → Bool
among order n = list_any (λ m. nat_eq m n) order

-- a rule stands among these, or nothing is known of it
abbrev pub IsPast : List Kept → List ℕ → ℕ → Type 0
IsPast rules order n = (among order n ≡ true) ⊎ (length rules ≤ n)

-- rules in an order, each of which waits for those behind it alone
pub data AreOrdered (states : List RuleState) (rules : List Kept) (origins : List Origin) : List ℕ → Type 0 where
  nothing : AreOrdered states rules origins []
  more : {order : List ℕ} (rule : RuleId) → ((other : RuleId) → WaitsFor states rules origins rule other → IsPast rules order other.0) → AreOrdered states rules origins order
      → AreOrdered states rules origins (rule.0 ∷ order)

-- What the walk is through with stands in such an order. What a rule waits for that it is to leave is seen before that, and each rule is seen.
pub record IsExplored (states : List RuleState) (rules : List Kept) (origins : List Origin) (colours : List Colour) (steps : List Step) : Type 0 where
  pub order : List ℕ
  pub ordered : AreOrdered states rules origins order
  pub closed : (r : ℕ) → colour_of colours r ≡ Closed → IsPast rules order r
  pub followed : (n : ℕ) (rule other : RuleId) → slice_get steps n ≡ Some (Leave rule) → WaitsFor states rules origins rule other → IsSeen colours steps (n + 1) other
  pub seen : (rule : RuleId) → rule.0 < length rules → IsSeen colours steps 0 rule

-- all that a rule waits for is to come behind the steps that were there
pub record AllEntered (states : List RuleState) (rules : List Kept) (origins : List Origin) (rule : RuleId) (old new : List Step) : Type 0 where
  pub each : (other : RuleId) → WaitsFor states rules origins rule other → IsToCome new (length old) other

-- rules that a rule needs were put on the steps
pub data EntersNeeds (states : List RuleState) (rules : List Kept) (origins : List Origin) (rule : RuleId) : List Step → List Step → Type 0 where
  none : {steps : List Step} → EntersNeeds states rules origins rule steps steps
  more : {old steps : List Step} (other : RuleId) → WaitsFor states rules origins rule other → EntersNeeds states rules origins rule old steps
      → EntersNeeds states rules origins rule old (steps ++ Enter other ∷ [])

-- The rules that the walk is within are those that it is to leave. Each rule that it enters or leaves is needed by the one that it is within
-- there.
pub data IsWithin (states : List RuleState) (rules : List Kept) (origins : List Origin) : List Step → List RuleId → Type 0 where
  nothing : IsWithin states rules origins [] []
  enters : {steps : List Step} {chain : List RuleId} (rule : RuleId) → IsLed states rules origins chain rule → IsWithin states rules origins steps chain
      → IsWithin states rules origins (steps ++ Enter rule ∷ []) chain
  leaves : {steps : List Step} {chain : List RuleId} (rule : RuleId) → IsWithin states rules origins steps chain
      → IsWithin states rules origins (steps ++ Leave rule ∷ []) (chain ++ rule ∷ [])

-- a rule that is open stands among those that the walk is within
pub record AreOpen (colours : List Colour) (chain : List RuleId) : Type 0 where
  pub each : (rule : ℕ) → colour_of colours rule ≡ Open → queues chain rule ≡ true

pub record IsWalk (states : List RuleState) (rules : List Kept) (origins : List Origin) (walk : Walk) : Type 0 where
  pub within : IsWithin states rules origins walk.steps.items walk.chain.items
  pub chain : IsChain states rules origins walk.chain.items
  pub opened : AreOpen walk.colours.items walk.chain.items
  pub explored : IsExplored states rules origins walk.colours.items walk.steps.items

-- another rule stands at this place, or none
pub record IsOther (chain : List RuleId) (place rule : ℕ) : Type 0 where
  pub each : (other : RuleId) → slice_get chain place ≡ Some other → nat_eq other.0 rule ≡ false

-- the walk is within no rule yet, and through with none of the first so many; it is to enter some
pub record IsBegun (count : ℕ) (walk : Walk) : Type 0 where
  pub within : (states : List RuleState) (rules : List Kept) (origins : List Origin) → IsWithin states rules origins walk.steps.items []
  pub chain : walk.chain.items ≡ []
  pub opened : AreOpen walk.colours.items []
  pub fresh : (r : ℕ) → r < count → colour_of walk.colours.items r ≡ Closed → ⊥
  pub entering : (n : ℕ) (rule : RuleId) → slice_get walk.steps.items n ≡ Some (Leave rule) → ⊥

-- of the rules the first so many are to be entered
pub record AreToEnter (count upto : ℕ) (walk : Walk) : Type 0 where
  pub begun : IsBegun count walk
  pub each : (rule : RuleId) → rule.0 < upto → IsToCome walk.steps.items 0 rule

-- with this step put back it is a walk
pub record IsBefore (states : List RuleState) (rules : List Kept) (origins : List Origin) (walk : Walk) (step : Step) : Type 0 where
  pub within : IsWithin states rules origins (walk.steps.items ++ step ∷ []) walk.chain.items
  pub chain : IsChain states rules origins walk.chain.items
  pub opened : AreOpen walk.colours.items walk.chain.items
  pub explored : IsExplored states rules origins walk.colours.items (walk.steps.items ++ step ∷ [])

-- the walk came to a rule again that it is within
pub record ComesBack (states : List RuleState) (rules : List Kept) (origins : List Origin) (chain : List RuleId) (rule : RuleId) : Type 0 where
  pub linked : IsChain states rules origins chain
  pub among : queues chain rule.0 ≡ true
  pub led : IsLed states rules origins chain rule
