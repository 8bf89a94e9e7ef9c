-- How far the rules of a plan are, and what an event makes of it.
use Rattle.std.specs.Prelude.{ℕ, Bool, true, false, List, get_or}
use Rattle.task_plan.specs.declared.states.RuleState.{RuleState}
use Rattle.task_plan.specs.declared.states.RuleState.TheVariants.{Unneeded, Waiting, Running, Settled, Failed, Lacking}

-- how far a rule is; one that the plan doesn't know isn't needed
abbrev pub state_of : List RuleState → ℕ → RuleState
state_of states rule = get_or states rule Unneeded

abbrev pub is_running : RuleState → Bool
is_running Running = true
is_running Unneeded = false
is_running Waiting = false
is_running Settled = false
is_running Failed = false
is_running Lacking = false

abbrev pub is_waiting : RuleState → Bool
is_waiting Waiting = true
is_waiting Unneeded = false
is_waiting Running = false
is_waiting Settled = false
is_waiting Failed = false
is_waiting Lacking = false

-- a rule failed, or lacks a dependency
abbrev pub is_faulty : RuleState → Bool
is_faulty Failed = true
is_faulty Lacking = true
is_faulty Unneeded = false
is_faulty Waiting = false
is_faulty Running = false
is_faulty Settled = false

-- how far a state is: a rule goes on in these stages, and never back
abbrev pub stage : RuleState → ℕ
stage Unneeded = 0
stage Waiting = 1
stage Running = 2
stage Settled = 3
stage Failed = 3
stage Lacking = 3
