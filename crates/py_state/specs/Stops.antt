-- Why a body isn't run any further, by where it is and what was at fault.
use Rattle.std.specs.Prelude.{ℕ, ◌+◌, ◌-◌, ◌^◌, ◌≤◌, min}
use Rattle.py_heap.specs.declared.fault.ValueFault.{ValueFault}
use Rattle.py_heap.specs.declared.fault.ValueFault.TheVariants as fault
use Rattle.py_host.specs.declared.refusal.HostRefusal.{HostRefusal}
use Rattle.py_host.specs.declared.refusal.HostRefusal.TheVariants as refusal
use Rattle.py_meaning.specs.declared.fault.EvalKind.TheVariants as kind
use Rattle.py_state.specs.declared.stop.Stop.{Stop}
use Rattle.py_state.specs.declared.stop.Stop.TheVariants as stop

-- a fault of an operation on values; want of memory is none of a script
abbrev pub value_stop : ℕ → ℕ → ValueFault → Stop
value_stop script line fault.Memory = stop.Memory
value_stop script line e = stop.Fault script line (kind.Value e)

abbrev pub refusal_stop : ℕ → ℕ → HostRefusal → Stop
refusal_stop script line refusal.Memory = stop.Memory
refusal_stop script line refusal.Host = stop.Fault script line kind.Host

-- how many refusals of the host a stop tells
abbrev pub refusals_told : Stop → ℕ
refusals_told (stop.Fault script line kind.Host) = 1
refusals_told other = 0

-- those that a stop tells were counted
abbrev pub Told : Stop → ℕ → ℕ → Type 0
Told e before now = min (before + refusals_told e) (2 ^ 64 - 1) ≤ now
