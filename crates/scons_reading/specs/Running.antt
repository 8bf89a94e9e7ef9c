-- What was at fault outside while scripts ran, by how they ended.
use Rattle.std.specs.Prelude.{◌≡◌, Option, Result, Ok, Err}
use Rattle.py_meaning.specs.declared.fault.EvalFault.{EvalFault}
use Rattle.py_meaning.specs.declared.fault.EvalFault.TheVariants as fault
use Rattle.py_meaning.specs.declared.fault.EvalKind.{EvalKind}
use Rattle.py_meaning.specs.declared.fault.EvalKind.TheVariants as kind
use Rattle.world_api.specs.Meaning.{Meaning}
use Rattle.world_api.specs.Printed.{SinkMeaning}
use Rattle.scons_host.specs.Causes.{Outside, outside, IsLater, HasKeptCause}
use Rattle.scons_host.specs.declared.end.HostEnd.{HostEnd}

-- what is kept of the host's refusal has its cause; with a fault of the scripts' own nothing was at fault
abbrev pub HasKindCause : Outside → Outside → Option HostEnd → EvalKind → Type 0
HasKindCause old new kept kind.Host = HasKeptCause old new kept
HasKindCause old new kept other = new ≡ old

abbrev pub HasFaultCause : Outside → Outside → Option HostEnd → EvalFault → Type 0
HasFaultCause old new kept (fault.At script line k) = HasKindCause old new kept k
HasFaultCause old new kept fault.Memory = IsLater old new

-- where all was well nothing was at fault
abbrev pub HasRunCause : {T : Type 0} → Outside → Outside → Option HostEnd → Result T EvalFault → Type 0
HasRunCause old new kept (Ok value) = new ≡ old
HasRunCause old new kept (Err e) = HasFaultCause old new kept e

-- the same of scripts over a world and a sink
abbrev pub ScriptsCause : {W O T : Type 0} → Meaning W → SinkMeaning O → W → O → W → O → Option HostEnd → Result T EvalFault → Type 0
ScriptsCause m o world out new_world new_out kept result = HasRunCause (outside m o world out) (outside m o new_world new_out) kept result
