-- What `run` answers, by what scripts come to.
use Rattle.std.specs.Prelude.{◌≡◌, ℕ, Result, Ok, Err}
use Rattle.py_tree.specs.Tree.{Tree}
use Rattle.py_heap.specs.Heap.{Objects}
use Rattle.py_heap.specs.Units.{Units}
use Rattle.py_host.specs.Meaning.{Meaning, SameUnlessEscaped}
use Rattle.scons_base.specs.Rising.{Rose}
use Rattle.py_meaning.specs.declared.fault.EvalFault.{EvalFault}
use Rattle.py_meaning.specs.declared.fault.EvalFault.TheVariants as fault
use Rattle.py_meaning.specs.declared.fault.EvalKind.TheVariants as kind
use Rattle.py_meaning.specs.States.{State, Out, Fault, exits}
use Rattle.py_meaning.specs.Evaluates.{Evaluates}
use Rattle.py_state.specs.declared.stop.Stop.{Stop}
use Rattle.py_state.specs.declared.stop.Stop.TheVariants as stop
use Rattle.py_steps.specs.Leads.{told}
use Rattle.py_eval.specs.declared.scripts.Ran.{Ran}

-- the heap and the units that are left are those of a state
abbrev pub Leaves : Ran → State → Type 0
Leaves ran s = (s.objects ≡ ran.heap) × (s.units ≡ ran.budget)

-- the scripts come to this exit, with this heap and these units, or to this fault; want of memory says nothing
abbrev pub IsFound : {H : Type 0} → Meaning H → Tree → Objects → Units → H → Result Ran EvalFault → H → Type 0
IsFound m t o u h (Ok ran) h2 = (s : State) × Evaluates m t o u h (Ok (exits ran.exit s)) h2 × Leaves ran s
IsFound m t o u h (Err (fault.At script line k)) h2 = Evaluates m t o u h (told script line k) h2
IsFound m t o u h (Err fault.Memory) h2 = Unit {0}

-- an answer is what the scripts come to; want of memory says nothing
abbrev pub Gives : Result Ran EvalFault → Result Out Fault → Type 0
Gives (Ok ran) r = (s : State) × (r ≡ Ok (exits ran.exit s)) × Leaves ran s
Gives (Err (fault.At script line k)) r = r ≡ told script line k
Gives (Err fault.Memory) r = Unit {0}

-- from where the host began, and from states like it, the scripts come to no other answer and end alike, unless a count of the
-- outside rose; want of memory says nothing
abbrev pub IsOnly : {H : Type 0} → Meaning H → Tree → Objects → Units → H → Result Ran EvalFault → H → Type 0
IsOnly m t o u h (Err fault.Memory) h2 = Unit {0}
IsOnly {H = H} m t o u h answer h2 =
    m.tells h2 → (r : Result Out Fault) (k k2 : H) → m.tells k2 → m.alike h k → Evaluates m t o u k r k2 →
    SameUnlessEscaped m (Gives answer r) h h2 k k2

-- only a refusal of the host is told as one
abbrev pub HasCause : EvalFault → ℕ → ℕ → Type 0
HasCause (fault.At script line kind.Host) before now = Rose before now
HasCause other before now = Unit {0}

-- what stops all scripts: not the end of one
abbrev pub IsStop : Stop → Type 0
IsStop (stop.Fault script line k) = Unit {0}
IsStop stop.End = ⊥
IsStop stop.Memory = Unit {0}

abbrev pub fault_by : Stop → EvalFault
fault_by (stop.Fault script line k) = fault.At script line k
fault_by other = fault.Memory
