-- What a look-up answers.
use Rattle.std.specs.Prelude.{◌≡◌, ◌≢◌, ℕ, List, Some, None}
use Rattle.py_heap.specs.declared.value.Value.{Value}
use Rattle.py_host.specs.Meaning.{Meaning}
use Rattle.py_meaning.specs.declared.fault.EvalKind.TheVariants as kind
use Rattle.py_meaning.specs.Lookup.{Found, a_value, unset, outside}
use Rattle.py_state.specs.declared.lookup.Found as code
use Rattle.py_state.specs.declared.lookup.Found.TheVariants as found
use Rattle.py_state.specs.declared.stop.Stop.{Stop}
use Rattle.py_state.specs.declared.stop.Stop.TheVariants as stop

abbrev pub found_of : code.Found → Found
found_of (found.Value x) = a_value x
found_of found.Unset = unset
found_of found.Outside = outside

-- a name has this value: by the scripts and the language, or by the host
abbrev pub IsNamed : {H : Type 0} → Meaning H → Found → List ℕ → H → Value → H → Type 0
IsNamed m (a_value x) n h v h2 = (v ≡ x) × (h2 ≡ h)
IsNamed m unset n h v h2 = ⊥
IsNamed m outside n h v h2 = m.names h n (Some v) h2

-- a name has none; want of memory says nothing
abbrev pub IsUnnamed : {H : Type 0} → Meaning H → Found → ℕ → ℕ → List ℕ → H → H → Stop → Type 0
IsUnnamed m (a_value x) script line n h h2 e = ⊥
IsUnnamed m unset script line n h h2 e = (e ≢ stop.Memory → e ≡ stop.Fault script line (kind.Name n)) × (h2 ≡ h)
IsUnnamed m outside script line n h h2 e =
    (e ≢ stop.Memory → e ≡ stop.Fault script line (kind.Name n)) × m.names h n None h2
