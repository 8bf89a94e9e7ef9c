-- What a script returns is kept in the innermost of the calls that wait.
use Rattle.std.proofs.Common.{◌≡◌, ◌∙◌, ◌-◌, List, Some, map, length, ap, sym}
use Rattle.std.specs.Prelude.{slice_get, slice_set}
use Rattle.std.specs.Option.{option_map}
use Rattle.std.proofs.lemmas.List.{length-map, map-set}
use Rattle.py_heap.specs.declared.value.Value.{Value}
use Rattle.scons_host.specs.declared.open.OpenCall.{OpenCall}
use Rattle.scons_host.specs.Sharing.{returned_in, with_returned}
use Rattle.scons_host.specs.SoFar.{Waiting, waiting_of}
use Rattle.scons_host.proofs.Lasts.{innermost_of}

pub last_returned : (calls : List OpenCall) (c : OpenCall) (x : Value) → slice_get calls (length calls - 1) ≡ Some c → map waiting_of (slice_set calls (length calls - 1) (record c { returned = x })) ≡ with_returned (map waiting_of calls) x
last_returned calls c x at =
    let waiting : List Waiting = map waiting_of calls in
    let there : slice_get waiting (length waiting - 1) ≡ Some (waiting_of c) = innermost_of calls ∙ ap (option_map waiting_of) at in
    map-set waiting_of calls (length calls - 1) (record c { returned = x })
    ∙ ap (λ n. slice_set waiting (n - 1) (waiting_of (record c { returned = x }))) (sym (length-map calls waiting_of))
    ∙ sym (ap (returned_in waiting x) there)
