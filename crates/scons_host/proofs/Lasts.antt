-- The call in front of all others, and the pairs of a dict, as the code reads them.
use Rattle.std.proofs.Common.{◌≡◌, ◌∙◌, ◌-◌, ◌+◌, ℕ, List, Some, None, Result, Ok, Err, map, drop, length, ap}
use Rattle.std.specs.Prelude.{slice_get}
use Rattle.std.specs.Option.{option_map}
use Rattle.std.proofs.lemmas.List.{length-map}
use Rattle.std.proofs.lemmas.Option.{slice_get-map}
use Rattle.py_heap.specs.declared.ids.DictId.{DictId}
use Rattle.py_heap.specs.declared.value.Value.{Value}
use Rattle.py_heap.specs.declared.value.Value.TheVariants as v
use Rattle.py_heap.specs.declared.key.Key.{Key}
use Rattle.py_heap.specs.declared.dict.Entry.{Entry}
use Rattle.py_heap.specs.Heap.{Objects, dict_at, pair_of}
use Rattle.scons_calls.specs.Kinds.{pairs_in}
use Rattle.scons_calls.specs.Results.{along}
use Rattle.scons_calls.proofs.Loops.{along_more, along_none, along_stop}
use Rattle.scons_host.specs.declared.open.OpenCall.{OpenCall}
use Rattle.scons_host.specs.SoFar.{waiting_of}

pub innermost_of : (calls : List OpenCall) → slice_get (map waiting_of calls) (length (map waiting_of calls) - 1) ≡ option_map waiting_of (slice_get calls (length calls - 1))
innermost_of calls = ap (λ n. slice_get (map waiting_of calls) (n - 1)) (length-map calls waiting_of) ∙ slice_get-map waiting_of calls (length calls - 1)

in_pairs : (h : Objects) (dict : DictId) (i : ℕ) → slice_get (pairs_in h dict.0) i ≡ pair_of h (v.Dict dict) i
in_pairs h dict i = slice_get-map (λ (e : Key × Entry). (e.1.key, e.1.item)) (dict_at h dict.0) i

pub pair_more : {S E : Type 0} (f : S → Value × Value → Result S E) (h : Objects) (dict : DictId) (i : ℕ) (s t : S) (x : Value × Value) (r : Result S E) → pair_of h (v.Dict dict) i ≡ Some x → f s x ≡ Ok t → along f s (drop i (pairs_in h dict.0)) ≡ r → along f t (drop (i + 1) (pairs_in h dict.0)) ≡ r
pair_more f h dict i s t x r at made left = along_more f (pairs_in h dict.0) i s t x r (in_pairs h dict i ∙ at) made left

pub pair_none : {S E : Type 0} (f : S → Value × Value → Result S E) (h : Objects) (dict : DictId) (i : ℕ) (s : S) (r : Result S E) → pair_of h (v.Dict dict) i ≡ None → along f s (drop i (pairs_in h dict.0)) ≡ r → along f s (drop (i + 1) (pairs_in h dict.0)) ≡ r
pair_none f h dict i s r none left = along_none f (pairs_in h dict.0) i s r (in_pairs h dict i ∙ none) left

pub pair_stop : {S E : Type 0} (f : S → Value × Value → Result S E) (h : Objects) (dict : DictId) (i : ℕ) (s : S) (x : Value × Value) (e : E) (r : Result S E) → pair_of h (v.Dict dict) i ≡ Some x → f s x ≡ Err e → along f s (drop i (pairs_in h dict.0)) ≡ r → r ≡ Err e
pair_stop f h dict i s x e r at made left = along_stop f (pairs_in h dict.0) i s x e r (in_pairs h dict i ∙ at) made left

pub ruleset lasts = (innermost_of, pair_more, pair_none, pair_stop)
