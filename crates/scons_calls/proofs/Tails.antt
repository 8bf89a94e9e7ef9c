-- What a last step gives is what all steps give.
use Rattle.std.proofs.Common.{◌≡◌, ◌≢◌, ◌∙◌, ℕ, List, Result, Ok, Err, IfOk, IfErr, ap}
use Rattle.py_heap.specs.declared.value.Value.{Value}
use Rattle.py_heap.specs.declared.fault.ValueFault.{ValueFault}
use Rattle.py_heap.specs.Heap.{Objects}
use Rattle.py_heap.specs.Given.{given_list, given_dict}
use Rattle.scons_calls.specs.Things.{Things}
use Rattle.scons_calls.specs.Results.{and_then}
use Rattle.scons_calls.specs.Values.{Made, given_alone, shown_in, shown_value, listed, keyed}

pub then_ok : {X Y V E : Type 0} (made : Result X E) (x : X) (f : X → Result Y E) (give : V → Y) (r : Result V E) → made ≡ Ok x → IfOk r (λ v. f x ≡ Ok (give v)) → IfOk r (λ v. and_then made f ≡ Ok (give v))
then_ok made x f give (Ok v) is ok = ap (λ m. and_then m f) is ∙ ok
then_ok made x f give (Err e) is ok = tt

pub then_fault : {X Y V E : Type 0} (made : Result X E) (x : X) (f : X → Result Y E) (none : E) (r : Result V E) → made ≡ Ok x → IfErr r (λ e. e ≢ none → f x ≡ Err e) → IfErr r (λ e. e ≢ none → and_then made f ≡ Err e)
then_fault made x f none (Ok v) is fault = tt
then_fault made x f none (Err e) is fault = λ ne. ap (λ m. and_then m f) is ∙ fault ne

pub alone_ok : (things : Things) (made : Result (Value × Objects) ValueFault) (h : Objects) (r : Result Value ValueFault) → IfOk r (λ v. made ≡ Ok (v, h)) → IfOk r (λ v. given_alone things made ≡ Ok (v, things, h))
alone_ok things made h (Ok v) ok = ap (given_alone things) ok
alone_ok things made h (Err e) ok = tt

pub alone_fault : (things : Things) (made : Result (Value × Objects) ValueFault) (none : ValueFault) (r : Result Value ValueFault) → IfErr r (λ e. e ≢ none → made ≡ Err e) → IfErr r (λ e. e ≢ none → given_alone things made ≡ Err e)
alone_fault things made none (Ok v) fault = tt
alone_fault things made none (Err e) fault = λ ne. ap (given_alone things) (fault ne)

pub shown_ok : (object : ℕ × Things) (n : ℕ) (things : Things) (h h2 : Objects) (text : List ℕ) (r : Result Value ValueFault) → object ≡ (n, things) → IfOk r (λ v. shown_in h n text ≡ Ok (v, h2)) → IfOk r (λ v. shown_value h text object ≡ Ok (v, things, h2))
shown_ok object n things h h2 text (Ok v) is ok = ap (shown_value h text) is ∙ ap (given_alone things) ok
shown_ok object n things h h2 text (Err e) is ok = tt

pub shown_fault : (object : ℕ × Things) (n : ℕ) (things : Things) (h : Objects) (text : List ℕ) (none : ValueFault) (r : Result Value ValueFault) → object ≡ (n, things) → IfErr r (λ e. e ≢ none → shown_in h n text ≡ Err e) → IfErr r (λ e. e ≢ none → shown_value h text object ≡ Err e)
shown_fault object n things h text none (Ok v) is fault = tt
shown_fault object n things h text none (Err e) is fault = λ ne. ap (shown_value h text) is ∙ ap (given_alone things) (fault ne)

pub listed_ok : (made : Made (List Value)) (items : List Value) (things : Things) (h h2 : Objects) (r : Result Value ValueFault) → made ≡ Ok (items, things, h) → IfOk r (λ v. given_list h items ≡ Ok (v, h2)) → IfOk r (λ v. listed made ≡ Ok (v, things, h2))
listed_ok made items things h h2 (Ok v) is ok = ap listed is ∙ ap (given_alone things) ok
listed_ok made items things h h2 (Err e) is ok = tt

pub listed_fault : (made : Made (List Value)) (items : List Value) (things : Things) (h : Objects) (none : ValueFault) (r : Result Value ValueFault) → made ≡ Ok (items, things, h) → IfErr r (λ e. e ≢ none → given_list h items ≡ Err e) → IfErr r (λ e. e ≢ none → listed made ≡ Err e)
listed_fault made items things h none (Ok v) is fault = tt
listed_fault made items things h none (Err e) is fault = λ ne. ap listed is ∙ ap (given_alone things) (fault ne)

pub keyed_ok : (made : Made (List (Value × Value))) (pairs : List (Value × Value)) (things : Things) (h h2 : Objects) (r : Result Value ValueFault) → made ≡ Ok (pairs, things, h) → IfOk r (λ v. given_dict h pairs ≡ Ok (v, h2)) → IfOk r (λ v. keyed made ≡ Ok (v, things, h2))
keyed_ok made pairs things h h2 (Ok v) is ok = ap keyed is ∙ ap (given_alone things) ok
keyed_ok made pairs things h h2 (Err e) is ok = tt

pub keyed_fault : (made : Made (List (Value × Value))) (pairs : List (Value × Value)) (things : Things) (h : Objects) (none : ValueFault) (r : Result Value ValueFault) → made ≡ Ok (pairs, things, h) → IfErr r (λ e. e ≢ none → given_dict h pairs ≡ Err e) → IfErr r (λ e. e ≢ none → keyed made ≡ Err e)
keyed_fault made pairs things h none (Ok v) is fault = tt
keyed_fault made pairs things h none (Err e) is fault = λ ne. ap keyed is ∙ ap (given_alone things) (fault ne)

pub ruleset tails = (then_ok, then_fault, alone_ok, alone_fault, shown_ok, shown_fault, listed_ok, listed_fault, keyed_ok, keyed_fault)
