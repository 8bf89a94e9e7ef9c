-- What stands behind a plan goes into it.
use Rattle.std.proofs.Common.{◌≡◌, ◌∙◌, ℕ, List, Option, Some, Result, Ok, Err, refl, ap}
use mathlib.Core.Path.{fun_ext}
use Rattle.py_tree.specs.Tree.{Tree}
use Rattle.py_heap.specs.declared.value.Value.{Value}
use Rattle.py_heap.specs.declared.value.Value.TheVariants as v
use Rattle.py_heap.specs.declared.fault.ValueFault.{ValueFault}
use Rattle.py_host.specs.Calls as question
use Rattle.py_operators.specs.Indexing.{indexed}
use Rattle.py_operators.specs.Places.{set_of}
use Rattle.py_meaning.specs.States.{State, Out, gives, all_give, goes_on, breaks, continues, returns, ends, exits, place_at, with_objects, after_operation}
use Rattle.py_meaning.specs.Jobs.{Job, eval, links}
use Rattle.py_meaning.specs.Plans.{Plan, comes_to, first, on_value, on_values, after, checked, asks, bind}
use Rattle.py_meaning.specs.Expressions.{named_line}
use Rattle.py_meaning.specs.Links.{after_item}
use Rattle.py_meaning.specs.Statements.{after_place, after_item_set}

-- the end of the script is the end of the whole
abbrev pub EndsOn : (Out → Plan) → Type 0
EndsOn k = (s : State) → k (ends s) ≡ comes_to (ends s)

pub value_is : (f g : Value → State → Plan) (k : Out → Plan) → EndsOn k → ((x : Value) (s : State) → bind (f x s) k ≡ g x s) → (o : Out) → bind (on_value f o) k ≡ on_value g o
unfolding bind
value_is f g k e u (gives x s) = u x s
value_is f g k e u (all_give xs s) = e s
value_is f g k e u (goes_on s) = e s
value_is f g k e u (breaks s) = e s
value_is f g k e u (continues s) = e s
value_is f g k e u (returns x s) = e s
value_is f g k e u (ends s) = e s
value_is f g k e u (exits x s) = e s

pub values_are : (f g : List Value → State → Plan) (k : Out → Plan) → EndsOn k → ((xs : List Value) (s : State) → bind (f xs s) k ≡ g xs s) → (o : Out) → bind (on_values f o) k ≡ on_values g o
unfolding bind
values_are f g k e u (gives x s) = e s
values_are f g k e u (all_give xs s) = u xs s
values_are f g k e u (goes_on s) = e s
values_are f g k e u (breaks s) = e s
values_are f g k e u (continues s) = e s
values_are f g k e u (returns x s) = e s
values_are f g k e u (ends s) = e s
values_are f g k e u (exits x s) = e s

pub first_is : (j : Job) (s : State) (f g k : Out → Plan) → ((o : Out) → bind (f o) k ≡ g o) → bind (first j s f) k ≡ first j s g
unfolding bind
first_is j s f g k u = ap (λ (h : Out → Plan). first j s h) (fun_ext u)

pub after_is : (t : Tree) (s : State) (f g : Value → State → Plan) (k : Out → Plan) → EndsOn k → ((x : Value) (s1 : State) → bind (f x s1) k ≡ g x s1) → bind (after t s f) k ≡ after t s g
after_is t s f g k e u = first_is (eval t) s (on_value f) (on_value g) k (value_is f g k e u)

pub checked_is : {Y : Type 0} (l : ℕ) (s : State) (r : Result Y ValueFault) (f g : Y → Plan) (k : Out → Plan) → ((y : Y) → bind (f y) k ≡ g y) → bind (checked l s r f) k ≡ checked l s r g
unfolding bind
checked_is l s (Ok y) f g k u = u y
checked_is l s (Err e) f g k u = refl

pub item_is : (l : ℕ) (x i : Value) (s : State) (f g : Value → State → Plan) (k : Out → Plan) → ((y : Value) (s1 : State) → bind (f y s1) k ≡ g y s1) → bind (after_item l x i s f) k ≡ after_item l x i s g
unfolding bind
item_is l (v.Object id) i s f g k u = ap (λ (h : Value → State → Plan). asks (question.item (place_at l s) id.0 i) s (place_at l s) h) (fun_ext (λ y. fun_ext (u y)))
item_is l x i s f g k u = checked_is l s (indexed s.objects s.units x i) (λ m. f m.0 (after_operation s m)) (λ m. g m.0 (after_operation s m)) k (λ m. u m.0 (after_operation s m))

pub item_set_is : (l : ℕ) (x i y : Value) (s : State) (f g : State → Plan) (k : Out → Plan) → ((s1 : State) → bind (f s1) k ≡ g s1) → bind (after_item_set l x i y s f) k ≡ after_item_set l x i y s g
unfolding bind
item_set_is l (v.Object id) i y s f g k u = ap (λ (h : State → Plan). asks (question.set_item (place_at l s) id.0 i y) s (place_at l s) (λ a s1. h s1)) (fun_ext u)
item_set_is l x i y s f g k u = checked_is l s (set_of s.objects x i y) (λ h. f (with_objects s h)) (λ h. g (with_objects s h)) k (λ h. u (with_objects s h))

-- what stands before an index, and its key
abbrev pub at_place : Tree → Tree × ℕ × Tree → State → (Value → Value → State → Plan) → Plan
at_place a place s g = after a s (λ x s1. first (links x (named_line a) place.0) s1 (on_value (λ base s2. after place.2 s2 (g base))))

pub place_is : (a : Tree) (p : Option (Tree × ℕ × Tree)) (place : Tree × ℕ × Tree) (s : State) (f : ℕ → Value → Value → State → Plan) (g : Value → Value → State → Plan) (k : Out → Plan) → EndsOn k → p ≡ Some place → ((base i : Value) (s1 : State) → bind (f place.1 base i s1) k ≡ g base i s1) → bind (after_place a p s f) k ≡ at_place a place s g
place_is a p place s f g k e q u =
    ap (λ (o : Option (Tree × ℕ × Tree)). bind (after_place a o s f) k) q
    ∙ after_is a s (λ x s1. first (links x (named_line a) place.0) s1 (on_value (λ base s2. after place.2 s2 (f place.1 base)))) (λ x s1. first (links x (named_line a) place.0) s1 (on_value (λ base s2. after place.2 s2 (g base)))) k e
    (λ x s1. first_is (links x (named_line a) place.0) s1 (on_value (λ base s2. after place.2 s2 (f place.1 base))) (on_value (λ base s2. after place.2 s2 (g base))) k
    (value_is (λ base s2. after place.2 s2 (f place.1 base)) (λ base s2. after place.2 s2 (g base)) k e
    (λ base s2. after_is place.2 s2 (f place.1 base) (g base) k e (u base))))
