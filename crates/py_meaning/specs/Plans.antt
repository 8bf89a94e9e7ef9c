-- How a job goes on: the jobs in it, and what is asked of the host, each with how it goes on then.
use Rattle.std.specs.Prelude.{ℕ, List, Option, Some, None, Result, Ok, Err}
use Rattle.py_tree.specs.Tree.{Tree, absent}
use Rattle.py_heap.specs.declared.value.Value.{Value}
use Rattle.py_heap.specs.declared.fault.ValueFault.{ValueFault}
use Rattle.py_heap.specs.Units.{charged}
use Rattle.py_host.specs.Calls.{Question, Answer}
use Rattle.py_compare.specs.Outcomes.{Outcome}
use Rattle.py_meaning.specs.declared.fault.EvalKind.{EvalKind}
use Rattle.py_meaning.specs.declared.fault.EvalKind.TheVariants as kind
use Rattle.py_meaning.specs.States.{State, Out, place_at, gives, all_give, goes_on, ends, state_in, with_units}
use Rattle.py_meaning.specs.States.{after_operation}
use Rattle.py_host.specs.declared.place.Place.{Place}
use Rattle.py_meaning.specs.Jobs.{Job, eval, eval_all}

pub data Plan : Type 0 where
  comes_to : Out → Plan
  stops : Place → EvalKind → Plan
  first : Job → State → (Out → Plan) → Plan
  -- a job within one more open call, which is made here
  within_call : Job → State → Place → (Out → Plan) → Plan
  asks_name : List ℕ → (Option Value → Plan) → Plan
  -- a text is printed, and a question asked, here
  prints : List ℕ → Place → Plan → Plan
  asks : (q : Question) → State → Place → (Answer q → State → Plan) → Plan

abbrev pub value : Value → State → Plan
value x s = comes_to (gives x s)

-- a fault on a line of the script in which the place is
abbrev pub faulty : ℕ → EvalKind → State → Plan
faulty line k s = stops (place_at line s) k

-- no more than this job
abbrev pub goes : Job → State → Plan
goes j s = first j s comes_to

-- on with a value; where there is none, that is the end of the script, and so of the whole
abbrev pub on_value : (Value → State → Plan) → Out → Plan
on_value f (gives x s) = f x s
on_value f other = comes_to (ends (state_in other))

abbrev pub on_values : (List Value → State → Plan) → Out → Plan
on_values f (all_give xs s) = f xs s
on_values f other = comes_to (ends (state_in other))

abbrev pub on_end : (State → Plan) → Out → Plan
on_end f (goes_on s) = f s
on_end f other = comes_to other

-- the value of an expression, and on with it
abbrev pub after : Tree → State → (Value → State → Plan) → Plan
after t s f = first (eval t) s (on_value f)

-- the values of several, from left to right: section 6.16 ("Evaluation order") of the Python language reference
abbrev pub after_all : Tree → State → (List Value → State → Plan) → Plan
after_all ts s f = first (eval_all ts) s (on_values f)

-- an expression that may be left out
abbrev pub after_optional : Tree → State → (Option Value → State → Plan) → Plan
after_optional absent s f = f None s
after_optional t s f = after t s (λ x s1. f (Some x) s1)

-- on with what an operation on values gives; its fault is one of this line
abbrev pub checked : {X : Type 0} → ℕ → State → Result X ValueFault → (X → Plan) → Plan
checked line s (Ok x) f = f x
checked line s (Err e) f = faulty line (kind.Value e) s

-- the value of an operation
abbrev pub made : ℕ → State → Outcome → Plan
made line s result = checked line s result (λ m. value m.0 (after_operation s m))

-- one unit, and on
abbrev pub paid : ℕ → State → (State → Plan) → Plan
paid line s f = checked line s (charged s.units 1) (λ u. f (with_units s u))

-- on with the host's answer to a question that is asked on this line
abbrev pub asked_on : ℕ → (q : Question) → State → (Answer q → State → Plan) → Plan
asked_on line q s f = asks q s (place_at line s) f

-- a plan, and how it goes on behind it by what it comes to
unfoldable pub bind : Plan → (Out → Plan) → Plan
bind (comes_to o) k = k o
bind (stops place e) k = stops place e
bind (first j s f) k = first j s (λ o. bind (f o) k)
bind (within_call j s place f) k = within_call j s place (λ o. bind (f o) k)
bind (asks_name n f) k = asks_name n (λ v. bind (f v) k)
bind (prints text place p) k = prints text place (bind p k)
bind (asks q s place f) k = asks q s place (λ a s1. bind (f a s1) k)
