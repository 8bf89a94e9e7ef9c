-- Calls, indices and attributes behind an atom: section 6.3 ("Primaries") of the Python language reference. What an object
-- gives is its host's answer. Own: an attribute of any other value is a method, which is called at once.
use Rattle.std.specs.Prelude.{ℕ, Bool, true, false, List, Option, Some, None}
use Rattle.py_tree.specs.Tree.{Tree, cons, attribute, call, index, slice}
use Rattle.py_heap.specs.declared.value.Value.{Value}
use Rattle.py_heap.specs.declared.value.Value.TheVariants as v
use Rattle.py_heap.specs.declared.fault.ValueFault.TheVariants as fault
use Rattle.py_operators.specs.Indexing.{indexed, sliced}
use Rattle.py_methods.specs.declared.name.Name.{Name}
use Rattle.py_host.specs.Calls as question
use Rattle.py_meaning.specs.declared.fault.EvalKind.TheVariants as kind
use Rattle.py_meaning.specs.States.{State, place_at, after_operation}
use Rattle.py_meaning.specs.Jobs.{Job, Callee, a_value, a_method, links}
use Rattle.py_meaning.specs.Jobs as job
use Rattle.py_meaning.specs.Plans.{Plan, first, value, faulty, goes, on_value, after, after_all, after_optional}
use Rattle.py_meaning.specs.Plans.{checked, asked_on}
use Rattle.py_meaning.specs.Arguments.{arguments_by}
use Rattle.py_methods.specs.Names.{has_method}
use Rattle.py_meaning.specs.Words.{method_named}

-- the line of a call: that of the name before it, or of its own mark
abbrev pub line_or : Option ℕ → ℕ → ℕ
line_or None l = l
line_or (Some named) l = named

-- the item under a key, and on with it
abbrev pub after_item : ℕ → Value → Value → State → (Value → State → Plan) → Plan
after_item l (v.Object id) i s f = asked_on l (question.item (place_at l s) id.0 i) s f
after_item l x i s f = checked l s (indexed s.objects s.units x i) (λ m. f m.0 (after_operation s m))

-- arguments and a call, and what stands behind it
abbrev pub called : ℕ → Callee → Tree → Tree → State → Plan
called l callee ts rest s = after_all ts s (λ xs s1.
    first (job.call l callee (arguments_by ts xs)) s1 (on_value (λ x s2. goes (links x None rest) s2)))

abbrev method_by : ℕ → Value → Bool → Name → Tree → Tree → State → Plan
method_by l x false n ts rest s = faulty l (kind.Value fault.NoMethod) s
method_by l x true n ts rest s = called l (a_method x n) ts rest s

-- a kind that hasn't the method is told before the arguments are evaluated
abbrev method_of_name : ℕ → Value → Option Name → Tree → Tree → State → Plan
method_of_name l x None ts rest s = faulty l (kind.Value fault.NoMethod) s
method_of_name l x (Some n) ts rest s = method_by l x (has_method x n) n ts rest s

abbrev method_linked : ℕ → Value → List ℕ → Tree → State → Plan
method_linked l x n (cons (call cl ts) rest) s = method_of_name l x (method_named n) ts rest s
method_linked l x n other s = faulty l (kind.Value fault.NoMethod) s

abbrev attribute_linked : ℕ → Value → List ℕ → Tree → State → Plan
attribute_linked l (v.Object id) n rest s =
    asked_on l (question.attribute (place_at l s) id.0 n) s (λ x s1. goes (links x (Some l) rest) s1)
attribute_linked l x n rest s = method_linked l x n rest s

abbrev pub plan_links : Value → Option ℕ → Tree → State → Plan
plan_links x named (cons (attribute l n) rest) s = attribute_linked l x n rest s
plan_links x named (cons (call l ts) rest) s = called (line_or named l) (a_value x) ts rest s
plan_links x named (cons (index l t) rest) s =
    after t s (λ i s1. after_item l x i s1 (λ y s2. goes (links y None rest) s2))
plan_links x named (cons (slice l t1 t2) rest) s =
    after_optional t1 s (λ from s1. after_optional t2 s1 (λ to s2.
    checked l s2 (sliced s2.objects s2.units x from to) (λ m. goes (links m.0 None rest) (after_operation s2 m))))
plan_links x named other s = value x s
