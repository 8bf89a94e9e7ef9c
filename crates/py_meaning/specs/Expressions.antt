-- How an expression is evaluated: chapter 6 of the Python language reference. What is charged and limited is own.
use Rattle.std.specs.Prelude.{ℕ, pos, Bool, true, false, not as turned, List, [], ◌∷◌, ◌++◌, Option, Some, None}
use Rattle.std.specs.Prelude.{Result, Ok, Err, length}
use Rattle.py_tree.specs.Tree.{Tree, nil, cons, absent, name, integer, text, constant, group, tuple, list}
use Rattle.py_tree.specs.Tree.{comprehension, dict, pair, post, named, negative, not, chain, operation, compare, choice}
use Rattle.py_tree.specs.Tree.{joined, field}
use Rattle.py_tree.specs.declared.expr.Constant.{Constant}
use Rattle.py_tree.specs.declared.expr.Constant.TheVariants as constant'
use Rattle.py_tree.specs.declared.expr.Operator.{Operator}
use Rattle.py_tree.specs.declared.expr.Operator.TheVariants as operator'
use Rattle.py_tree.specs.declared.expr.Comparison.{Comparison}
use Rattle.py_tree.specs.declared.expr.Comparison.TheVariants as comparison'
use Rattle.py_heap.specs.declared.value.Value.{Value}
use Rattle.py_heap.specs.declared.value.Value.TheVariants as v
use Rattle.py_heap.specs.declared.fault.ValueFault.{ValueFault}
use Rattle.py_heap.specs.declared.fault.ValueFault.TheVariants as fault
use Rattle.py_heap.specs.Heap.{Objects, Entries, truth_of}
use Rattle.py_heap.specs.Given.{given_text, with_pairs, unkeyed}
use Rattle.py_heap.specs.Units.{Units}
use Rattle.py_compare.specs.Outcomes.{Outcome, new_list, new_tuple, new_dict}
use Rattle.py_compare.specs.Numbers.{fitting}
use Rattle.py_operators.specs.declared.op.Op.{Op}
use Rattle.py_operators.specs.declared.op.Op.TheVariants as op
use Rattle.py_operators.specs.Arithmetic.{negative_of}
use Rattle.py_operators.specs.Binary.{binary_of}
use Rattle.py_meaning.specs.declared.fault.EvalKind.TheVariants as kind
use Rattle.py_meaning.specs.States.{State, goes_on, all_give, with_objects, with_frame, after_operation}
use Rattle.py_meaning.specs.Jobs.{eval, links, operations, collect, tests}
use Rattle.py_meaning.specs.Plans.{Plan, comes_to, first, asks_name, value, faulty, goes, on_value, after, after_all}
use Rattle.py_meaning.specs.Plans.{checked, made, paid}
use Rattle.py_meaning.specs.Lookup.{Found, a_value, unset, outside, found_in, with_inner}
use Rattle.py_meaning.specs.Joined.{shown_field, fields_of, joined_text}
use Rattle.py_meaning.specs.Loops.{Walk, walk_of, next_of, names_of, shared}

abbrev pub constant_value : Constant → Value
constant_value constant'.True = v.Bool true
constant_value constant'.False = v.Bool false
constant_value constant'.None = v.Nil

-- the operator that a comparison is; `in` asks whether its left operand stands in the right one
abbrev pub comparison_op : Comparison → Op
comparison_op comparison'.Equal = op.Eq
comparison_op comparison'.NotEqual = op.Ne
comparison_op comparison'.Less = op.Lt
comparison_op comparison'.LessEqual = op.Le
comparison_op comparison'.Greater = op.Gt
comparison_op comparison'.GreaterEqual = op.Ge
comparison_op comparison'.In = op.Contains
comparison_op comparison'.NotIn = op.NotContains
comparison_op comparison'.Is = op.Is
comparison_op comparison'.IsNot = op.IsNot

-- what a constant text makes; it costs nothing
abbrev pub constant_text : Objects → List ℕ → Result (Value × Objects) ValueFault
constant_text h t = given_text h t

-- the keys and the items of a dict display, one behind another
abbrev pub flat_pairs : Tree → Tree
flat_pairs (cons (pair l k t) ps) = cons k (cons t (flat_pairs ps))
flat_pairs other = nil

abbrev pub paired : List Value → List (Value × Value)
paired (k ∷ x ∷ more) = (k, x) ∷ paired more
paired other = []

abbrev displayed_by : Objects → Units → List (Value × Value) → Option Entries → Outcome
displayed_by h u pairs None = Err (fault.KeyKind (unkeyed h pairs))
displayed_by h u pairs (Some entries) = new_dict h u entries

-- what a dict display makes: of a key that comes twice the last item counts
abbrev pub displayed : Objects → Units → List Value → Outcome
displayed h u values = displayed_by h u (paired values) (with_pairs h [] (paired values))

-- the line of the name that an atom is
abbrev pub named_line : Tree → Option ℕ
named_line (name l n) = Some l
named_line other = None

abbrev name_told : ℕ → List ℕ → State → Option Value → Plan
name_told l n s None = faulty l (kind.Name n) s
name_told l n s (Some x) = value x s

abbrev name_found : ℕ → List ℕ → State → Found → Plan
name_found l n s (a_value x) = value x s
name_found l n s unset = faulty l (kind.Name n) s
name_found l n s outside = asks_name n (name_told l n s)

-- a comprehension has names of its own
abbrev pub inside : State → State
inside s = with_frame s (record s.frame { inner = [] ∷ s.frame.inner })

abbrev outer : State → List (List (List ℕ × Value)) → State
outer s [] = s
outer s (names ∷ more) = with_frame s (record s.frame { inner = more })

abbrev pub outside_again : State → State
outside_again s = outer s s.frame.inner

-- where the test holds the first one, else the other
abbrev pub picked : Bool → Tree → Tree → State → Plan
picked true t u s = goes (eval t) s
picked false t u s = goes (eval u) s

abbrev pub plan_expression : Tree → State → Plan
plan_expression (name l n) s = name_found l n s (found_in s n)
plan_expression (integer l n) s = checked l s (fitting (pos n)) (λ i. value (v.Int i) s)
plan_expression (text l t) s = checked l s (constant_text s.objects t) (λ m. value m.0 (with_objects s m.1))
plan_expression (constant l k) s = value (constant_value k) s
plan_expression (group l t) s = goes (eval t) s
plan_expression (tuple l ts b) s = after_all ts s (λ xs s1. made l s1 (new_tuple s1.objects s1.units xs))
plan_expression (list l ts) s = after_all ts s (λ xs s1. made l s1 (new_list s1.objects s1.units xs))
plan_expression (dict l ps) s = after_all (flat_pairs ps) s (λ xs s1. made l s1 (displayed s1.objects s1.units xs))
-- the source is evaluated outside, the rest inside
plan_expression (comprehension l t ns source ts) s =
    after source s (λ x s1. checked l s1 (walk_of s1.objects x) (λ walk.
    first (collect l walk [] t ns ts) (inside s1) (on_value (λ y s2. value y (outside_again s2)))))
plan_expression (post a ls) s = after a s (λ x s1. goes (links x (named_line a) ls) s1)
plan_expression (negative l t) s = after t s (λ x s1. made l s1 (negative_of s1.objects s1.units x))
plan_expression (not l t) s = after t s (λ x s1. value (v.Bool (turned (truth_of s1.objects x))) s1)
plan_expression (chain t os) s = after t s (λ x s1. goes (operations x os) s1)
plan_expression (compare l k t1 t2) s =
    after t1 s (λ x s1. after t2 s1 (λ y s2. made l s2 (binary_of (comparison_op k) s2.objects s2.units x y)))
-- section 6.13: the test first, then one of the two
plan_expression (choice l t c u) s = after c s (λ x s1. picked (truth_of s1.objects x) t u s1)
-- the fields from left to right, then the whole
plan_expression (joined l ps) s =
    after_all (fields_of ps) s (λ xs s1. made l s1 (joined_text s1.objects s1.units ps xs))
plan_expression (field l t) s = after t s (λ x s1. made l s1 (shown_field s1.objects s1.units x))
-- the value of a named argument
plan_expression (named l n t) s = goes (eval t) s
plan_expression other s = comes_to (goes_on s)

abbrev pub plan_all : Tree → State → Plan
plan_all (cons t ts) s = after t s (λ x s1. after_all ts s1 (λ xs s2. comes_to (all_give (x ∷ xs) s2)))
plan_all other s = comes_to (all_give [] s)

-- `or` gives its left operand where that is true, and `and` where it is false; the right one isn't evaluated then
abbrev decided : Bool → Value → Tree → Tree → State → Plan
decided true x t os s = goes (operations x os) s
decided false x t os s = after t s (λ y s1. goes (operations y os) s1)

abbrev operated : ℕ → Op → Value → Tree → Tree → State → Plan
operated l k x t os s =
    after t s (λ y s1.
    checked l s1 (binary_of k s1.objects s1.units x y) (λ m. goes (operations m.0 os) (after_operation s1 m)))

abbrev pub plan_operations : Value → Tree → State → Plan
plan_operations x (cons (operation l operator'.Or t) os) s = decided (truth_of s.objects x) x t os s
plan_operations x (cons (operation l operator'.And t) os) s = decided (turned (truth_of s.objects x)) x t os s
plan_operations x (cons (operation l operator'.Add t) os) s = operated l op.Add x t os s
plan_operations x (cons (operation l operator'.Subtract t) os) s = operated l op.Sub x t os s
plan_operations x (cons (operation l operator'.Multiply t) os) s = operated l op.Mul x t os s
plan_operations x (cons (operation l operator'.FloorDivide t) os) s = operated l op.FloorDiv x t os s
plan_operations x (cons (operation l operator'.Remainder t) os) s = operated l op.Rem x t os s
plan_operations x other s = value x s

-- names that are bound in a comprehension take values in turn
abbrev pub with_inners : State → List (List ℕ) → List Value → State
with_inners s (n ∷ ns) (x ∷ xs) = with_inners (with_inner s n x) ns xs
with_inners s ns xs = s

-- where the tests hold, the item goes behind the others
abbrev pub kept : ℕ → Walk → List Value → Tree → Tree → Tree → Bool → State → Plan
kept l walk xs t ns ts true s = after t s (λ x s1. goes (collect l walk (xs ++ x ∷ []) t ns ts) s1)
kept l walk xs t ns ts false s = goes (collect l walk xs t ns ts) s

-- each turn costs one unit, and binds the names anew
abbrev turn : ℕ → List Value → Tree → Tree → Tree → Value × Objects × Walk → State → Plan
turn l xs t ns ts next s = paid l s (λ s1. checked l s1 (shared next.1 (names_of ns) next.0) (λ m.
    first (tests l ts) (with_inners (with_objects s1 m.1) (names_of ns) m.0)
    (on_value (λ b s2. kept l next.2 xs t ns ts (truth_of s2.objects b) s2))))

abbrev pub collected : ℕ → List Value → Tree → Tree → Tree → Option (Value × Objects × Walk) → State → Plan
collected l xs t ns ts None s = made l s (new_list s.objects s.units xs)
collected l xs t ns ts (Some next) s = turn l xs t ns ts next s

abbrev pub plan_collect : ℕ → Walk → List Value → Tree → Tree → Tree → State → Plan
plan_collect l walk xs t ns ts s = collected l xs t ns ts (next_of s.objects walk) s

-- the tests from left to right, each for one unit, up to the first that fails
abbrev pub tested : ℕ → Tree → Bool → State → Plan
tested l ts true s = goes (tests l ts) s
tested l ts false s = value (v.Bool false) s

abbrev pub plan_tests : ℕ → Tree → State → Plan
plan_tests l (cons t ts) s = paid l s (λ s1. after t s1 (λ x s2. tested l ts (truth_of s2.objects x) s2))
plan_tests l other s = value (v.Bool true) s
