-- How a statement is run: chapters 7 and 8 of the Python language reference. Each statement costs one unit, on its first line,
-- and each turn of a loop one (own).
use Rattle.std.specs.Prelude.{ℕ, Bool, true, false, List, [], ◌∷◌, ◌++◌, Option, Some, None, Result, Ok, Err, length}
use Rattle.py_tree.specs.Tree.{Tree, nil, cons, absent, name, tuple, post, index, assign, augment, expression, pass}
use Rattle.py_tree.specs.Tree.{break, continue, return, imports, simple, branching, branch, for', while', def}
use Rattle.py_tree.specs.declared.expr.Operator.{Operator}
use Rattle.py_tree.specs.declared.expr.Operator.TheVariants as operator'
use Rattle.py_heap.specs.declared.value.Value.{Value}
use Rattle.py_heap.specs.declared.value.Value.TheVariants as v
use Rattle.py_heap.specs.declared.ids.ListId.{ListId}
use Rattle.py_heap.specs.Heap.{Objects, list_at, with_list_at, truth_of}
use Rattle.py_heap.specs.Units.{Units}
use Rattle.py_compare.specs.Outcomes.{Outcome, then_by, mismatch}
use Rattle.py_operators.specs.declared.op.Op.{Op}
use Rattle.py_operators.specs.declared.op.Op.TheVariants as op
use Rattle.py_operators.specs.Arithmetic.{product_of}
use Rattle.py_operators.specs.Binary.{binary_of}
use Rattle.py_operators.specs.Places.{set_of}
use Rattle.py_methods.specs.declared.name.Name.TheVariants as method
use Rattle.py_methods.specs.Calls.{method_of}
use Rattle.py_host.specs.Calls as question
use Rattle.py_meaning.specs.Arguments.{parameters_by, defaults_of}
use Rattle.py_meaning.specs.Expressions.{named_line}
use Rattle.py_meaning.specs.Jobs.{eval, eval_or_nil, exec, exec_all, branches, turns, rounds, links}
use Rattle.py_meaning.specs.Lines.{first_line}
use Rattle.py_meaning.specs.Links.{after_item}
use Rattle.py_meaning.specs.LocalNames.{local_names}
use Rattle.py_meaning.specs.Loops.{Walk, walk_of, next_of, names_of, unpacked, shared}
use Rattle.py_meaning.specs.Plans.{Plan, comes_to, first, value, goes, on_value, on_end, after, after_all, checked}
use Rattle.py_meaning.specs.Plans.{paid, asked_on}
use Rattle.py_meaning.specs.States.{State, Out, Function, place_at, goes_on, breaks, continues, returns, with_objects}
use Rattle.py_meaning.specs.States.{after_operation}
use Rattle.py_meaning.specs.Lookup.{with_bound}

-- the operator of an augmented assignment
abbrev pub operator_op : Operator → Op
operator_op operator'.Add = op.Add
operator_op operator'.Subtract = op.Sub
operator_op operator'.Multiply = op.Mul
operator_op operator'.FloorDivide = op.FloorDiv
operator_op operator'.Remainder = op.Rem
operator_op operator'.Or = op.Add
operator_op operator'.And = op.Add

-- a list that takes the items of a new one, and is the answer
abbrev taken_over : ℕ → Value × Objects × Units → Outcome
taken_over id (v.List new, h, u) = Ok (v.List (record { 0 = id }), with_list_at h id (list_at h new.0), u)
taken_over id other = Ok other

-- a list with the items of a value behind its own: a text has none to give, as with `+` (own; to Python they are its characters)
abbrev pub grown_of : Objects → Units → ListId → Value → Outcome
grown_of h u id (v.Text t) = mismatch (v.List id) (v.Text t)
grown_of h u id y = then_by (method_of h u (v.List id) method.Extend (y ∷ [])) (λ m. Ok (v.List id, m.1, m.2))

-- section 7.2.1 ("Augmented assignment statements"): a list is extended or repeated in place
abbrev pub augmented_of : Operator → Objects → Units → Value → Value → Outcome
augmented_of operator'.Add h u (v.List id) y = grown_of h u id y
augmented_of operator'.Multiply h u (v.List id) y = then_by (product_of h u (v.List id) y) (taken_over id.0)
augmented_of k h u x y = binary_of (operator_op k) h u x y

-- an index at the end of what stands behind an atom: what stands before it, its line and its key
abbrev pub behind : Tree → Option (Tree × ℕ × Tree) → Option (Tree × ℕ × Tree)
behind link None = None
behind link (Some place) = Some (cons link place.0, place.1, place.2)

abbrev pub last_index : Tree → Option (Tree × ℕ × Tree)
last_index (cons (index l t) nil) = Some (nil, l, t)
last_index (cons link (cons next more)) = behind link (last_index (cons next more))
last_index other = None

abbrev done : State → Plan
done s = comes_to (goes_on s)

-- names bound to values in turn
abbrev pub with_all_bound : State → List (List ℕ) → List Value → State
with_all_bound s (n ∷ ns) (x ∷ xs) = with_all_bound (with_bound s n x) ns xs
with_all_bound s ns xs = s

-- an item set under a key, and on
abbrev pub after_item_set : ℕ → Value → Value → Value → State → (State → Plan) → Plan
after_item_set l (v.Object id) i x s f = asked_on l (question.set_item (place_at l s) id.0 i x) s (λ u s1. f s1)
after_item_set l base i x s f = checked l s (set_of s.objects base i x) (λ h. f (with_objects s h))

-- what stands before the index, then its key
abbrev pub after_place : Tree → Option (Tree × ℕ × Tree) → State → (ℕ → Value → Value → State → Plan) → Plan
after_place a None s f = done s
after_place a (Some place) s f =
    after a s (λ x s1.
    first (links x (named_line a) place.0) s1 (on_value (λ base s2. after place.2 s2 (f place.1 base))))

-- section 7.2 ("Assignment statements"): the value first, then the target
abbrev pub assigned : ℕ → Tree → Value → State → (State → Plan) → Plan
assigned l (name ln n) x s f = f (with_bound s n x)
assigned l (tuple lt ts b) x s f =
    checked l s (unpacked s.objects (length (names_of ts)) x)
    (λ m. f (with_all_bound (with_objects s m.1) (names_of ts) m.0))
assigned l (post a ls) x s f = after_place a (last_index ls) s (λ li base i s1. after_item_set li base i x s1 f)
assigned l other x s f = f s

-- the operator of this line, and on with what it gives
abbrev pub combined : ℕ → Operator → Value → Tree → State → (Value → State → Plan) → Plan
combined l k x e s f =
    after e s (λ y s1. checked l s1 (augmented_of k s1.objects s1.units x y) (λ m. f m.0 (after_operation s1 m)))

-- the target is evaluated once, and before the value
abbrev pub augmented : ℕ → Operator → Tree → Tree → State → Plan
augmented l k (name ln n) e s = after (name ln n) s (λ x s1. combined l k x e s1 (λ y s2. done (with_bound s2 n y)))
augmented l k (post a ls) e s = after_place a (last_index ls) s (λ li base i s1.
    after_item li base i s1 (λ x s2. combined l k x e s2 (λ y s3. after_item_set li base i y s3 done)))
augmented l k other e s = done s

-- section 8.7: the defaults are evaluated when the `def` is run
abbrev pub defined : List ℕ → Tree → Tree → List Value → State → State
defined n ps body xs s =
    let f : Function =
    record {
      name = n;
      script = s.frame.script;
      parameters = parameters_by ps xs;
      locals = local_names ps body;
      body = body;
    } in
    with_bound (record s { functions = s.functions ++ f ∷ [] }) n (v.Func (record { 0 = length s.functions }))

abbrev pub statement : Tree → State → Plan
statement (expression e) s = after e s (λ x s1. done s1)
statement (pass l) s = done s
statement (break l) s = comes_to (breaks s)
statement (continue l) s = comes_to (continues s)
statement (return l e) s = first (eval_or_nil e) s (on_value (λ x s1. comes_to (returns x s1)))
statement (imports l) s = done s
statement (assign l t e) s = after e s (λ x s1. assigned l t x s1 done)
statement (augment l k t e) s = augmented l k t e s
statement (branching bs ls) s = goes (branches bs ls) s
statement (for' l ns e ls) s =
    after e s (λ x s1. checked l s1 (walk_of s1.objects x) (λ walk. goes (turns l walk ns ls) s1))
statement (while' l t ls) s = goes (rounds l t ls) s
statement (def l n ps ls) s = after_all (defaults_of ps) s (λ xs s1. done (defined n ps ls xs s1))
statement other s = done s

-- statements with `;` between them are paid for one by one
abbrev pub plan_exec : Tree → State → Plan
plan_exec (simple ss) s = goes (exec_all ss) s
plan_exec t s = paid (first_line t) s (statement t)

abbrev pub plan_exec_all : Tree → State → Plan
plan_exec_all (cons t ts) s = first (exec t) s (on_end (λ s1. goes (exec_all ts) s1))
plan_exec_all other s = done s

abbrev pub plan_or_nil : Tree → State → Plan
plan_or_nil absent s = value v.Nil s
plan_or_nil t s = goes (eval t) s

-- section 8.1 ("The if statement"): the tests in turn, up to the first that is true
abbrev pub chosen : Bool → Tree → Tree → Tree → State → Plan
chosen true block bs ls s = goes (exec_all block) s
chosen false block bs ls s = goes (branches bs ls) s

abbrev pub plan_branches : Tree → Tree → State → Plan
plan_branches (cons (branch l t block) bs) ls s = after t s (λ x s1. chosen (truth_of s1.objects x) block bs ls s1)
plan_branches other ls s = goes (exec_all ls) s

-- `continue` goes on with the next turn, `break` leaves this loop
abbrev pub after_turn : (State → Plan) → Out → Plan
after_turn f (goes_on s) = f s
after_turn f (continues s) = f s
after_turn f (breaks s) = done s
after_turn f other = comes_to other

abbrev pub turned : ℕ → Tree → Tree → Option (Value × Objects × Walk) → State → Plan
turned l ns block None s = done s
turned l ns block (Some next) s = paid l s (λ s1. checked l s1 (shared next.1 (names_of ns) next.0) (λ m.
    first (exec_all block) (with_all_bound (with_objects s1 m.1) (names_of ns) m.0)
    (after_turn (λ s2. goes (turns l next.2 ns block) s2))))

abbrev pub plan_turns : ℕ → Walk → Tree → Tree → State → Plan
plan_turns l walk ns block s = turned l ns block (next_of s.objects walk) s

-- section 8.2 ("The while statement"): the test before each turn, which costs one unit where the test holds
abbrev pub round : ℕ → Tree → Tree → Bool → State → Plan
round l t block true s =
    paid l s (λ s1. first (exec_all block) s1 (after_turn (λ s2. goes (rounds l t block) s2)))
round l t block false s = done s

abbrev pub plan_rounds : ℕ → Tree → Tree → State → Plan
plan_rounds l t block s = after t s (λ x s1. round l t block (truth_of s1.objects x) s1)
