-- What the tasks of a body stand for: what is left to do, as a plan.
use Rattle.std.specs.Prelude.{ℕ, ◌+◌, Bool, true, false, not, List, [], ◌∷◌, ◌++◌, Option, Some, None, map, reverse}
use Rattle.std.specs.Prelude.{take, drop}
use Rattle.std.specs.declared.boxed.Box.{Box}
use Rattle.std.specs.declared.alloc.Global.{Global}
use Rattle.py_tree.specs.declared.expr.Expr.{Expr}
use Rattle.py_tree.specs.Tree.{Tree, absent, trees, words, expr_tree, pair_tree, argument_tree, operation_tree}
use Rattle.py_tree.specs.Tree.{link_tree, simple_tree, line_tree, branch_tree, parameter_tree, piece_tree}
use Rattle.py_tree.specs.declared.expr.Operator.{Operator}
use Rattle.py_tree.specs.declared.expr.Operator.TheVariants as operator'
use Rattle.py_heap.specs.declared.value.Value.{Value}
use Rattle.py_heap.specs.declared.value.Value.TheVariants as v
use Rattle.py_heap.specs.Heap.{truth_of}
use Rattle.py_compare.specs.Outcomes.{Outcome, new_list, new_tuple}
use Rattle.py_operators.specs.Arithmetic.{negative_of}
use Rattle.py_operators.specs.Binary.{binary_of}
use Rattle.py_operators.specs.Indexing.{sliced}
use Rattle.py_methods.specs.declared.name.Name.{Name}
use Rattle.py_meaning.specs.States.{State, Out, goes_on, breaks, continues, returns, after_operation}
use Rattle.py_meaning.specs.Jobs.{Callee, a_value, a_method, eval, eval_all, links, operations, collect, tests, call}
use Rattle.py_meaning.specs.Jobs.{exec_all, branches, turns, rounds}
use Rattle.py_meaning.specs.Plans.{Plan, comes_to, first, on_value, on_values, checked, bind}
use Rattle.py_meaning.specs.Expressions.{flat_pairs, displayed, inside, outside_again}
use Rattle.py_meaning.specs.Arguments.{arguments_by, defaults_of}
use Rattle.py_meaning.specs.Loops.{walk_of}
use Rattle.py_meaning.specs.Links.{after_item}
use Rattle.py_meaning.specs.Lookup.{with_bound}
use Rattle.py_meaning.specs.Statements.{assigned, augmented_of, after_item_set, defined, round}
use Rattle.py_meaning.specs.Joined.{shown_field, fields_of, joined_text}
use Rattle.py_state.specs.Walks.{plain}
use Rattle.py_steps.specs.Desks.{top, below, above, under}
use Rattle.py_steps.specs.declared.task.Task.{Task}
use Rattle.py_steps.specs.declared.task.Task.TheVariants as task
use Rattle.py_steps.specs.declared.task.Comprehension.{Comprehension}
use Rattle.py_steps.specs.declared.task.Collecting.{Collecting}
use Rattle.py_steps.specs.declared.task.Definition.{Definition}
use Rattle.py_steps.specs.declared.task.Round.{Round}

-- how it goes on with the values that are there, by what was done
abbrev pub Rest : Type 0
Rest = List Value → Out → Plan

-- a value goes on top
abbrev pub gives_on : List Value → Rest → Out → Plan
gives_on vs k = on_value (λ x s. k (x ∷ vs) (goes_on s))

abbrev pub all_on : List Value → Rest → Out → Plan
all_on vs k = on_values (λ xs s. k (reverse xs ++ vs) (goes_on s))

abbrev pub made_on : ℕ → State → Outcome → List Value → Rest → Plan
made_on l s result vs k = checked l s result (λ m. k (m.0 ∷ vs) (goes_on (after_operation s m)))

-- what a call calls: a value, or its method
abbrev pub callee : Value → Option Name → Callee
callee x None = a_value x
callee x (Some name) = a_method x name

-- an end of a slice that is there
abbrev pub end_at : Bool → List Value → Option Value
end_at true vs = Some (top vs)
end_at false vs = None

-- an end that may be left out, as a tree, and a value of one on top of others
abbrev pub end_tree : Option (Box Expr Global) → Tree
end_tree None = absent
end_tree (Some e) = expr_tree e.value

abbrev pub with_end : Option Value → List Value → List Value
with_end None vs = vs
with_end (Some x) vs = x ∷ vs

abbrev pub past : Bool → List Value → List Value
past true vs = below vs
past false vs = vs

abbrev pub slice_on : ℕ → State → Bool → Bool → List Value → Rest → Plan
slice_on l s from to vs k =
    made_on l s (sliced s.objects s.units (top (past from (past to vs))) (end_at from (past to vs)) (end_at to vs))
    (below (past from (past to vs))) k

abbrev pub item_tree : Comprehension → Tree
item_tree c = expr_tree c.item.now

abbrev pub names_tree : Comprehension → Tree
names_tree c = words c.names.now

abbrev pub tests_tree : Comprehension → Tree
tests_tree c = trees (map expr_tree c.tests.now)

-- so many of the uppermost values in the order in which they were given
abbrev pub taken : ℕ → List Value → List Value
taken n vs = reverse (take n vs)

-- a comprehension from a turn on, whose items so far are the uppermost values
abbrev pub collect_on : Collecting → List Value → State → Rest → Plan
collect_on c vs s k =
    first (collect c.comprehension.line (plain c.walk) (taken c.count vs) (item_tree c.comprehension)
    (names_tree c.comprehension) (tests_tree c.comprehension)) s
    (on_value (λ x s1. k (x ∷ drop c.count vs) (goes_on (outside_again s1))))

-- the list of the items, at the end of a comprehension
abbrev pub list_on : Collecting → List Value → State → Rest → Plan
list_on c vs s k = checked c.comprehension.line s (new_list s.objects s.units (taken c.count vs)) (λ m.
    k (m.0 ∷ drop c.count vs) (goes_on (outside_again (after_operation s m))))

-- the item behind those so far, and on
abbrev item_on : Collecting → List Value → State → Rest → Plan
item_on c vs s k = first (eval (item_tree c.comprehension)) s (on_value (λ x s1.
    collect_on (record c { count = c.count + 1 }) (x ∷ vs) s1 k))

abbrev pub by_tests : Collecting → List Value → Rest → Bool → State → Plan
by_tests c vs k true s = item_on c vs s k
by_tests c vs k false s = collect_on c vs s k

abbrev pub tests_on : Collecting → Tree → List Value → State → Rest → Plan
tests_on c ts vs s k =
    first (tests c.comprehension.line ts) s (on_value (λ b s1. by_tests c vs k (truth_of s1.objects b) s1))

abbrev pub by_test : Collecting → Tree → List Value → Rest → Bool → State → Plan
by_test c ts vs k true s = tests_on c ts vs s k
by_test c ts vs k false s = collect_on c vs s k

abbrev pub by_branch : Tree → Tree → Tree → List Value → Rest → Bool → State → Plan
by_branch block bs ls vs k true s = first (exec_all block) s (k vs)
by_branch block bs ls vs k false s = first (branches bs ls) s (k vs)

-- whether `or` or `and` gives its left operand, by whether that is true
abbrev pub is_decided : Operator → Bool → Bool
is_decided operator'.Or holds = holds
is_decided operator'.And holds = not holds
is_decided other holds = false

abbrev pub parameters_in : Definition → Tree
parameters_in d = trees (map parameter_tree d.parameters.now)

-- the first of two trees where something holds, else the other
abbrev pub one_of : Bool → Tree → Tree → Tree
one_of true t u = t
one_of false t u = u

-- a turn of a `while`, if its test holds
abbrev pub by_round : Round → List Value → Rest → Bool → State → Plan
by_round r vs k holds s =
    bind (round r.line (expr_tree r.test.now) (trees (map line_tree r.block.now)) holds s) (k vs)

-- a task in which nothing is called
abbrev pub IsStep : Task → Type 0
IsStep (task.Call l name ts base) = ⊥
IsStep other = Unit {0}

-- what a task does, and how it goes on
abbrev pub does : Task → List Value → State → Rest → Plan
does (task.Evaluate e) vs s k = first (eval (expr_tree e.now)) s (gives_on vs k)
does (task.EvaluateAll es) vs s k = first (eval_all (trees (map expr_tree es.now))) s (all_on vs k)
does (task.Pairs ps) vs s k = first (eval_all (flat_pairs (trees (map pair_tree ps.now)))) s (all_on vs k)
does (task.Arguments ts) vs s k = first (eval_all (trees (map argument_tree ts.now))) s (all_on vs k)
does (task.Defaults ps) vs s k = first (eval_all (defaults_of (trees (map parameter_tree ps.now)))) s (all_on vs k)
does (task.Fields ps) vs s k = first (eval_all (fields_of (trees (map piece_tree ps.now)))) s (all_on vs k)
does (task.Tuple l base) vs s k = made_on l s (new_tuple s.objects s.units (above base vs)) (under base vs) k
does (task.List l base) vs s k = made_on l s (new_list s.objects s.units (above base vs)) (under base vs) k
does (task.Dict l base) vs s k = made_on l s (displayed s.objects s.units (above base vs)) (under base vs) k
does (task.Show l) vs s k = made_on l s (shown_field s.objects s.units (top vs)) (below vs) k
does (task.Join l ps base) vs s k =
    made_on l s (joined_text s.objects s.units (trees (map piece_tree ps.now)) (above base vs)) (under base vs) k
does (task.Pick a b) vs s k =
    first (eval (one_of (truth_of s.objects (top vs)) (expr_tree a.now) (expr_tree b.now))) s (gives_on (below vs) k)
does (task.Negate l) vs s k = made_on l s (negative_of s.objects s.units (top vs)) (below vs) k
does task.Not vs s k = k (v.Bool (not (truth_of s.objects (top vs))) ∷ below vs) (goes_on s)
does (task.Binary l op) vs s k =
    made_on l s (binary_of op s.objects s.units (top (below vs)) (top vs)) (below (below vs)) k
does (task.Operations os) vs s k =
    first (operations (top vs) (trees (map operation_tree os.now))) s (gives_on (below vs) k)
does (task.Links ls named) vs s k =
    first (links (top vs) named (trees (map link_tree ls.now))) s (gives_on (below vs) k)
does (task.Call l name ts base) vs s k =
    first (call l (callee (top (under base vs)) name)
    (arguments_by (trees (map argument_tree ts.now)) (above base vs))) s
    (gives_on (below (under base vs)) k)
does (task.Index l) vs s k = after_item l (top (below vs)) (top vs) s (λ x s1. k (x ∷ below (below vs)) (goes_on s1))
does (task.Slice l from to) vs s k = slice_on l s from to vs k
does (task.Comprehend c) vs s k = checked c.line s (walk_of s.objects (top vs)) (λ walk.
    first (collect c.line walk [] (item_tree c) (names_tree c) (tests_tree c)) (inside s)
    (on_value (λ x s1. k (x ∷ below vs) (goes_on (outside_again s1)))))
does (task.Collect c) vs s k = collect_on c vs s k
does (task.Tests c ts) vs s k = tests_on c (trees (map expr_tree ts.now)) vs s k
does (task.Tested c ts) vs s k = by_test c (trees (map expr_tree ts.now)) (below vs) k (truth_of s.objects (top vs)) s
does (task.Lines ls) vs s k = first (exec_all (trees (map line_tree ls.now))) s (k vs)
does (task.Statements ss) vs s k = first (exec_all (trees (map simple_tree ss.now))) s (k vs)
does task.Forget vs s k = k (below vs) (goes_on s)
does task.Return vs s k = k (below vs) (returns (top vs) s)
does (task.Branches bs ls) vs s k =
    first (branches (trees (map branch_tree bs.now)) (trees (map line_tree ls.now))) s (k vs)
does (task.Choose b bs ls) vs s k =
    by_branch (trees (map line_tree b.now.block.items)) (trees (map branch_tree bs.now))
    (trees (map line_tree ls.now)) (below vs) k (truth_of s.objects (top vs)) s
does (task.Begin t) vs s k = checked t.line s (walk_of s.objects (top vs)) (λ walk.
    first (turns t.line walk (words t.names.now) (trees (map line_tree t.block.now))) s (k (below vs)))
does (task.Turns t walk) vs s k =
    first (turns t.line (plain walk) (words t.names.now) (trees (map line_tree t.block.now))) s (k vs)
does (task.Rounds r) vs s k = first (rounds r.line (expr_tree r.test.now) (trees (map line_tree r.block.now))) s (k vs)
does (task.Round r) vs s k = by_round r (below vs) k (truth_of s.objects (top vs)) s
does (task.Define d base) vs s k =
    k (under base vs) (goes_on (defined d.name.now (parameters_in d) (trees (map line_tree d.block.now.value.items))
    (above base vs) s))
does (task.Assign l t) vs s k =
    bind (assigned l (expr_tree t.now) (top vs) s (λ s1. comes_to (goes_on s1))) (k (below vs))
does (task.Bind n) vs s k = k (below vs) (goes_on (with_bound s n.now (top vs)))
does (task.Load l) vs s k = after_item l (top (below vs)) (top vs) s (λ x s1. k (x ∷ vs) (goes_on s1))
does (task.Augment l op) vs s k =
    made_on l s (augmented_of op s.objects s.units (top (below vs)) (top vs)) (below (below vs)) k
does (task.StoreBelow l) vs s k =
    after_item_set l (top (below vs)) (top vs) (top (below (below vs))) s (λ s1. k (drop 3 vs) (goes_on s1))
does (task.StoreAbove l) vs s k =
    after_item_set l (top (below (below vs))) (top (below vs)) (top vs) s (λ s1. k (drop 3 vs) (goes_on s1))

-- how a body comes out: outside a loop `break` and `continue` go to its end
abbrev pub settled : Out → Out
settled (breaks s) = goes_on s
settled (continues s) = goes_on s
settled other = other

-- the tasks that are left, the uppermost first, by how what was done before came out: `break` and `continue` pass over all
-- tasks within the innermost loop, what a `return` gives and the end of the script over all tasks
abbrev pub left : List Task → List Value → Out → Plan
left [] vs o = comes_to (settled o)
left (t ∷ ts) vs (goes_on s) = does t vs s (left ts)
left (task.Turns t walk ∷ ts) vs (breaks s) = left ts vs (goes_on s)
left (task.Turns t walk ∷ ts) vs (continues s) = does (task.Turns t walk) vs s (left ts)
left (task.Rounds r ∷ ts) vs (breaks s) = left ts vs (goes_on s)
left (task.Rounds r ∷ ts) vs (continues s) = does (task.Rounds r) vs s (left ts)
left (t ∷ ts) vs o = left ts vs o
