-- The tasks of a body and the values that they take, the uppermost first.
use Rattle.std.specs.Prelude.{ℕ, ◌-◌, Bool, true, false, cond, List, [], ◌∷◌, reverse, take, drop, length}
use Rattle.py_heap.specs.declared.value.Value.{Value}
use Rattle.py_heap.specs.declared.value.Value.TheVariants as v
use Rattle.py_steps.specs.declared.desk.Desk.{Desk}
use Rattle.py_steps.specs.declared.task.Task.{Task}
use Rattle.py_steps.specs.declared.task.Task.TheVariants as task

abbrev pub tasks_of : Desk → List Task
tasks_of d = reverse d.tasks.items

abbrev pub values_of : Desk → List Value
values_of d = reverse d.values.items

pub record Stacks : Type 0 where
  pub tasks : List Task
  pub values : List Value

abbrev pub stacks_of : Desk → Stacks
stacks_of d = record { tasks = tasks_of d; values = values_of d }

-- the uppermost value, and those below it
abbrev pub top : List Value → Value
top [] = v.Nil
top (x ∷ vs) = x

abbrev pub below : List Value → List Value
below [] = []
below (x ∷ vs) = vs

-- the values above a height in the order in which they were given, and those under it
abbrev pub above : ℕ → List Value → List Value
above height vs = reverse (take (length vs - height) vs)

abbrev pub under : ℕ → List Value → List Value
under height vs = drop (length vs - height) vs

-- the turns of a loop
abbrev pub is_loop : Task → Bool
is_loop (task.Turns t walk) = true
is_loop (task.Rounds r) = true
is_loop other = false

-- the tasks from the innermost loop on, and those behind it
abbrev pub in_loop : List Task → List Task
in_loop [] = []
in_loop (t ∷ ts) = cond (is_loop t) (t ∷ ts) (in_loop ts)

abbrev pub past_loop : List Task → List Task
past_loop [] = []
past_loop (t ∷ ts) = cond (is_loop t) ts (past_loop ts)
